use Rattle.std.proofs.Common.{sym, ap, ◌∙◌}
use Rattle.model.specs.Layout.{version}
use Rattle.model.proofs.LayoutLemmas.{same_version}
use Rattle.wbl_migrate.proofs.laws.images_are_at_one_stage.Goals as goal

pub returns : goal.returns
returns c a b lines r q s t image in_a in_b =
    same_version a b (sym (in_a.1.superblock.version ∙ ap version in_a.0) ∙ (in_b.1.superblock.version ∙ ap version in_b.0))
