use Rattle.std.proofs.Common.{sym, subst}
use Rattle.model.specs.declared.layout.Layout.TheVariants.{Version1}
use Rattle.model.specs.declared.record.Record.{Record}
use Rattle.wbl_engine.specs.Lawful.{IsUndamaged}
use Rattle.wbl_migrate.proofs.MovableLemmas.{as_it_is}
use Rattle.wbl_migrate.proofs.laws.undamaged_images_are_movable.Goals as goal

pub returns : goal.returns
returns c lines r s image old gapless last =
    record {
      undamaged = subst (λ (q : Record). IsUndamaged lines q image) (sym (as_it_is r Version1 old.layout)) old.undamaged;
      map = old.map;
      gapless = gapless;
      last = last;
    }
