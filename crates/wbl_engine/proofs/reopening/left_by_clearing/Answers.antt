use Rattle.std.proofs.Common.{sym, ◌∙◌}
use Rattle.pmem.specs.Crash.{image_of}
use Rattle.model.specs.Layout.{entries_of_lines}
use Rattle.wbl_engine.proofs.ListedEntries.{left_gapped}
use Rattle.wbl_engine.proofs.reopening.left_by_clearing.Goals as goal

pub returns-then-not-is_full : goal.returns-then-not-is_full
returns-then-not-is_full g c =
    let state = g.P.Pmem.state c.args.device.now in
    c.requires.gapped
    ∙ left_gapped c.args.current.now (image_of state.words) (entries_of_lines c.args.current.now.layout state.lines)
    (sym c.is_full.ensures ∙ c.if-not-is_full.true)
