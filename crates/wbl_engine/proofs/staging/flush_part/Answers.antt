use Rattle.std.proofs.Common.{List, subst}
use Rattle.kv_types.specs.declared.place.EntryNo.{EntryNo}
use Rattle.pmem.specs.Runs.{Runs, flushes}
use Rattle.model.specs.declared.group.PlacedChange.{PlacedChange}
use Rattle.model.specs.Group.{puts_of_part}
use Rattle.wbl_engine.specs.Stage.{puts_of_changes, puts_lines, end_lines}
use Rattle.heap_layout.proofs.LayoutRuns.{Runs-more_flushes}
use Rattle.wbl_engine.proofs.staging.flush_part.Goals as goal

pub returns : goal.returns
returns g c =
    let part = c.args.part.now in
    Runs-more_flushes (puts_lines (puts_of_part part)) (end_lines part.ended.items)
    (subst
    (λ (changes : List PlacedChange).
    Runs (g.P.Pmem.state c.args.device.now) (g.P.Pmem.state c.flush_puts.new.device)
    (flushes (puts_lines (puts_of_changes changes)) (g.P.Pmem.state c.args.device.now).words))
    c.as_slice.ensures.value c.flush_puts.ensures)
    (subst
    (λ (ended : List EntryNo).
    Runs (g.P.Pmem.state c.flush_puts.new.device) (g.P.Pmem.state c.flush_ends.new.device)
    (flushes (end_lines ended) (g.P.Pmem.state c.flush_puts.new.device).words))
    c.as_slice-2.ensures.value c.flush_ends.ensures)
