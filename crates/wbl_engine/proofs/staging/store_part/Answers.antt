use Rattle.std.proofs.Common.{List, subst}
use Rattle.kv_types.specs.declared.place.EntryNo.{EntryNo}
use Rattle.pmem.specs.Runs.{Runs, stores}
use Rattle.model.specs.declared.group.PlacedChange.{PlacedChange}
use Rattle.model.specs.Group.{puts_of_part}
use Rattle.wbl_engine.specs.Stage.{puts_of_changes, puts_pairs, end_pairs}
use Rattle.heap_layout.proofs.LayoutRuns.{Runs-more_stores}
use Rattle.wbl_engine.proofs.staging.store_part.Goals as goal

pub returns-clause-stored : goal.returns-clause-stored
returns-clause-stored g c =
    let part = c.args.part.now in
    Runs-more_stores (puts_pairs c.args.stamp part.position (puts_of_part part)) (end_pairs c.args.stamp part.ended.items)
    (subst
    (λ (changes : List PlacedChange).
    Runs (g.P.Pmem.state c.args.device.now) (g.P.Pmem.state c.store_puts.new.device)
    (stores (puts_pairs c.args.stamp part.position (puts_of_changes changes)) (g.P.Pmem.state c.args.device.now).words))
    c.as_slice.ensures.value c.store_puts.ensures.stored)
    (subst
    (λ (ended : List EntryNo).
    Runs (g.P.Pmem.state c.store_puts.new.device) (g.P.Pmem.state c.store_ends.new.device)
    (stores (end_pairs c.args.stamp ended) (g.P.Pmem.state c.store_puts.new.device).words))
    c.as_slice-2.ensures.value c.store_ends.ensures)
