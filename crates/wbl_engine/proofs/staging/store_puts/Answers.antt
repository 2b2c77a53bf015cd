use Rattle.std.proofs.Common.{ℕ, sym, subst}
use Rattle.std.specs.List.{AllByRecursion}
use Rattle.pmem.proofs.Chaining.{Runs-none}
use Rattle.model.specs.Layout.{directory_room}
use Rattle.model.specs.Group.{IsPlaced, HasItsLines, put_of}
use Rattle.wbl_engine.specs.Stage.{IsWritable}
use Rattle.wbl_engine.proofs.StagingLemmas.{all_of_item, all_more, changes_stored}
use Rattle.wbl_engine.proofs.staging.store_puts.Goals as goal

pub loop-change-init : goal.loop-change-init
loop-change-init g c = (Runs-none (g.P.Pmem.state c.args.device.now), tt)

pub store_change-requires-clause-placed : goal.store_change-requires-clause-placed
store_change-requires-clause-placed g c =
    subst (λ (lines : ℕ). AllByRecursion (IsPlaced (directory_room lines) lines) (put_of c.change-item.result)) (sym c.loop-change.invariant.0.stays.lines)
    (all_of_item (IsPlaced (directory_room (g.P.Pmem.state c.args.device.now).lines) (g.P.Pmem.state c.args.device.now).lines) put_of
    c.args.changes.now c.loop-change.change-index c.change-item.result
    c.loop-change-test.true c.change-item.is c.requires.placed)

pub store_change-requires-clause-fitting : goal.store_change-requires-clause-fitting
store_change-requires-clause-fitting g c =
    all_of_item HasItsLines put_of c.args.changes.now c.loop-change.change-index c.change-item.result c.loop-change-test.true c.change-item.is
    c.requires.fitting

pub loop-change-preserved : goal.loop-change-preserved
loop-change-preserved g c = (
  changes_stored c.args.stamp c.args.position c.args.changes.now c.loop-change.change-index c.change-item.result c.loop-change-test.true
      c.change-item.is c.loop-change.invariant.0 c.store_change.ensures.stored,
  all_more IsWritable put_of c.args.changes.now c.loop-change.change-index c.change-item.result c.loop-change-test.true c.change-item.is
      c.loop-change.invariant.1 c.store_change.ensures.writable,
)
