use Rattle.std.proofs.Common.{ℕ, sym, subst}
use Rattle.pmem.proofs.Chaining.{Runs-none}
use Rattle.model.specs.Layout.{directory_room}
use Rattle.model.specs.Group.{IsPlaced, HasItsLines}
use Rattle.wbl_engine.specs.Stage.{IsWritable}
use Rattle.wbl_engine.proofs.StagingLemmas.{all_item, all_next, next_put_stored}
use Rattle.wbl_engine.proofs.copying.store_puts.Goals as goal

pub loop-put-init : goal.loop-put-init
loop-put-init g c = (Runs-none (g.P.Pmem.state c.args.device.now), tt)

pub store_put-requires-clause-placed : goal.store_put-requires-clause-placed
store_put-requires-clause-placed g c =
    subst (λ (lines : ℕ). IsPlaced (directory_room lines) lines c.put-item.result) (sym c.loop-put.invariant.0.stays.lines)
    (all_item (IsPlaced (directory_room (g.P.Pmem.state c.args.device.now).lines) (g.P.Pmem.state c.args.device.now).lines)
    c.args.puts.now c.loop-put.put-index c.put-item.result c.loop-put-test.true c.put-item.is c.requires.placed)

pub store_put-requires-clause-fitting : goal.store_put-requires-clause-fitting
store_put-requires-clause-fitting g c =
    all_item HasItsLines c.args.puts.now c.loop-put.put-index c.put-item.result c.loop-put-test.true c.put-item.is c.requires.fitting

pub loop-put-preserved : goal.loop-put-preserved
loop-put-preserved g c = (
  next_put_stored c.args.stamp c.args.position c.args.puts.now c.loop-put.put-index c.put-item.result c.loop-put-test.true c.put-item.is
      c.loop-put.invariant.0 c.store_put.ensures.stored,
  all_next IsWritable c.args.puts.now c.loop-put.put-index c.put-item.result c.loop-put-test.true c.put-item.is c.loop-put.invariant.1
      c.store_put.ensures.writable,
)
