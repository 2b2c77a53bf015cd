use Rattle.std.proofs.Common.{ℕ, sym, subst}
use Rattle.std.specs.List.{AllByRecursion}
use Rattle.pmem.proofs.Chaining.{Runs-none}
use Rattle.model.specs.Layout.{directory_room}
use Rattle.model.specs.Group.{IsPlaced, HasItsLines, puts_of_part}
use Rattle.wbl_engine.specs.Stage.{IsWritable}
use Rattle.wbl_engine.proofs.StagingLemmas.{all_of_item, all_more, parts_stored}
use Rattle.wbl_engine.proofs.staging.store_parts.Goals as goal

pub loop-i-init : goal.loop-i-init
loop-i-init g c = (Runs-none (g.P.Pmem.state c.args.device.now), tt)

pub store_part-requires-clause-placed : goal.store_part-requires-clause-placed
store_part-requires-clause-placed g c =
    subst (λ (lines : ℕ). AllByRecursion (IsPlaced (directory_room lines) lines) (puts_of_part c.index-parts-i.result)) (sym c.loop-i.invariant.0.stays.lines)
    (all_of_item (IsPlaced (directory_room (g.P.Pmem.state c.args.device.now).lines) (g.P.Pmem.state c.args.device.now).lines) puts_of_part
    c.args.parts.now c.loop-i.i c.index-parts-i.result
    c.loop-i-test.true c.index-parts-i.is c.requires.placed)

pub store_part-requires-clause-fitting : goal.store_part-requires-clause-fitting
store_part-requires-clause-fitting g c =
    all_of_item HasItsLines puts_of_part c.args.parts.now c.loop-i.i c.index-parts-i.result c.loop-i-test.true c.index-parts-i.is c.requires.fitting

pub loop-i-preserved : goal.loop-i-preserved
loop-i-preserved g c = (
  parts_stored c.args.stamp c.args.parts.now c.loop-i.i c.index-parts-i.result c.loop-i-test.true c.index-parts-i.is c.loop-i.invariant.0
      c.store_part.ensures.stored,
  all_more IsWritable puts_of_part c.args.parts.now c.loop-i.i c.index-parts-i.result c.loop-i-test.true c.index-parts-i.is c.loop-i.invariant.1
      c.store_part.ensures.writable,
)
