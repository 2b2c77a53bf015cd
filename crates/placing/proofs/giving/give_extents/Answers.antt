use Rattle.std.proofs.Common.{rules}
use Rattle.placing.proofs.GivingLemmas.{giving-extents-step}
use Rattle.placing.proofs.giving.give_extents.Goals as goal

pub loop-extent-preserved : goal.loop-extent-preserved
loop-extent-preserved c =
    giving-extents-step c.args.heap.now c.args.extents.now c.loop-extent.heap c.loop-extent.extent-index _ c.loop-extent.invariant c.loop-extent-test.true (search rules) c.give.new.self c.give.ensures.after
