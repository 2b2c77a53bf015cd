use Rattle.std.proofs.Common.{drop}
use Rattle.placing.proofs.GivingLemmas.{GivingExtents}
use Rattle.placing.proofs.giving.give_extents.Given as goal

abbrev pub invariant-loop-extent : goal.invariant-loop-extent
invariant-loop-extent l = GivingExtents l.fn.heap l.extents l.heap (drop l.extent-index l.extents)
