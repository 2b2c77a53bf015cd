use Rattle.std.proofs.Common.{◌≡◌, length, take}
use Rattle.inbound.specs.ToCome.{to_come}
use Rattle.inbound.proofs.Giving.{GivenSoFar}
use Rattle.connections.proofs.asking.drain.Given as goal

abbrev pub invariant-loop-item : goal.invariant-loop-item
invariant-loop-item l = record {
  given : GivenSoFar l.initial.asked.items l.asked.items l.initial.inbound l.inbound;
  behind : take (length l.initial.asked.items) l.asked.items ≡ l.initial.asked.items;
}

abbrev pub decreases-loop-item : goal.decreases-loop-item
decreases-loop-item l = length (to_come l.inbound)
