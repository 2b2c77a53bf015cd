use Rattle.std.proofs.Common.{◌≡◌, ◌++◌, List, length}
use Rattle.model.specs.declared.group.PlacedChange.{PlacedChange}
use Rattle.mv_keyspace.specs.Slots.{AreKeyed}
use Rattle.mv_keyspace.proofs.clearing.around_clear.Given as goal

abbrev pub invariant-loop-change : goal.invariant-loop-change
invariant-loop-change l = (later : List PlacedChange) × (l.changes ≡ l.rest ++ later) × AreKeyed later

abbrev pub decreases-loop-change : goal.decreases-loop-change
decreases-loop-change l = length l.rest
