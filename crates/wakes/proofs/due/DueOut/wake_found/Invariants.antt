use Rattle.std.proofs.Common.{◌≡◌, ◌++◌, length}
use Rattle.wakes.specs.Waiting.{woken_at, found_at, due_first, not_due_first}
use Rattle.wakes.proofs.due.DueOut.wake_found.Given as goal

-- what was taken and what is still to be taken together are all that are due
abbrev pub invariant-loop-self : goal.invariant-loop-self
invariant-loop-self l = record {
  woken : woken_at l.self ++ due_first l.known (found_at l.self) ≡ woken_at l.initial.self ++ due_first l.known (found_at l.initial.self);
  left : not_due_first l.known (found_at l.self) ≡ not_due_first l.known (found_at l.initial.self);
}

abbrev pub decreases-loop-self : goal.decreases-loop-self
decreases-loop-self l = length (found_at l.self)
