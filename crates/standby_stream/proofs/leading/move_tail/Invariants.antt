use Rattle.std.proofs.Common.{◌≡◌, ◌≤◌, length, ◌++◌}
use Rattle.std.specs.VecDeque.{deque_capacity}
use Rattle.standby_stream.proofs.leading.move_tail.Given as goal

abbrev pub invariant-loop-from : goal.invariant-loop-from
invariant-loop-from l = record {
  all : l.from.items ++ l.to.items ≡ l.initial.from.items;
  within : l.index ≤ length l.from.items;
  capacity : deque_capacity l.to ≡ deque_capacity l.initial.to;
}

abbrev pub decreases-loop-from : goal.decreases-loop-from
decreases-loop-from l = length l.from.items
