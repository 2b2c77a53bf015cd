use Rattle.std.proofs.Common.{◌≡◌, ◌+◌, length}
use Rattle.std.specs.VecDeque.{deque_capacity}
use Rattle.standby_stream.specs.Stream.{above}
use Rattle.standby_stream.proofs.link.drop_known.Given as goal

abbrev pub invariant-loop-frame : goal.invariant-loop-frame
invariant-loop-frame l = record {
  above_is : above l.position l.kept.items ≡ above l.position l.initial.kept.items;
  count : l.dropped + length l.kept.items ≡ length l.initial.kept.items;
  capacity : deque_capacity l.kept ≡ deque_capacity l.initial.kept;
}

abbrev pub decreases-loop-frame : goal.decreases-loop-frame
decreases-loop-frame l = length l.kept.items
