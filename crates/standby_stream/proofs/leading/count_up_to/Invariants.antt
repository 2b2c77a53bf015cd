use Rattle.std.proofs.Common.{◌≡◌, ◌+◌, length}
use Rattle.std.specs.VecDeque.Iter.{deque_iter_rest}
use Rattle.standby_stream.specs.Copying.{above}
use Rattle.standby_stream.proofs.leading.count_up_to.Given as goal

abbrev pub invariant-loop-frame : goal.invariant-loop-frame
invariant-loop-frame l = record {
  counted : l.count + length (deque_iter_rest l.frame-iterator) ≡ length l.frames.items;
  above_is : above l.position (deque_iter_rest l.frame-iterator) ≡ above l.position l.frames.items;
}
