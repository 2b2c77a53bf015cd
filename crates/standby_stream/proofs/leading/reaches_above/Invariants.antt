use Rattle.std.proofs.Common.{◌≡◌}
use Rattle.std.specs.VecDeque.Iter.{deque_iter_rest}
use Rattle.standby_stream.specs.Leading.{reaches_above}
use Rattle.standby_stream.proofs.leading.reaches_above.Given as goal

abbrev pub invariant-loop-frame : goal.invariant-loop-frame
invariant-loop-frame l = reaches_above l.position (deque_iter_rest l.frame-iterator) ≡ reaches_above l.position l.frames.items
