use Rattle.std.proofs.Common.{◌≡◌}
use Rattle.std.specs.VecDeque.Iter.{deque_iter_rest}
use Rattle.standby_stream.specs.Leading.{end_of, ending_above, followed_by}
use Rattle.standby_stream.proofs.leading.lead_over.Given as goal

abbrev pub invariant-loop-frame : goal.invariant-loop-frame
invariant-loop-frame l = record {
  epoch_is : l.whole.epoch ≡ l.initial.whole.epoch;
  before : l.whole.before ≡ l.initial.whole.before;
  ends : end_of l.whole.after (ending_above l.initial.whole.before (deque_iter_rest l.frame-iterator)) ≡ end_of l.initial.whole.after (ending_above l.initial.whole.before l.frames.items);
  changes_are : followed_by l.whole.changes.items (ending_above l.initial.whole.before (deque_iter_rest l.frame-iterator))
      ≡ followed_by l.initial.whole.changes.items (ending_above l.initial.whole.before l.frames.items);
}
