use Rattle.std.proofs.Common.{◌≡◌, ◌++◌, length}
use Rattle.primary.proofs.ahead.take_ahead.Given as goal

abbrev pub decreases-loop-item : goal.decreases-loop-item
decreases-loop-item g l = length l.ahead.items

abbrev pub invariant-loop-item : goal.invariant-loop-item
invariant-loop-item g l =
    (l.back.work.items ++ l.ahead.items ≡ l.fn.back.work.items ++ l.fn.ahead.items)
    × (l.back.committer ≡ l.fn.back.committer)
