use Rattle.std.proofs.Common.{◌≡◌, ◌++◌, length}
use Rattle.cmd_hash.specs.Whole.{by_turns}
use Rattle.cmd_hash.proofs.whole.by_turns.Given as goal

abbrev pub invariant-loop-left : goal.invariant-loop-left
invariant-loop-left l = l.bulks.items ++ by_turns l.left ≡ by_turns l.fn.fields

abbrev pub decreases-loop-left : goal.decreases-loop-left
decreases-loop-left l = length l.left
