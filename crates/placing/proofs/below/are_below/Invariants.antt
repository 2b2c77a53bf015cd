use Rattle.std.proofs.Common.{◌≡◌, drop}
use Rattle.mv_keyspace.specs.Table.{puts_of}
use Rattle.placing.specs.Below.{are_below}
use Rattle.placing.proofs.below.are_below.Given as goal

abbrev pub invariant-loop-change : goal.invariant-loop-change
invariant-loop-change l = are_below l.end (puts_of (drop l.change-index l.placed)) ≡ are_below l.end (puts_of l.placed)
