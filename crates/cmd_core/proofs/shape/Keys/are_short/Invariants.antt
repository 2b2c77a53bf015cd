use Rattle.std.proofs.Common.{◌≡◌, length}
use Rattle.cmd_core.specs.Shape.{are_short}
use Rattle.cmd_core.proofs.shape.Keys.are_short.Given as goal

abbrev pub invariant-loop-words : goal.invariant-loop-words
invariant-loop-words l = are_short l.keys l.words ≡ are_short l.fn.self l.fn.arguments

abbrev pub decreases-loop-words : goal.decreases-loop-words
decreases-loop-words l = length l.words
