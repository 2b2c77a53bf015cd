use Rattle.std.proofs.Common.{◌≡◌, drop}
use Rattle.journal.specs.Record.{are_below}
use Rattle.journal.proofs.replaying.are_below.Given as goal

abbrev pub invariant-loop-number : goal.invariant-loop-number
invariant-loop-number l = are_below l.lines (drop l.number-index l.numbers) ≡ are_below l.lines l.numbers
