use Rattle.std.proofs.Common.{◌≡◌, ◌+◌, ◌≤◌, drop}
use Rattle.journal.specs.Record.{zeros}
use Rattle.journal.proofs.sealing.count_zeros.Given as goal

abbrev pub invariant-loop-word : goal.invariant-loop-word
invariant-loop-word l = (l.count + zeros (drop l.word-index l.words) ≡ zeros l.words) × (l.count ≤ l.word-index)
