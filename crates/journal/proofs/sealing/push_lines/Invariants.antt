use Rattle.std.proofs.Common.{◌≡◌, ◌+◌, ◌*◌, ◌++◌, take, get_or, vec_len, vec_capacity}
use Rattle.journal.specs.Record.{lines_of}
use Rattle.journal.proofs.sealing.push_lines.Given as goal

abbrev pub invariant-loop-number : goal.invariant-loop-number
invariant-loop-number l =
    (l.words.items ≡ l.fn.words.items ++ lines_of (λ word. get_or l.image word 0) (take l.number-index l.numbers))
    × (vec_len l.words ≡ vec_len l.fn.words + 8 * l.number-index)
    × (vec_capacity l.words ≡ vec_capacity l.fn.words)
