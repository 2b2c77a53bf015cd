use Rattle.std.proofs.Common.{◌≡◌, ◌+◌, ◌++◌, take, vec_len, vec_capacity}
use Rattle.journal.proofs.sealing.push_all.Given as goal

abbrev pub invariant-loop-word : goal.invariant-loop-word
invariant-loop-word l =
    (l.words.items ≡ l.fn.words.items ++ take l.word-index l.more)
    × (vec_len l.words ≡ vec_len l.fn.words + l.word-index)
    × (vec_capacity l.words ≡ vec_capacity l.fn.words)
