use Rattle.std.proofs.Common.{◌≡◌, ◌-◌, ◌≤◌, ◌⊎◌, ◌++◌, vec_len, vec_capacity, replicate}
use Rattle.journal.proofs.replaying.fill.Given as goal

abbrev pub invariant-loop-words : goal.invariant-loop-words
invariant-loop-words l =
    (l.words.items ≡ l.fn.words.items ++ replicate (vec_len l.words - vec_len l.fn.words) 0)
    × (vec_len l.fn.words ≤ vec_len l.words)
    × ((vec_len l.words ≡ vec_len l.fn.words) ⊎ (vec_len l.words ≤ l.count))
    × (vec_capacity l.words ≡ vec_capacity l.fn.words)

abbrev pub decreases-loop-words : goal.decreases-loop-words
decreases-loop-words l = l.count - vec_len l.words
