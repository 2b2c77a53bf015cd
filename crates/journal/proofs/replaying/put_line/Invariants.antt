use Rattle.std.proofs.Common.{◌≡◌, ℕ, ◌+◌, ◌-◌, ◌≤◌, ◌&&◌, cond, nat_le, nat_lt, get_or, vec_len, vec_capacity}
use Rattle.journal.proofs.replaying.put_line.Given as goal

abbrev pub invariant-loop-i : goal.invariant-loop-i
invariant-loop-i l =
    ((word : ℕ) → get_or l.image.items word 0 ≡ cond (nat_le l.first word && nat_lt word (l.first + l.i)) (get_or l.words (word - l.first) 0) (get_or l.fn.image.items word 0))
    × (l.first + 8 ≤ vec_len l.image)
    × (vec_capacity l.image ≡ vec_capacity l.fn.image)
