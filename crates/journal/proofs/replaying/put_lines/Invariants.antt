use Rattle.std.proofs.Common.{◌≡◌, ℕ, ◌*◌, drop, get_or, vec_capacity}
use Rattle.journal.specs.Replay.{with_lines}
use Rattle.journal.proofs.replaying.put_lines.Given as goal

abbrev pub invariant-loop-number : goal.invariant-loop-number
invariant-loop-number l =
    ((word : ℕ) → with_lines (drop l.number-index l.numbers) l.rest (λ w. get_or l.image.items w 0) word
    ≡ with_lines l.numbers l.words (λ w. get_or l.fn.image.items w 0) word)
    × (l.rest ≡ drop (8 * l.number-index) l.words)
    × (vec_capacity l.image ≡ vec_capacity l.fn.image)
