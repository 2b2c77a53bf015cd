use Rattle.std.proofs.Common.{◌≡◌, ℕ, ◌<◌, get_or, vec_len}
use Rattle.pipes.proofs.seat.Seat.all.Given as goal

abbrev pub invariant-loop-number : goal.invariant-loop-number
invariant-loop-number l = (vec_len l.seats ≡ l.number) × ((n : ℕ) → n < l.number → get_or l.seats.items n 0 ≡ n)
