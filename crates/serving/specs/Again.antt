-- The seats that are served again in the next round.
use Rattle.std.specs.Prelude.{◌≡◌, ℕ, ◌<◌, ◌≤◌, ◌++◌, ◌∷◌, [], Bool, true, false, List, length, Option, Some, None, slice_index_or}
use Rattle.pipes.specs.declared.limits.TheConstants.{MAX_SEATS}
use Rattle.wakes.specs.declared.seat_number.SeatNumber.{SeatNumber}

abbrev pub number_of : SeatNumber → ℕ
number_of seat = seat.number

-- by whether it was listed: it is the last then; it is not only where as many are as there are seats
abbrev pub Lists : ℕ → List ℕ → List ℕ → Bool → Type 0
Lists number old new true = new ≡ old ++ number ∷ []
Lists number old new false = (new ≡ old) × (MAX_SEATS ≤ length old)

-- who stands in a list behind so many, or that nobody does
abbrev pub StandsAt : List ℕ → ℕ → Option ℕ → Type 0
StandsAt listed at (Some number) = (at < length listed) × (slice_index_or listed at number ≡ number)
StandsAt listed at None = length listed ≤ at
