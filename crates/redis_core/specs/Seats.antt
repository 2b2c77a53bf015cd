-- The sessions of the connections that have a seat, by the number of the seat.
use Rattle.std.specs.Prelude.{◌≡◌, ℕ, Bool, not, List, length, map, Option, Some, None, is_some, slice_index_or, IsSome}
use Rattle.pipes.specs.declared.limits.TheConstants.{MAX_SEATS}
use Rattle.multi_watch.specs.declared.sessions.SessionNo.{SessionNo}
use Rattle.multi_watch.specs.Session.{Session}
use Rattle.multi_watch.specs.Sessions.{Sessions, slot}

-- no connection is open there
abbrev pub is_closed_at : Sessions → ℕ → Bool
is_closed_at sessions seat = not (is_some (slot sessions seat))

-- the session with this number; a closed seat has none
abbrev pub session_numbered : Sessions → Option SessionNo → Option Session
session_numbered sessions None = None
session_numbered sessions (Some number) = slot sessions number.0

-- the session of each seat
abbrev pub by_seat : Sessions → List (Option SessionNo) → Sessions
by_seat sessions numbers = map (session_numbered sessions) numbers

-- the number of the session at this seat, and none where the seat is closed
abbrev pub number_at : List (Option SessionNo) → ℕ → Option SessionNo
number_at numbers seat = slice_index_or numbers seat None

-- some seat has this number
abbrev pub IsHeld : List (Option SessionNo) → ℕ → Type 0
IsHeld numbers n = (seat : ℕ) × (number : SessionNo) × (number_at numbers seat ≡ Some number) × (number.0 ≡ n)

-- The number at a seat is that of an open session, and no other seat has it. No session is open but at a seat.
pub record AreSeats (sessions : Sessions) (numbers : List (Option SessionNo)) : Type 0 where
  pub complete : length numbers ≡ MAX_SEATS
  pub are_open : (seat : ℕ) (number : SessionNo) → number_at numbers seat ≡ Some number → IsSome (slot sessions number.0)
  pub are_apart : (a b : ℕ) (x y : SessionNo) → number_at numbers a ≡ Some x → number_at numbers b ≡ Some y → x.0 ≡ y.0 → a ≡ b
  pub are_held : (n : ℕ) → IsSome (slot sessions n) → IsHeld numbers n
