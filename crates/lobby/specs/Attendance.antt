-- What a contract sees of an entrance: the book of its lobby, and the connections that wait, the oldest arrival first.
use Rattle.std.specs.Prelude.{◌≡◌, ℕ, ◌==◌, Bool, false, not, List, ◌++◌, map, filter, Some, if◌then◌else◌, nat_lt, count_by, slice_get}
use Rattle.std.specs.List.{list_any}
use Rattle.pipes.specs.declared.limits.TheConstants.{MAX_SEATS}
use Rattle.lobby.specs.declared.arrival.Arrival.{Arrival}
use Rattle.lobby.specs.Book.{Book, Status, taken, free_numbers, taken_numbers}

-- whether the number is among those that wait
abbrev pub waits : List ℕ → ℕ → Bool
waits waiting number = list_any (λ other. other == number) waiting

-- the taken numbers that do not wait: each seat is with whoever was given it
abbrev pub held_numbers : List Status → List ℕ → List ℕ
held_numbers statuses waiting = filter (λ number. not (waits waiting number)) (taken_numbers 0 statuses)

-- free, held and waiting numbers together are 0 to 1,023, each once
abbrev pub AreEachOnce : List Status → List ℕ → Type 0
AreEachOnce statuses waiting = (number : ℕ) →
    count_by (λ n. n == number) (free_numbers 0 statuses ++ held_numbers statuses waiting ++ waiting) ≡ (if nat_lt number MAX_SEATS then 1 else 0)

module _ {I O : Type 0} where
  -- the numbers of the seats of these arrivals
  abbrev pub numbers_of : List (Arrival I O) → List ℕ
  numbers_of arrivals = map (λ arrival. arrival.seat) arrivals

pub record Attendance (I O : Type 0) : Type 0 where
  pub book : Book
  pub arrivals : List (Arrival I O)
  pub each_once : AreEachOnce book.statuses (numbers_of arrivals)

-- the seat of this number was given out, and is not waiting
abbrev pub IsHeld : {I O : Type 0} → Attendance I O → ℕ → Type 0
IsHeld attendance number =
    (slice_get attendance.book.statuses number ≡ Some taken) × (waits (numbers_of attendance.arrivals) number ≡ false)
