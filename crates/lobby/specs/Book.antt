-- What a contract sees of a lobby: for each seat number, from 0 on, whether it is free or taken.
use Rattle.std.specs.Prelude.{◌≡◌, ℕ, suc, ◌==◌, List, [], ◌∷◌, ◌++◌, length, Some, if◌then◌else◌, nat_lt, count_by, slice_get, slice_set}
use Rattle.pipes.specs.declared.limits.TheConstants.{MAX_SEATS}

-- whether a number's seat is in the lobby or with the connection to which the lobby gave it
pub data Status : Type 0 where
  free : Status
  taken : Status

-- the free numbers, where the first status is that of the number `first`
abbrev pub free_numbers : ℕ → List Status → List ℕ
free_numbers first [] = []
free_numbers first (free ∷ others) = first ∷ free_numbers (suc first) others
free_numbers first (taken ∷ others) = free_numbers (suc first) others

-- the taken numbers, in the same way
abbrev pub taken_numbers : ℕ → List Status → List ℕ
taken_numbers first [] = []
taken_numbers first (free ∷ others) = taken_numbers (suc first) others
taken_numbers first (taken ∷ others) = first ∷ taken_numbers (suc first) others

-- free and taken numbers together are 0 to 1,023, each once
abbrev pub IsEachOnce : List Status → Type 0
IsEachOnce statuses = (number : ℕ) →
    count_by (λ n. n == number) (free_numbers 0 statuses ++ taken_numbers 0 statuses) ≡ (if nat_lt number MAX_SEATS then 1 else 0)

-- the status of each number, and what always holds of them
pub record Book : Type 0 where
  pub statuses : List Status
  pub complete : length statuses ≡ MAX_SEATS
  pub each_once : IsEachOnce statuses

-- the number's status changes from `from` to `to`, and every other number keeps its own
pub record Moves (before : Book) (number : ℕ) (from to : Status) (after : Book) : Type 0 where
  pub was : slice_get before.statuses number ≡ Some from
  pub becomes : after.statuses ≡ slice_set before.statuses number to
