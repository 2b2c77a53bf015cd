-- How a lobby keeps its book: the slot of each number holds the seat itself while it is free, and nothing while it is taken.
use Rattle.std.specs.Prelude.{◌≡◌, ℕ, ◌<◌, List, length, map, Option, Some, None, slice_get, slice_index_or, slice_set}
use Rattle.std.proofs.Common.{◌∙◌}
use Rattle.std.proofs.lemmas.List.{length-map}
use Rattle.pipes.specs.declared.limits.TheConstants.{MAX_SEATS}
use Rattle.lobby.specs.Book.{Book, Status, free, taken, IsEachOnce}

abbrev pub status_of : Option ℕ → Status
status_of None = taken
status_of (Some _) = free

-- there is a slot for each number, a seat is only ever in the slot of its own number, and so each number is free or taken
pub record IsSound (slots : List (Option ℕ)) : Type 0 where
  pub complete : length slots ≡ MAX_SEATS
  pub own : (index seat : ℕ) → slice_get slots index ≡ Some (Some seat) → seat ≡ index
  pub each_once : IsEachOnce (map status_of slots)

-- the book that the slots keep
abbrev pub book_of : (slots : List (Option ℕ)) → IsSound slots → Book
book_of slots sound = record {
  statuses = map status_of slots;
  complete = length-map slots status_of ∙ sound.complete;
  each_once = sound.each_once;
}

-- no slot below `index` holds a seat
abbrev pub IsEmptyBelow : List (Option ℕ) → ℕ → Type 0
IsEmptyBelow slots index = (lower : ℕ) → lower < index → slice_index_or slots lower None ≡ None

-- the seat in the lowest slot that holds one is taken out, or no slot holds one and nothing changes
abbrev pub TakesLowest : List (Option ℕ) → Option ℕ → List (Option ℕ) → Type 0
TakesLowest before None after = IsEmptyBelow before (length before) × (after ≡ before)
TakesLowest before (Some seat) after =
    (found : ℕ) × ((found < length before) × (slice_index_or before found None ≡ Some seat) × IsEmptyBelow before found × (after ≡ slice_set before found None))
