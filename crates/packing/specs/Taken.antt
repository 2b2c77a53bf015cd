-- A table of the lines of an image that are taken, each by one extent.
use Rattle.std.specs.Prelude.{◌≡◌, ◌≢◌, ℕ, ◌+◌, ◌<◌, ◌≤◌, ◌⊎◌, Bool, true, false, IsTrue, List, length, get_or}
use Rattle.kv_types.specs.declared.place.Extent.{Extent}
use Rattle.packing.specs.Moves.{are_apart}

-- Those of the table's lines from `low` up to but not including `high` are marked so, and all others as they were.
pub record IsMarked (before : List Bool) (low high : ℕ) (mark : Bool) (after : List Bool) : Type 0 where
  pub count : length after ≡ length before
  pub inside : (line : ℕ) → low ≤ line → line < high → line < length before → get_or after line false ≡ mark
  pub outside : (line : ℕ) → (line < low) ⊎ (high ≤ line) → get_or after line false ≡ get_or before line false

-- The table has the lines of the extent, and each is marked so.
pub record IsAll (taken : List Bool) (mark : Bool) (extent : Extent) : Type 0 where
  pub within : extent.first_line + extent.lines ≤ length taken
  pub marked : (line : ℕ) → extent.first_line ≤ line → line < extent.first_line + extent.lines → get_or taken line false ≡ mark

-- The extent has lines, all of which were free, and these alone were taken.
pub record Takes (before : List Bool) (extent : Extent) (after : List Bool) : Type 0 where
  pub some : 0 < extent.lines
  pub free : IsAll before false extent
  pub marked : IsMarked before extent.first_line (extent.first_line + extent.lines) true after

-- the extent of this index
abbrev pub nth : List Extent → ℕ → Extent
nth extents i = get_or extents i (record { first_line = 0; lines = 0 })

-- So many of the extents, from the first on, have lines, all of which are taken, and no two of them have one in common.
pub record AreTaken (taken : List Bool) (count : ℕ) (extents : List Extent) : Type 0 where
  pub some : (i : ℕ) → i < count → 0 < (nth extents i).lines
  pub each : (i : ℕ) → i < count → IsAll taken true (nth extents i)
  pub apart : (i j : ℕ) → i < count → j < count → i ≢ j → IsTrue (are_apart (nth extents i) (nth extents j))

-- Each of the extents has lines, all of which are taken, and no two have one in common.
abbrev pub AllTaken : List Bool → List Extent → Type 0
AllTaken taken extents = AreTaken taken (length extents) extents
