-- Extents that can slide down, one behind another, by way of a spare place behind them.
use Rattle.std.specs.Prelude.{ℕ, ◌+◌, ◌<◌, ◌≤◌, nat_le, if◌then◌else◌, IsTrue, List, [], ◌∷◌}
use Rattle.std.specs.List.{AllByRecursion}
use Rattle.std.specs.List.Sorted.{IsNonDecreasingBy, IsPermutation}
use Rattle.kv_types.specs.declared.place.Extent.{Extent}
use Rattle.packing.specs.declared.moves.Move.{Move}
use Rattle.packing.specs.declared.placed.Placed.{Placed}
use Rattle.packing.specs.Moves.{AreMoves, after_moves, are_all_apart, is_free}

-- how many lines the extents have together
abbrev pub total : List Extent → ℕ
total [] = 0
total (extent ∷ extents) = extent.lines + total extents

-- The extent has a line and lies from `first` up to but not including `end`, and the lines from `end` up to `lines` are enough for it.
pub record CanPass (first end lines : ℕ) (extent : Extent) : Type 0 where
  pub some : 0 < extent.lines
  pub from : first ≤ extent.first_line
  pub within : extent.first_line + extent.lines ≤ end
  pub spare : end + extent.lines ≤ lines

-- No two of the extents have a line in common, each can pass by way of the lines from `end` on, and at least `need` lines below `end` are in none.
pub record CanSlide (first end lines need : ℕ) (extents : List Extent) : Type 0 where
  pub apart : IsTrue (are_all_apart extents)
  pub each : AllByRecursion (CanPass first end lines) extents
  pub enough : first + total extents + need ≤ end

-- The moves are such, between `first` and `lines`, and leave the lines of the run free, which lies between `first` and `end`.
pub record LeavesRun (first end lines : ℕ) (run : Extent) (extents : List Extent) (moves : List Move) : Type 0 where
  pub are : AreMoves first lines extents moves
  pub from : first ≤ run.first_line
  pub within : run.first_line + run.lines ≤ end
  pub free : IsTrue (is_free run (after_moves extents moves))

-- ---- extents with their places in the list

-- each of the extents with its index, from this one on
abbrev pub numbered : ℕ → List Extent → List Placed
numbered index [] = []
numbered index (extent ∷ extents) = record { index = index; extent = extent } ∷ numbered (index + 1) extents

-- The list has each of the extents, with its index, in the order of their first lines.
pub record IsInOrder (extents : List Extent) (placed : List Placed) : Type 0 where
  pub permutation : IsPermutation (numbered 0 extents) placed
  pub sorted : IsNonDecreasingBy (λ (one : Placed). one.extent.first_line) placed

-- ---- one step

-- the move of it to lines from this one on
abbrev pub to_line : Placed → ℕ → Move
to_line one line = record { index = one.index; to = record { first_line = line; lines = one.extent.lines } }

-- The moves that bring an extent down to the floor, and the floor behind it: none where it lies there, one where the hole below it is long enough, and
-- else two, by way of the lines from `end` on.
abbrev pub step : ℕ → ℕ → Placed → List Move × ℕ
step end floor one =
    if nat_le one.extent.first_line floor then ([], one.extent.first_line + one.extent.lines)
    else (if nat_le (floor + one.extent.lines) one.extent.first_line then (to_line one floor ∷ [], floor + one.extent.lines)
    else (to_line one end ∷ to_line one floor ∷ [], floor + one.extent.lines))
