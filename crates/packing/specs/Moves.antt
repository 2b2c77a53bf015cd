-- Moves of extents to free lines, one after another.
use Rattle.std.specs.Prelude.{◌≡◌, ℕ, ◌+◌, ◌<◌, ◌≤◌, Bool, true, ◌&&◌, ◌||◌, nat_le, IsTrue, List, [], ◌∷◌, length, get_or, set}
use Rattle.kv_types.specs.declared.place.Extent.{Extent}
use Rattle.packing.specs.declared.moves.Move.{Move}

-- no line is in both
abbrev pub are_apart : Extent → Extent → Bool
are_apart a b = nat_le (a.first_line + a.lines) b.first_line || nat_le (b.first_line + b.lines) a.first_line

-- none of the extents has a line of this one
abbrev pub is_free : Extent → List Extent → Bool
is_free wanted [] = true
is_free wanted (extent ∷ extents) = are_apart wanted extent && is_free wanted extents

-- no two of the extents have a line in common
abbrev pub are_all_apart : List Extent → Bool
are_all_apart [] = true
are_all_apart (extent ∷ extents) = is_free extent extents && are_all_apart extents

-- The move is of one of the extents. It goes to as many lines, from `first` up to but not including `end`, that no extent has: neither another nor itself.
pub record IsMove (first end : ℕ) (extents : List Extent) (move : Move) : Type 0 where
  pub given : move.index < length extents
  pub lines : (get_or extents move.index move.to).lines ≡ move.to.lines
  pub from : first ≤ move.to.first_line
  pub within : move.to.first_line + move.to.lines ≤ end
  pub free : IsTrue (is_free move.to extents)

-- where the extents lie after a move
abbrev pub after_move : List Extent → Move → List Extent
after_move extents move = set extents move.index move.to

abbrev pub after_moves : List Extent → List Move → List Extent
after_moves extents [] = extents
after_moves extents (move ∷ moves) = after_moves (after_move extents move) moves

-- Each is a move, where those before it were made.
abbrev pub AreMoves : ℕ → ℕ → List Extent → List Move → Type 0
AreMoves first end extents [] = Unit {0}
AreMoves first end extents (move ∷ moves) = IsMove first end extents move × AreMoves first end (after_move extents move) moves

-- So many lines in a row, from `first` up to but not including `end`, are in none of the extents.
pub record HasRun (first end need : ℕ) (extents : List Extent) : Type 0 where
  pub start : ℕ
  pub from : first ≤ start
  pub within : start + need ≤ end
  pub free : IsTrue (is_free (record { first_line = start; lines = need }) extents)

-- The moves stay between `first` and `lines`, and leave a run of `need` free lines between `first` and `end`. Where no two extents had a line in common,
-- none have afterwards.
pub record MakesRun (first end lines need : ℕ) (extents : List Extent) (moves : List Move) : Type 0 where
  pub are : AreMoves first lines extents moves
  pub run : HasRun first end need (after_moves extents moves)
  pub apart : IsTrue (are_all_apart extents) → IsTrue (are_all_apart (after_moves extents moves))

-- how many lines the moves move, each time that they do
abbrev pub lines_moved : List Move → ℕ
lines_moved [] = 0
lines_moved (move ∷ moves) = move.to.lines + lines_moved moves

-- They are at most so many, and move at most so many lines together.
pub record MovesAtMost (most : ℕ) (moves : List Move) : Type 0 where
  pub few : length moves ≤ most
  pub short : lines_moved moves ≤ most
