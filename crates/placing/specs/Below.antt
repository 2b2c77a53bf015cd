-- Changes whose puts find room below a line.
use Rattle.std.specs.Prelude.{◌≡◌, ℕ, ◌+◌, Bool, true, ◌&&◌, nat_le, IsTrue, List, [], ◌∷◌, length, map}
use Rattle.kv_types.specs.declared.change.Change.{Change}
use Rattle.model.specs.declared.group.Put.{Put}
use Rattle.model.specs.declared.group.PlacedChange.{PlacedChange}
use Rattle.model.specs.Group.{change_of}
use Rattle.extent_heap.specs.Below.{has_room_below}
use Rattle.extent_heap.specs.Room.{Room}
use Rattle.mv_keyspace.specs.Table.{puts_of}
use Rattle.placing.specs.Fitting.{lines_wanted, most}
use Rattle.placing.specs.Place.{TakesPlaces}

-- the lines of each put end at or below this line
abbrev pub are_below : ℕ → List Put → Bool
are_below end [] = true
are_below end (put ∷ puts) = nat_le (put.extent.first_line + put.extent.lines) end && are_below end puts

-- The heap has room for the puts among these changes, in turn, and the lines of all of them lie below this line.
pub record HasRoomBelow (room : Room) (changes : List Change) (end : ℕ) : Type 0 where
  pub placed : List PlacedChange
  pub left : Room
  pub these : map change_of placed ≡ changes
  pub places : TakesPlaces room (puts_of placed) left
  pub below : IsTrue (are_below end (puts_of placed))

-- there are as many free entries as puts, and so many extents of the longest of them can be cut from the free runs below this line
abbrev pub fits_surely_below : Room → List Change → ℕ → Bool
fits_surely_below room changes end = has_room_below (length (lines_wanted changes)) (most 1 (lines_wanted changes)) end room
