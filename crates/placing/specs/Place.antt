-- The places of puts, taken from a heap one after another.
use Rattle.std.specs.Prelude.{◌≡◌, List, [], ◌∷◌, ◌++◌, map}
use Rattle.kv_types.specs.declared.change.Change.{Change}
use Rattle.model.specs.declared.group.Put.{Put}
use Rattle.model.specs.declared.group.PlacedChange.{PlacedChange}
use Rattle.model.specs.Group.{change_of, HasItsLines}
use Rattle.extent_heap.specs.Room.{Room, TakesEntry, TakesExtent}
use Rattle.mv_keyspace.specs.Table.{puts_of}

-- The put has the lowest free entry, and then the lowest run of as many free lines as its record needs.
pub record TakesPlace (old : Room) (put : Put) (new : Room) : Type 0 where
  pub between : Room
  pub entry : TakesEntry old put.entry between
  pub extent : TakesExtent between put.extent new
  pub fitting : HasItsLines put

-- each put in turn has its place, and nothing else was taken
abbrev pub TakesPlaces : Room → List Put → Room → Type 0
TakesPlaces old [] new = new ≡ old
TakesPlaces old (put ∷ puts) new = (between : Room) × TakesPlace old put between × TakesPlaces between puts new

-- The changes, with a place for each put in turn, come after those that were in the list, and nothing else was taken.
pub record PlacesAfter (room : Room) (before : List PlacedChange) (changes : List Change) (after : List PlacedChange) (left : Room) : Type 0 where
  pub placed : List PlacedChange
  pub after_is : after ≡ before ++ placed
  pub changes_are : map change_of placed ≡ changes
  pub places : TakesPlaces room (puts_of placed) left

-- the heap has room for the puts among these changes, in turn
pub record HasRoomFor (room : Room) (changes : List Change) : Type 0 where
  pub placed : List PlacedChange
  pub left : Room
  pub these : map change_of placed ≡ changes
  pub places : TakesPlaces room (puts_of placed) left
