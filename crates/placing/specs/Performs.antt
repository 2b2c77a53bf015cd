-- Changes that are made on a table, with places from a heap, as one part.
use Rattle.std.specs.Prelude.{◌≡◌, ℕ, List, ◌++◌}
use Rattle.kv_types.specs.declared.place.EntryNo.{EntryNo}
use Rattle.kv_types.specs.declared.change.Change.{Change}
use Rattle.model.specs.declared.group.Part.{Part}
use Rattle.model.specs.Group.{changes_of_part, puts_of_part}
use Rattle.extent_heap.specs.Room.{Room}
use Rattle.mv_keyspace.specs.Table.{Table, place_all, AreEnded}
use Rattle.placing.specs.Place.{TakesPlaces, PlacesAfter}

-- The part is these changes, made at this position on a table: each put has its place from the heap in turn, and nothing else was taken.
pub record Performs (old : Table) (room : Room) (position : ℕ) (changes : List Change) (part : Part) (new : Table) (left : Room) : Type 0 where
  pub changes_are : changes_of_part part ≡ changes
  pub position_is : part.position ≡ position
  pub places : TakesPlaces room (puts_of_part part) left
  pub table_is : new ≡ place_all part.position old part.changes.items
  pub ended : AreEnded part.position old part.changes.items part.ended.items

-- the two parts say the same
pub record IsSamePart (old new : Part) : Type 0 where
  pub position : new.position ≡ old.position
  pub changes : new.changes.items ≡ old.changes.items
  pub ended : new.ended.items ≡ old.ended.items

-- The part has these changes besides, made at its position on a table after those that it had: each put has its place from the heap in turn, and
-- nothing else was taken.
pub record AddsTo (old : Part) (table : Table) (room : Room) (changes : List Change) (new : Part) (after : Table) (left : Room) : Type 0 where
  pub position : new.position ≡ old.position
  pub places : PlacesAfter room old.changes.items changes new.changes.items left
  pub table_is : after ≡ place_all old.position table places.placed
  -- the entries that these changes ended
  pub more : List EntryNo
  pub ended_are : new.ended.items ≡ old.ended.items ++ more
  pub ended : AreEnded old.position table places.placed more
