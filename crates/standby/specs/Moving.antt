-- Versions that are made again in other places.
use Rattle.std.specs.Prelude.{◌≡◌, ℕ, ◌<◌, List, [], ◌∷◌, ◌++◌, IsTrue, Some}
use Rattle.std.specs.List.{flat_map}
use Rattle.kv_types.specs.declared.place.EntryNo.{EntryNo}
use Rattle.kv_types.specs.declared.record_id.RecordId.{RecordId}
use Rattle.extent_heap.specs.Room.{ClaimsEntry, ClaimsExtent, IsFreeRun, Room, is_free_entry, is_free_line}
use Rattle.model.specs.declared.group.Part.{Part}
use Rattle.model.specs.declared.group.Put.{Put}
use Rattle.model.specs.declared.group.PlacedChange.TheVariants as placed
use Rattle.model.specs.Group.{Contents, HasItsLines}
use Rattle.mv_keyspace.specs.Table.{AreEnded, Cell, Table, cell_at, place_all}
use Rattle.placing.specs.Back.{GivesAll}
use Rattle.wbl_engine.specs.Freeing.{Clears}

-- the put has an entry and a run of lines that were free, and nothing else was taken
pub record ClaimsPlace (old : Room) (put : Put) (new : Room) : Type 0 where
  pub between : Room
  pub is_free : IsTrue (is_free_entry old put.entry.0)
  pub entry : ClaimsEntry old put.entry between
  pub some : 0 < put.extent.lines
  pub run : IsFreeRun between put.extent.first_line put.extent.lines
  pub extent : ClaimsExtent between put.extent new

-- The part makes the live version of this record again, with its value and at its position, in another place of the heap, and names the entry that
-- this ends.
pub record IsMadeAgain (table : Table) (room : Room) (id : RecordId) (part : Part) (after : Table) (left : Room) : Type 0 where
  pub cell : Cell
  pub found : cell_at table id ≡ Some cell
  pub put : Put
  pub changes : part.changes.items ≡ placed.Put put ∷ []
  pub id_is : put.id ≡ id
  pub value_is : put.value ≡ cell.value
  pub position_is : part.position ≡ cell.position
  pub fitting : HasItsLines put
  pub place : ClaimsPlace room put left
  pub after_is : after ≡ place_all part.position table part.changes.items
  pub ended : AreEnded part.position table part.changes.items part.ended.items

-- The parts make versions again one after another, each of what the table and the heap were after those before it.
abbrev pub AreMadeInTurn : Table → Room → List Part → Table → Room → Type 0
AreMadeInTurn table room [] after left = (after ≡ table) × (left ≡ room)
AreMadeInTurn table room (part ∷ parts) after left =
    (id : RecordId) × (between : Table) × (mid : Room) × IsMadeAgain table room id part between mid × AreMadeInTurn between mid parts after left

-- two rooms say the same of each line and each entry
pub record IsAlike (old new : Room) : Type 0 where
  pub lines : (line : ℕ) → is_free_line new line ≡ is_free_line old line
  pub entries : (i : ℕ) → is_free_entry new i ≡ is_free_entry old i
  pub held : new.held ≡ old.held
  pub end_line : new.end_line ≡ old.end_line
  pub end_entry : new.end_entry ≡ old.end_entry

-- The parts make versions again in turn, and the heap has free what it has after that.
pub record AreGathered (table : Table) (room : Room) (parts : List Part) (after : Table) (left : Room) : Type 0 where
  pub between : Room
  pub made : AreMadeInTurn table room parts after between
  pub alike : IsAlike between left

-- the entries that the parts end, in order
abbrev pub ended_of : List Part → List EntryNo
ended_of = flat_map (λ part. part.ended.items)

-- A part that makes the live version of this record again is one more of the parts, and the entries that it ends stand behind those of the others.
pub record HasAdded (table : Table) (room : Room) (id : RecordId) (parts : List Part) (ended : List EntryNo) (after : Table) (left : Room) (parts' : List Part) (ended' : List EntryNo) : Type 0 where
  pub part : Part
  pub made : IsMadeAgain table room id part after left
  pub parts_are : parts' ≡ parts ++ part ∷ []
  pub ended_are : ended' ≡ ended ++ part.ended.items

-- The oldest gap is cleared, and the heap has the entries that were begun in it.
pub record HasCleared (old new : Contents) (room room' : Room) : Type 0 where
  pub entries : List EntryNo
  pub clears : Clears old entries new
  pub given : GivesAll room entries [] room'
