-- The table of a node: each live record with its value, the directory entry that holds it and the position of its change, in the order of records.
use Rattle.std.specs.Prelude.{◌≡◌, ℕ, not, ◌⊎◌, ◌↔◌, List, [], ◌∷◌, map, filter, nat_lt, Option, Some, Contains, IsTrue}
use Rattle.std.specs.List.{IsDistinct, flat_map}
use Rattle.std.specs.Ordering.{eq_by_cmp}
use Rattle.std.specs.Cmp.Lexicographic.{pointwise}
use Rattle.std.specs.Prelude.{nat_eq}
use Rattle.std.specs.FinMap.Entries.{put, find, where_key}
use Rattle.kv_types.specs.declared.place.EntryNo.{EntryNo}
use Rattle.kv_types.specs.declared.record_id.RecordId.{RecordId}
use Rattle.kv_types.specs.declared.record_id.RecordId.TheVariants.{Str, Field}
use Rattle.kv_types.specs.Keyspace.{Keyspace, key_of, record_cmp, IsKeyspace}
use Rattle.model.specs.declared.group.Put.{Put}
use Rattle.model.specs.declared.group.PlacedChange.{PlacedChange}
use Rattle.model.specs.declared.group.PlacedChange.TheVariants as placed
use Rattle.model.specs.Image.{IsLive}
use Rattle.model.specs.Group.{Versions, put_of, is_put_at}

-- what a table has for a live record
pub record Cell : Type 0 where
  pub value : List ℕ
  -- the number of its entry
  pub entry : ℕ
  -- the position of the list at which it was put
  pub position : ℕ

abbrev pub Table : Type 0
Table = List (RecordId × Cell)

-- the records of a table, without their entries and positions
abbrev pub records : Table → Keyspace
records table = map (λ row. (row.0, row.1.value)) table

abbrev pub cell_at : Table → RecordId → Option Cell
cell_at table id = find record_cmp id table

abbrev pub with_cell : RecordId → Cell → Table → Table
with_cell = put record_cmp

abbrev pub without_row : RecordId → Table → Table
without_row id = where_key record_cmp (λ other. not (eq_by_cmp record_cmp other id))

abbrev pub without_rows : List ℕ → Table → Table
without_rows key = where_key record_cmp (λ other. not (pointwise nat_eq (key_of other) key))

-- the cell that a put at this position makes
abbrev pub cell_of_put : ℕ → Put → Cell
cell_of_put position put = record { value = put.value; entry = put.entry.0; position = position }

-- the table after a put of this record
abbrev pub placed_at : RecordId → Cell → Table → Table
placed_at (Str key) cell table = with_cell (Str key) cell (without_rows key table)
placed_at (Field key field) cell table = with_cell (Field key field) cell (without_row (Str key) table)

-- the table after a change that is made at this position: as `play` for keyspaces, with entries and positions
abbrev pub place : ℕ → Table → PlacedChange → Table
place position table (placed.Put put) = placed_at put.id (cell_of_put position put) table
place position table (placed.Drop id) = without_row id table
place position table (placed.DropKey key) = without_rows key table
place position table placed.Clear = []

-- the table after changes that are made at one position
abbrev pub place_all : ℕ → Table → List PlacedChange → Table
place_all position table [] = table
place_all position table (change ∷ changes) = place_all position (place position table change) changes

-- the rows whose change came after this position
abbrev pub since : ℕ → Table → Table
since from = filter (λ row. nat_lt from row.1.position)

-- the entries of the live records
abbrev pub entries_of : Table → List ℕ
entries_of table = map (λ row. row.1.entry) table

-- the puts among the changes, in order
abbrev pub puts_of : List PlacedChange → List Put
puts_of = flat_map put_of

-- a table whose records are in order, with one kind per key, and in which no two records share an entry
pub record IsLawful (table : Table) : Type 0 where
  pub keyspace : IsKeyspace (records table)
  pub once : (id other : RecordId) (cell cell' : Cell) → cell_at table id ≡ Some cell → cell_at table other ≡ Some cell' → cell.entry ≡ cell'.entry → id ≡ other

-- none of the puts has the entry of a record, or of another put
abbrev pub AreFresh : Table → List Put → Type 0
AreFresh table [] = Unit {0}
AreFresh table (put ∷ puts) =
    (¬ Contains (entries_of table) put.entry.0) × (¬ IsTrue (is_put_at put.entry.0 puts)) × AreFresh table puts

-- The numbers of entries are distinct, and they are exactly those that the changes ended: those that were live before, or that the changes made,
-- and are not live after them.
pub record AreNumbersEnded (position : ℕ) (table : Table) (changes : List PlacedChange) (numbers : List ℕ) : Type 0 where
  pub once : IsDistinct nat_eq numbers
  pub these : (i : ℕ) → Contains numbers i
      ↔ ((Contains (entries_of table) i ⊎ IsTrue (is_put_at i (puts_of changes))) × (¬ Contains (entries_of (place_all position table changes)) i))

-- These are exactly the entries that the changes ended, each named once.
abbrev pub AreEnded : ℕ → Table → List PlacedChange → List EntryNo → Type 0
AreEnded position table changes ended = AreNumbersEnded position table changes (map (λ entry. entry.0) ended)

-- the cell's entry holds a live version of this record, with the cell's value, made at the cell's position
pub record IsCellOf (versions : Versions) (id : RecordId) (cell : Cell) : Type 0 where
  pub live : IsLive versions cell.entry id cell.value
  pub position_is : cell.position ≡ live.version.position

-- The table has exactly the live versions, each with its entry and its position.
pub record IsTable (versions : Versions) (table : Table) : Type 0 where
  pub keyspace : IsKeyspace (records table)
  pub live : (id : RecordId) (cell : Cell) → cell_at table id ≡ Some cell → IsCellOf versions id cell
  pub found : (id : RecordId) (cell : Cell) → IsCellOf versions id cell → cell_at table id ≡ Some cell
