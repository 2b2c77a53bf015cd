-- The versions that a keyspace keeps beside the live ones, and the table as it was at a position.
use Rattle.std.specs.Prelude.{ℕ, ◌≤◌, Bool, false, ◌&&◌, ◌||◌, ◌==◌, if◌then◌else◌, cond, List, [], ◌∷◌, map, filter, max, nat_le, nat_lt, IsTrue}
use Rattle.std.specs.List.{AllByRecursion}
use Rattle.std.specs.FinMap.Entries.{is_sorted, where_key}
use Rattle.kv_types.specs.declared.record_id.RecordId.{RecordId}
use Rattle.kv_types.specs.Keyspace.{record_cmp}
use Rattle.model.specs.declared.group.PlacedChange.{PlacedChange}
use Rattle.model.specs.Group.{change_of, ends_record}
use Rattle.mv_keyspace.specs.declared.row.Row.{Row}
use Rattle.mv_keyspace.specs.declared.past.Ended.{Ended}
use Rattle.mv_keyspace.specs.declared.past.Past.{Past}
use Rattle.mv_keyspace.specs.Row.{cell_of_row}
use Rattle.mv_keyspace.specs.Table.{Cell, Table, with_cell}

-- a version that ended
pub record Span : Type 0 where
  pub cell : Cell
  -- the position of the change that ended it
  pub end : ℕ

-- ended versions, each with its record, the last that ended at the end
abbrev pub Versions : Type 0
Versions = List (RecordId × Span)

-- ---- the table as it was

-- a version is shown at each position from its begin to before its end
abbrev pub is_shown : ℕ → Span → Bool
is_shown at span = nat_le span.cell.position at && nat_lt at span.end

-- a table with the ended versions that are shown, each in the place of an earlier one
abbrev pub with_past : ℕ → Versions → Table → Table
with_past at [] table = table
with_past at (version ∷ past) table = with_past at past (cond (is_shown at version.1) (with_cell version.0 version.1.cell table) table)

-- a table with these rows, each in the place of an earlier one
abbrev pub with_rows : Table → Table → Table
with_rows [] table = table
with_rows (row ∷ rows) table = with_rows rows (with_cell row.0 row.1 table)

-- the live rows that had begun
abbrev pub begun_at : ℕ → Table → Table
begun_at at = filter (λ row. nat_le row.1.position at)

-- the table at a position: of each record the newest version that had begun and had not ended
abbrev pub shown : ℕ → Table → Versions → Table
shown at table past = with_rows (begun_at at table) (with_past at past [])

-- ---- what is kept

-- one of the changes ends the record
abbrev pub ends_some : List PlacedChange → RecordId → Bool
ends_some [] id = false
ends_some (change ∷ changes) id = ends_record (change_of change) id || ends_some changes id

-- the live rows that the changes end
abbrev pub rows_ended : List PlacedChange → Table → Table
rows_ended changes = where_key record_cmp (ends_some changes)

-- a live row that a change at this position ends, as an ended version
abbrev pub ended_at : ℕ → RecordId × Cell → RecordId × Span
ended_at position row = (row.0, record { cell = row.1; end = position })

-- what is kept of the live rows when changes at this position end them: nothing where no position is pinned
abbrev pub kept : List ℕ → ℕ → List PlacedChange → Table → Versions
kept [] position changes table = []
kept (pin ∷ pins) position changes table = map (ended_at position) (rows_ended changes table)

-- a pinned position shows the version
abbrev pub is_pinned : List ℕ → Span → Bool
is_pinned [] span = false
is_pinned (pin ∷ pins) span = is_shown pin span || is_pinned pins span

-- the versions without those that ended by the horizon and that no pinned position shows
abbrev pub reclaimed : ℕ → List ℕ → Versions → Versions
reclaimed horizon pins = filter (λ version. nat_lt horizon version.1.end || is_pinned pins version.1)

-- the pins without one of this position, where there is one
abbrev pub without_pin : ℕ → List ℕ → List ℕ
without_pin position [] = []
without_pin position (pin ∷ pins) = if pin == position then pins else pin ∷ without_pin position pins

-- ---- the last change

-- this position or the greatest at which a row of the table began
abbrev pub last_among : ℕ → Table → ℕ
last_among position [] = position
last_among position (row ∷ rows) = last_among (max position row.1.position) rows

-- ---- as the code has them

-- rows by their records
abbrev pub Gathered : Type 0
Gathered = List (RecordId × Row)

abbrev pub table_in : Gathered → Table
table_in es = map (λ e. (e.0, cell_of_row e.1)) es

abbrev pub version_of : Ended → RecordId × Span
version_of ended = (ended.row.id, record { cell = cell_of_row ended.row; end = ended.end })

abbrev pub versions_of : List Ended → Versions
versions_of ended = map version_of ended

abbrev pub past_of : Past → Versions
past_of past = versions_of past.ended.items

abbrev pub pins_of : Past → List ℕ
pins_of past = past.pins.items

-- the rows are in order, and nothing in the table began, and none of the versions ended, after this position
pub record IsUpTo (position : ℕ) (table : Table) (past : Versions) : Type 0 where
  pub ordered : IsTrue (is_sorted record_cmp table)
  pub live : AllByRecursion (λ (row : RecordId × Cell). row.1.position ≤ position) table
  pub ended : AllByRecursion (λ (version : RecordId × Span). version.1.end ≤ position) past
