-- The rows of a list, as a table.
use Rattle.std.specs.Prelude.{◌≡◌, ℕ, ◌+◌, ◌≤◌, Bool, false, not, List, [], ◌∷◌, ◌++◌, map, length, Vec, vec_len, vec_capacity, nat_eq, slice_range, refl}
use Rattle.std.specs.List.{remove_range}
use Rattle.std.specs.Ordering.{eq_by_cmp}
use Rattle.std.specs.Cmp.Lexicographic.{pointwise}
use Rattle.std.proofs.Common.{ap}
use Rattle.std.specs.FinMap.Entries.{where_key}
use Rattle.std.specs.Global.{Global}
use Rattle.kv_types.specs.declared.place.EntryNo.{EntryNo}
use Rattle.kv_types.specs.declared.change.Change.{Change}
use Rattle.kv_types.specs.declared.record_id.RecordId.{RecordId}
use Rattle.kv_types.specs.declared.record_id.RecordId.TheVariants.{Str, Field}
use Rattle.kv_types.specs.Keyspace.{Keyspace, key_of, record_cmp}
use Rattle.cmd_core.specs.Record.{SplitsAt, comes_before}
use Rattle.model.specs.declared.group.Put.{Put}
use Rattle.model.specs.Group.{ends_record}
use Rattle.mv_keyspace.specs.declared.row.Row.{Row}
use Rattle.mv_keyspace.specs.Table.{Cell, Table, records, with_cell, cell_of_put, entries_of}

abbrev pub cell_of_row : Row → Cell
cell_of_row row = record { value = row.value; entry = row.entry.0; position = row.position }

abbrev pub table_of : List Row → Table
table_of rows = map (λ row. (row.id, cell_of_row row)) rows

-- the rows as a keyspace
abbrev pub records_of : List Row → Keyspace
records_of rows = map (λ row. (row.id, row.value)) rows

-- which is that of their table
pub records_of_table : (rows : List Row) → records_of rows ≡ records (table_of rows)
records_of_table [] = refl
records_of_table (row ∷ rows) = ap (λ s. (row.id, row.value) ∷ s) (records_of_table rows)

-- the rows that the puts make at this position
abbrev pub rows_of_puts : ℕ → List Put → Table
rows_of_puts position puts = map (λ put. (put.id, cell_of_put position put)) puts

abbrev pub numbers_of : List EntryNo → List ℕ
numbers_of entries = map (λ entry. entry.0) entries

-- the rows whose records a change ends
abbrev pub ended_rows : Change → Table → Table
ended_rows change = where_key record_cmp (ends_record change)

-- the rows that a change leaves
abbrev pub spared_rows : Change → Table → Table
spared_rows change = where_key record_cmp (λ id. not (ends_record change id))

-- the rows whose records pass the test were taken out, and their entries appended to those that were ended, in the room that there was
pub record TakesOut (passes : RecordId → Bool) (rows left : Vec Row Global) (before after : Vec EntryNo Global) : Type 0 where
  pub table : table_of left.items ≡ where_key record_cmp (λ id. not (passes id)) (table_of rows.items)
  pub numbers : numbers_of after.items ≡ numbers_of before.items ++ entries_of (where_key record_cmp passes (table_of rows.items))
  pub len : vec_len after + vec_len left ≡ vec_len before + vec_len rows
  pub fewer : vec_len left ≤ vec_len rows
  pub capacity : vec_capacity left ≡ vec_capacity rows
  pub capacity_for_ended : vec_capacity before ≤ vec_capacity after

-- what a put of a record ends beside the rows in whose place it goes: the string of a field's key
abbrev pub is_string_of : RecordId → RecordId → Bool
is_string_of (Str key) other = false
is_string_of (Field key field) other = eq_by_cmp record_cmp other (Str key)

-- the records in whose place a record goes: a string in that of all records of its key, a field in its own
abbrev pub stands_for : RecordId → RecordId → Bool
stands_for (Str key) other = pointwise nat_eq (key_of other) key
stands_for (Field key field) other = eq_by_cmp record_cmp other (Field key field)

-- the rows in whose place a record goes are those from i to before j
pub record IsRangeOf (id : RecordId) (rows : List Row) (i j : ℕ) : Type 0 where
  pub rise : i ≤ j
  pub within : j ≤ length rows
  pub start : SplitsAt (λ (row : Row). comes_before id row.id) rows i
  pub inside : table_of (slice_range rows i j) ≡ where_key record_cmp (stands_for id) (table_of rows)
  pub outside : table_of (remove_range rows i j) ≡ where_key record_cmp (λ other. not (stands_for id other)) (table_of rows)

-- a row was put in, the rows whose records pass the test were taken out, and their entries appended to those that were ended
pub record PutsIn (row : Row) (passes : RecordId → Bool) (rows left : Vec Row Global) (before after : Vec EntryNo Global) : Type 0 where
  pub table : table_of left.items ≡ with_cell row.id (cell_of_row row) (where_key record_cmp (λ id. not (passes id)) (table_of rows.items))
  pub numbers : numbers_of after.items ≡ numbers_of before.items ++ entries_of (where_key record_cmp passes (table_of rows.items))
  pub len : vec_len after + vec_len left ≡ vec_len before + vec_len rows + 1
  pub fewer : vec_len left ≤ vec_len rows + 1
  pub capacity : vec_capacity rows ≤ vec_capacity left
  pub capacity_for_ended : vec_capacity before ≤ vec_capacity after
