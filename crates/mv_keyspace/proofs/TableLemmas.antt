-- A table moves as its keyspace does, and as the versions do.
use Rattle.std.proofs.Common.{◌≡◌, ℕ, Bool, cond, not, List, [], ◌∷◌, map, Some, None, refl, sym, ap, ◌∙◌, arith}
use Rattle.std.specs.Option.{option_map}
use Rattle.std.specs.FinMap.Entries.{put, where_key, find-put, find-where_key}
use Rattle.kv_types.specs.declared.record_id.RecordId.{RecordId}
use Rattle.kv_types.specs.declared.record_id.RecordId.TheVariants.{Str, Field}
use Rattle.kv_types.specs.declared.change.Change.TheVariants as change
use Rattle.kv_types.specs.Keyspace.{key_of, record_cmp, value_at, with_record, without_record, without_key, play, play_all}
use Rattle.kv_types.specs.Order.{record_cmp_total}
use Rattle.kv_types.proofs.OrderLemmas.{record_cmp_equal}
use Rattle.kv_types.proofs.LookUpLemmas.{is_same, is_same_key}
use Rattle.model.specs.declared.group.PlacedChange.{PlacedChange}
use Rattle.model.specs.declared.group.PlacedChange.TheVariants as placed
use Rattle.model.specs.Group.{change_of}
use Rattle.mv_keyspace.specs.Table.{Cell, Table, records, cell_at, with_cell, without_row, without_rows, cell_of_put, placed_at, place, place_all}

-- ---- the records of a table

pub value_at-records : (table : Table) (id : RecordId) → value_at (records table) id ≡ option_map (λ cell. cell.value) (cell_at table id)
value_at-records [] id = refl
value_at-records (row ∷ table) id = grind (arith, value_at-records table id)

pub records-with_cell : (id : RecordId) (cell : Cell) (table : Table) → records (with_cell id cell table) ≡ with_record id cell.value (records table)
records-with_cell id cell [] = refl
records-with_cell id cell (row ∷ table) = grind (arith, records-with_cell id cell table)

records-where : (p : RecordId → Bool) (table : Table) → records (where_key record_cmp p table) ≡ where_key record_cmp p (records table)
records-where p [] = refl
records-where p (row ∷ table) = grind (arith, records-where p table)

pub records-without_row : (id : RecordId) (table : Table) → records (without_row id table) ≡ without_record id (records table)
records-without_row id table = records-where (λ other. not (is_same other id)) table

pub records-without_rows : (key : List ℕ) (table : Table) → records (without_rows key table) ≡ without_key key (records table)
records-without_rows key table = records-where (λ other. not (is_same_key (key_of other) key)) table

records-placed_at : (id : RecordId) (cell : Cell) (table : Table) → records (placed_at id cell table) ≡ play (records table) (change.Put id cell.value)
records-placed_at (Str key) cell table = records-with_cell (Str key) cell (without_rows key table) ∙ ap (with_record (Str key) cell.value) (records-without_rows key table)
records-placed_at (Field key field) cell table = records-with_cell (Field key field) cell (without_row (Str key) table) ∙ ap (with_record (Field key field) cell.value) (records-without_row (Str key) table)

pub records-place : (position : ℕ) (table : Table) (change : PlacedChange) → records (place position table change) ≡ play (records table) (change_of change)
records-place position table (placed.Put put) = records-placed_at put.id (cell_of_put position put) table
records-place position table (placed.Drop id) = records-without_row id table
records-place position table (placed.DropKey key) = records-without_rows key table
records-place position table placed.Clear = refl

pub records-place_all : (position : ℕ) (table : Table) (changes : List PlacedChange) → records (place_all position table changes) ≡ play_all (records table) (map change_of changes)
records-place_all position table [] = refl
records-place_all position table (change ∷ changes) = records-place_all position (place position table change) changes ∙ ap (λ s. play_all s (map change_of changes)) (records-place position table change)

-- ---- what is found in a table

pub cell_at-where : (p : RecordId → Bool) (table : Table) (q : RecordId) → cell_at (where_key record_cmp p table) q ≡ cond (p q) (cell_at table q) None
cell_at-where p table q = find-where_key record_cmp p q (λ x e. ap p (sym (record_cmp_equal q x e))) table

pub cell_at-with_cell : (table : Table) (id : RecordId) (cell : Cell) (q : RecordId) → cell_at (with_cell id cell table) q ≡ cond (is_same q id) (Some cell) (cell_at table q)
cell_at-with_cell table id cell q = find-put record_cmp record_cmp_total q id cell table

pub cell_at-without_row : (table : Table) (id q : RecordId) → cell_at (without_row id table) q ≡ cond (is_same q id) None (cell_at table q)
cell_at-without_row table id q = grind (arith, cell_at-where (λ other. not (is_same other id)) table q)

pub cell_at-without_rows : (table : Table) (key : List ℕ) (q : RecordId) → cell_at (without_rows key table) q ≡ cond (is_same_key (key_of q) key) None (cell_at table q)
cell_at-without_rows table key q = grind (arith, cell_at-where (λ other. not (is_same_key (key_of other) key)) table q)
