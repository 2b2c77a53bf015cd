-- A row is in a table exactly where the look-up finds it.
use Rattle.std.proofs.Common.{T, Bool, sym, subst, ◌≡◌, ℕ, zero, suc, ◌<◌, [], ◌∷◌, length, get_or, true, false, IsTrue, cond, Some, None, Contains, refl, ap, arith}
use Rattle.std.proofs.lemmas.Bool.{and_parts}
use Rattle.std.specs.FinMap.Entries.{where_key, same_entries, is_sorted, below_all, is_sorted-where_key, is_sorted-put}
use Rattle.kv_types.specs.declared.record_id.RecordId.{RecordId}
use Rattle.kv_types.specs.Keyspace.{record_cmp}
use Rattle.kv_types.proofs.OrderLemmas.{record_cmp_equal, same_record, record_itself}
use Rattle.kv_types.specs.Order.{record_cmp_total}
use Rattle.kv_types.proofs.LookUpLemmas.{is_same}
use Rattle.mv_keyspace.specs.Table.{Cell, Table, records, cell_at, with_cell, entries_of}

-- the rows of the table are in order
abbrev pub IsSortedTable : Table → Type 0
IsSortedTable table = IsTrue (is_sorted record_cmp table)

below_all-records : (id : RecordId) (table : Table) → below_all record_cmp id (records table) ≡ below_all record_cmp id table
below_all-records id [] = refl
below_all-records id (row ∷ table) = grind (arith, below_all-records id table)

pub is_sorted-records : (table : Table) → is_sorted record_cmp (records table) ≡ is_sorted record_cmp table
is_sorted-records [] = refl
is_sorted-records (row ∷ table) = grind (arith, below_all-records row.0 table, is_sorted-records table)

as_T : (b : Bool) → IsTrue b → T b
as_T b e = subst T (sym e) tt

from_T : (b : Bool) → T b → IsTrue b
from_T true h = refl
from_T false h = absurd h

pub sorted-where : (p : RecordId → Bool) (table : Table) → IsSortedTable table → IsSortedTable (where_key record_cmp p table)
sorted-where p table h = from_T _ (is_sorted-where_key record_cmp p table (as_T _ h))

pub sorted-with_cell : (id : RecordId) (cell : Cell) (table : Table) → IsSortedTable table → IsSortedTable (with_cell id cell table)
sorted-with_cell id cell table h = from_T _ (is_sorted-put record_cmp record_cmp_total id cell table (as_T _ h))

-- two tables in order in which the look-up finds the same are one
pub same_table : (t u : Table) → IsSortedTable t → IsSortedTable u → ((q : RecordId) → cell_at t q ≡ cell_at u q) → t ≡ u
same_table t u h k same = same_entries record_cmp record_cmp_total record_cmp_equal t u (as_T _ h) (as_T _ k) same

-- a record below all records of a table is not in it
pub missed-below : (id : RecordId) (table : Table) → IsTrue (below_all record_cmp id table) → cell_at table id ≡ None
missed-below id [] h = refl
missed-below id (row ∷ table) h = grind (arith, missed-below id table)

pub found-first : (row : RecordId × Cell) (table : Table) → cell_at (row ∷ table) row.0 ≡ Some row.1
found-first row table = ap (λ b. cond b (Some row.1) (cell_at table row.0)) (record_itself row.0)

-- what is found in the rest of a table in order is found in all of it
pub found-later : (row : RecordId × Cell) (table : Table) (id : RecordId) (cell : Cell) → IsTrue (below_all record_cmp row.0 table) → cell_at table id ≡ Some cell → cell_at (row ∷ table) id ≡ Some cell
found-later row table id cell below found = grind (arith, same_record id row.0, missed-below row.0 table below)

-- the entry is that of a row of the table
pub record IsEntryOf (table : Table) (i : ℕ) : Type 0 where
  pub id : RecordId
  pub cell : Cell
  pub found : cell_at table id ≡ Some cell
  pub entry : cell.entry ≡ i

pub entry-from_found : (table : Table) (id : RecordId) (cell : Cell) → cell_at table id ≡ Some cell → Contains (entries_of table) cell.entry
entry-from_found [] id cell e = cc
entry-from_found (row ∷ table) id cell e =
    elim (is_same id row.0) as (λ b. cond b (Some row.1) (cell_at table id) ≡ Some cell → Contains (entries_of (row ∷ table)) cell.entry) [
      | true ↦ λ is. let same : row.1 ≡ cell = cc in (0, omega arith, ap (λ (c : Cell). c.entry) same)
      | false ↦ λ is. let m = entry-from_found table id cell is in (suc m.0, omega (arith, m.1), m.2)
    ] e

entry_at : (table : Table) (i k : ℕ) → IsSortedTable table → k < length (entries_of table) → get_or (entries_of table) k i ≡ i → IsEntryOf table i
entry_at [] i k h lt e = absurd (omega arith)
entry_at (row ∷ table) i zero h lt e = record { id = row.0; cell = row.1; found = found-first row table; entry = e }
entry_at (row ∷ table) i (suc k) h lt e =
    let parts = and_parts (below_all record_cmp row.0 table) (is_sorted record_cmp table) h in
    let of = entry_at table i k parts.1 (omega arith) e in
    record { id = of.id; cell = of.cell; entry = of.entry; found = found-later row table of.id of.cell parts.0 of.found }

pub found-from_entry : (table : Table) (i : ℕ) → IsSortedTable table → Contains (entries_of table) i → IsEntryOf table i
found-from_entry table i h m = entry_at table i m.0 h m.1 m.2
