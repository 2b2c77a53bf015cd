-- Rows that are gathered by their records.
use Rattle.std.proofs.Common.{◌≡◌, ℕ, suc, ◌+◌, ◌-◌, ◌<◌, ◌≤◌, Bool, true, false, cond, not, List, [], ◌∷◌, ◌++◌, length, take, drop, get_or, Some, None, IsTrue, slice_range, refl, sym, ap, ap₂, ◌∙◌, arith}
use Rattle.std.proofs.lemmas.List.{drop_more}
use Rattle.std.specs.Ordering.{eq_by_cmp}
use Rattle.std.specs.BTreeMap.{insert_entry}
use Rattle.std.specs.FinMap.Entries.{where_key, is_sorted}
use Rattle.kv_types.specs.declared.record_id.RecordId.{RecordId}
use Rattle.kv_types.specs.declared.record_id.RecordId.TheVariants.{Str, Field}
use Rattle.kv_types.specs.declared.change.Change.{Change}
use Rattle.kv_types.specs.declared.change.Change.TheVariants as change
use Rattle.kv_types.specs.Keyspace.{record_cmp}
use Rattle.kv_types.proofs.OrderLemmas.{record_cmp_equal, record_itself, same_record}
use Rattle.kv_types.proofs.LookUpLemmas.{is_same}
use Rattle.mv_keyspace.specs.declared.row.Row.{Row}
use Rattle.mv_keyspace.specs.Table.{Cell, Table, cell_at, with_cell}
use Rattle.mv_keyspace.specs.Keys.{changed_key}
use Rattle.mv_keyspace.specs.Row.{cell_of_row, table_of, ended_rows, is_string_of, stands_for}
use Rattle.mv_keyspace.specs.Versions.{Gathered, table_in, with_rows}
use Rattle.mv_keyspace.proofs.TableLemmas.{cell_at-where}
use Rattle.mv_keyspace.proofs.TableMembers.{found-first}
use Rattle.mv_keyspace.proofs.PuttingLemmas.{ended-put, where_all}

-- a row that is put into the map is put into its table
pub table_in-inserted : (id : RecordId) (row : Row) (es : Gathered) → table_in (insert_entry record_cmp es id row) ≡ with_cell id (cell_of_row row) (table_in es)
table_in-inserted id row [] = refl
table_in-inserted id row (e ∷ es) = grind (arith, record_cmp_equal id e.0, table_in-inserted id row es)

pub with_rows-append : (rows more table : Table) → with_rows (rows ++ more) table ≡ with_rows more (with_rows rows table)
with_rows-append [] more table = refl
with_rows-append (row ∷ rows) more table = with_rows-append rows more (with_cell row.0 row.1 table)

-- ---- the row of a record

first-passes : (p : RecordId → Bool) (row other : RecordId × Cell) (rest table : Table) (b : Bool) → p other.0 ≡ b → row ∷ rest ≡ cond b (other ∷ table) table → (row ∷ rest ≡ table → p row.0 ≡ true) → p row.0 ≡ true
first-passes p row other rest table true passes is later = let same : row ≡ other = cc in ap (λ (r : RecordId × Cell). p r.0) same ∙ passes
first-passes p row other rest table false passes is later = later is

where-first : (p : RecordId → Bool) (row : RecordId × Cell) (rest table : Table) → row ∷ rest ≡ where_key record_cmp p table → p row.0 ≡ true
where-first p row rest [] is = cc
where-first p row rest (other ∷ table) is = first-passes p row other rest (where_key record_cmp p table) (p other.0) refl is (where-first p row rest table)

-- the row of a record is all that there is of it
own-row : (id : RecordId) (table : Table) → cell_at (where_key record_cmp (λ other. eq_by_cmp record_cmp other id) table) id ≡ cell_at table id
own-row id table = cell_at-where (λ other. eq_by_cmp record_cmp other id) table id ∙ ap (λ b. cond b (cell_at table id) None) (record_itself id)

pub row-found : (id : RecordId) (rows : List Row) (row : Row) (i j : ℕ) → i < j → j ≤ length rows → row ≡ get_or rows i row
    → table_of (slice_range rows i j) ≡ where_key record_cmp (λ other. eq_by_cmp record_cmp other id) (table_of rows) → (row.id ≡ id) × (cell_at (table_of rows) id ≡ Some (cell_of_row row))
row-found id rows row i j lt within is inside =
    let rest = table_of (take (j - (i + 1)) (drop (i + 1) rows)) in
    let first : (row.id, cell_of_row row) ∷ rest ≡ table_of (slice_range rows i j) = ap table_of (sym slice) in
    let own = same_record row.id id (where-first (λ other. eq_by_cmp record_cmp other id) (row.id, cell_of_row row) rest (table_of rows) (first ∙ inside)) in (
      own,
      sym (own-row id (table_of rows)) ∙ ap (λ t. cell_at t id) (sym (first ∙ inside)) ∙ ap (cell_at ((row.id, cell_of_row row) ∷ rest)) (sym own) ∙ found-first (row.id, cell_of_row row) rest,
    )
  where
    slice : slice_range rows i j ≡ row ∷ take (j - (i + 1)) (drop (i + 1) rows)
    slice =
        let more : j - i ≡ suc (j - (i + 1)) = omega arith in
        let here : i < length rows = omega arith in
        ap₂ (λ n rest. take n rest) more (drop_more rows i row here ∙ ap (λ x. x ∷ drop (i + 1) rows) (sym is))

pub row-missed : (id : RecordId) (rows : List Row) (i j : ℕ) → j ≤ i → table_of (slice_range rows i j) ≡ where_key record_cmp (λ other. eq_by_cmp record_cmp other id) (table_of rows) → cell_at (table_of rows) id ≡ None
row-missed id rows i j le inside =
    let none : j - i ≡ 0 = omega arith in
    sym (own-row id (table_of rows)) ∙ ap (λ t. cell_at t id) (sym inside ∙ ap (λ n. table_of (take n (drop i rows))) none)

-- ---- the rows that a put ends

field-stays : (key field : List ℕ) (table : Table)
    → where_key record_cmp (λ id. is_same id (Field key field)) (where_key record_cmp (λ id. not (is_same id (Str key))) table) ≡ where_key record_cmp (λ id. is_same id (Field key field)) table
field-stays key field [] = refl
field-stays key field (row ∷ table) = grind (arith, same_record row.0 (Field key field), field-stays key field table)

-- the rows in whose place a record goes are apart from what a put of it ends beside them
stands-apart : (id : RecordId) (table : Table) → where_key record_cmp (stands_for id) (where_key record_cmp (λ other. not (is_string_of id other)) table) ≡ where_key record_cmp (stands_for id) table
stands-apart (Str key) table = ap (where_key record_cmp (stands_for (Str key))) (where_all table)
stands-apart (Field key field) table = field-stays key field table

pub put-in_two : (id : RecordId) (value : List ℕ) (rows : List Row) (before between after : Table) → IsTrue (is_sorted record_cmp (table_of rows))
    → between ≡ with_rows (where_key record_cmp (is_string_of id) (table_of rows)) before → after ≡ with_rows (where_key record_cmp (stands_for id) (table_of rows)) between
    → after ≡ with_rows (ended_rows (change.Put id value) (table_of rows)) before
put-in_two id value rows before between after sorted first second =
    let table = table_of rows in
    let strings = where_key record_cmp (is_string_of id) table in
    second ∙ ap (with_rows (where_key record_cmp (stands_for id) table)) first
    ∙ sym (with_rows-append strings (where_key record_cmp (stands_for id) table) before)
    ∙ ap (λ t. with_rows (strings ++ t) before) (sym (stands-apart id table))
    ∙ ap (λ t. with_rows t before) (ended-put id value table sorted)

-- ---- the rows of all slots that a change ends

-- a change of no key ends all rows
pub ended-all : (c : Change) (table : Table) → changed_key c ≡ None → ended_rows c table ≡ table
ended-all (change.Put id value) table none = cc
ended-all (change.Drop id) table none = cc
ended-all (change.DropKey key) table none = cc
ended-all change.Clear table none = where_all table
