-- Rows that are filtered, and rows inserted among others.
use Rattle.std.proofs.Common.{◌≡◌, ℕ, suc, ◌+◌, Bool, List, [], ◌∷◌, ◌++◌, map, length, take, drop, insert, IsTrue, refl, sym, ap, ap₂, ◌∙◌, length-append, arith}
use Rattle.std.proofs.lemmas.List.{map-append, take-map, drop-map}
use Rattle.std.specs.Prelude.{filter}
use Rattle.std.specs.FinMap.Entries.{where_key, is_sorted}
use Rattle.kv_types.specs.declared.record_id.RecordId.{RecordId}
use Rattle.kv_types.specs.declared.place.EntryNo.{EntryNo}
use Rattle.kv_types.specs.Keyspace.{record_cmp}
use Rattle.kv_types.proofs.PlayLemmas.{is_sorted-play}
use Rattle.model.specs.declared.group.PlacedChange.{PlacedChange}
use Rattle.model.specs.Group.{change_of}
use Rattle.mv_keyspace.specs.declared.row.Row.{Row}
use Rattle.mv_keyspace.specs.Table.{Cell, Table, records, entries_of, place, place_all}
use Rattle.mv_keyspace.proofs.TableLemmas.{records-place}
use Rattle.mv_keyspace.proofs.TableMembers.{is_sorted-records}
use Rattle.mv_keyspace.specs.Row.{cell_of_row, records_of, records_of_table, table_of, numbers_of}

pub length_map : {X Y : Type 0} (f : X → Y) (xs : List X) → length (map f xs) ≡ length xs
length_map f [] = refl
length_map f (x ∷ xs) = ap suc (length_map f xs)

abbrev pub entry_of : Row → RecordId × Cell
entry_of row = (row.id, cell_of_row row)

-- rows that pass a test, as a table
pub table_of-filter : (p : RecordId → Bool) (rows : List Row) → table_of (filter (λ row. p row.id) rows) ≡ where_key record_cmp p (table_of rows)
table_of-filter p [] = refl
table_of-filter p (row ∷ rows) = grind (arith, table_of-filter p rows)

-- ---- the same by rows

pub table_of-insert : (rows : List Row) (n : ℕ) (row : Row) → table_of (insert rows n row) ≡ insert (table_of rows) n (row.id, cell_of_row row)
table_of-insert rows n row =
    map-append entry_of (take n rows) (row ∷ drop n rows)
    ∙ ap (λ prefix. prefix ++ entry_of row ∷ table_of (drop n rows)) (sym (take-map entry_of n rows))
    ∙ ap (λ rest. take n (table_of rows) ++ entry_of row ∷ rest) (sym (drop-map entry_of n rows))

-- ---- the order of rows

sorted_placed : (position : ℕ) (table : Table) (changes : List PlacedChange) → IsTrue (is_sorted record_cmp (records table)) → IsTrue (is_sorted record_cmp (records (place_all position table changes)))
sorted_placed position table [] sorted = sorted
sorted_placed position table (change ∷ changes) sorted =
    sorted_placed position (place position table change) changes
    (ap (is_sorted record_cmp) (records-place position table change) ∙ is_sorted-play (records table) (change_of change) sorted)

-- a change keeps the order of a table
pub placed-sorted : (position : ℕ) (table : Table) (change : PlacedChange) → IsTrue (is_sorted record_cmp table) → IsTrue (is_sorted record_cmp (place position table change))
placed-sorted position table change sorted =
    sym (is_sorted-records (place position table change)) ∙ sorted_placed position table (change ∷ []) (is_sorted-records table ∙ sorted)

-- rows that became those after changes are in the order of records
pub in_order-placed : (position : ℕ) (rows after : List Row) (changes : List PlacedChange) → table_of after ≡ place_all position (table_of rows) changes → IsTrue (is_sorted record_cmp (records_of rows)) → IsTrue (is_sorted record_cmp (records_of after))
in_order-placed position rows after changes is sorted =
    ap (is_sorted record_cmp) (records_of_table after ∙ ap records is)
    ∙ sorted_placed position (table_of rows) changes (ap (is_sorted record_cmp) (sym (records_of_table rows)) ∙ sorted)

-- ---- lengths

pub length-ended : (before after : List EntryNo) (gone : Table) → numbers_of after ≡ numbers_of before ++ entries_of gone → length after ≡ length before + length gone
length-ended before after gone is =
    omega (arith, ap (λ (xs : List ℕ). length xs) is, length-append (numbers_of before) (entries_of gone), length_map (λ (entry : EntryNo). entry.0) after, length_map (λ (entry : EntryNo). entry.0) before, length_map (λ (row : RecordId × Cell). row.1.entry) gone)

-- ---- entries and their numbers

-- numbers that come after those of some entries are the numbers of entries that come after them
pub more_entries : (before after : List EntryNo) (more : List ℕ) → numbers_of after ≡ numbers_of before ++ more → (rest : List EntryNo) × (after ≡ before ++ rest) × (numbers_of rest ≡ more)
more_entries [] after more is = (after, refl, is)
more_entries (entry ∷ before) [] more is = cc
more_entries (entry ∷ before) (other ∷ after) more is =
    let same : other.0 ≡ entry.0 = cc in
    let others : numbers_of after ≡ numbers_of before ++ more = cc in
    let rest = more_entries before after more others in
    (rest.0, ap₂ (λ (x : EntryNo) (xs : List EntryNo). x ∷ xs) (same_entry other entry same) rest.1, rest.2)
  where
    same_entry : (x y : EntryNo) → x.0 ≡ y.0 → x ≡ y
    same_entry x y e = λ k. record x { 0 = e k }
