-- The ranges in which the rows stand that a change ends.
use Rattle.std.proofs.Common.{nat_eq, ◌≡◌, ℕ, ◌+◌, ◌≤◌, Bool, true, false, not, ◌&&◌, List, ◌++◌, length, IsTrue, Vec, vec_capacity, slice_range, refl, sym, ap, ◌∙◌, ◌-◌, drop, arith}
use Rattle.std.proofs.lemmas.List.{length-drop, length-take-le}
use Rattle.std.proofs.lemmas.List.Filters.{length-filter_both}
use Rattle.std.specs.List.{remove_range}
use Rattle.std.specs.Global.{Global}
use Rattle.std.specs.FinMap.Entries.{where_key, is_sorted}
use Rattle.kv_types.specs.declared.record_id.RecordId.{RecordId}
use Rattle.kv_types.specs.declared.place.EntryNo.{EntryNo}
use Rattle.kv_types.specs.Keyspace.{key_of, record_cmp}
use Rattle.cmd_core.specs.Record.{SplitsAt, comes_before, is_up_to, has_key_up_to}
use Rattle.std.specs.Cmp.Lexicographic.{pointwise}
use Rattle.std.specs.Ordering.{eq_by_cmp}
use Rattle.kv_types.specs.declared.record_id.RecordId.TheVariants.{Str, Field}
use Rattle.cmd_core.proofs.OrderedLemmas.{cuts-rise, range-between, left-between, key-comes_before, key_between, record-is_up_to, record_between}
use Rattle.mv_keyspace.specs.declared.row.Row.{Row}
use Rattle.mv_keyspace.specs.Table.{Cell, Table, entries_of, IsLawful}
use Rattle.mv_keyspace.specs.Row.{records_of, records_of_table, table_of, numbers_of, TakesOut}
use Rattle.mv_keyspace.proofs.ListLemmas.{length_map, length-ended, entry_of, table_of-filter}
use Rattle.mv_keyspace.proofs.TableMembers.{is_sorted-records, sorted-where}

-- ---- rows between two cuts

pub length_slice : {A : Type 0} (xs : List A) (i j : ℕ) → i ≤ j → j ≤ length xs → i + length (slice_range xs i j) ≡ j
length_slice xs i j rise within = omega (arith, length-drop i xs, length-take-le (j - i) (drop i xs) (omega (arith, rise, within, length-drop i xs)))

-- the rows from i to before j are those that pass
pub record IsCutOut (passes : RecordId → Bool) (rows : List Row) (i j : ℕ) : Type 0 where
  pub rise : i ≤ j
  pub within : j ≤ length rows
  pub inside : table_of (slice_range rows i j) ≡ where_key record_cmp passes (table_of rows)
  pub outside : table_of (remove_range rows i j) ≡ where_key record_cmp (λ id. not (passes id)) (table_of rows)

pub cut_out : (earlier later passes : RecordId → Bool) → ((id : RecordId) → earlier id ≡ true → later id ≡ true) → ((id : RecordId) → passes id ≡ (later id && not (earlier id))) → (rows : List Row) (i j : ℕ)
    → SplitsAt (λ (row : Row). earlier row.id) rows i → SplitsAt (λ (row : Row). later row.id) rows j → IsCutOut passes rows i j
cut_out earlier later passes both between rows i j start end = record {
  rise = cuts-rise (λ (row : Row). earlier row.id) (λ (row : Row). later row.id) (λ row. both row.id) rows i j start end;
  within = end.0;
  inside =
      ap table_of (range-between (λ (row : Row). earlier row.id) (λ (row : Row). later row.id) (λ row. both row.id) rows i j start end)
      ∙ table_of-filter (λ id. later id && not (earlier id)) rows
      ∙ (λ t. where_key record_cmp (λ id. sym (between id) t) (table_of rows));
  outside =
      ap table_of (left-between (λ (row : Row). earlier row.id) (λ (row : Row). later row.id) (λ row. both row.id) rows i j start end)
      ∙ table_of-filter (λ id. not (later id && not (earlier id))) rows
      ∙ (λ t. where_key record_cmp (λ id. not (sym (between id) t)) (table_of rows));
}

pub cut-field : (key field : List ℕ) (rows : List Row) (i j : ℕ) → SplitsAt (λ (row : Row). comes_before (Field key field) row.id) rows i → SplitsAt (λ (row : Row). is_up_to (Field key field) row.id) rows j
    → IsCutOut (λ id. eq_by_cmp record_cmp id (Field key field)) rows i j
cut-field key field rows i j start end = cut_out (comes_before (Field key field)) (is_up_to (Field key field)) _ (record-is_up_to (Field key field)) (record_between (Field key field)) rows i j start end

pub cut-string : (key : List ℕ) (rows : List Row) (i j : ℕ) → SplitsAt (λ (row : Row). comes_before (Str key) row.id) rows i → SplitsAt (λ (row : Row). is_up_to (Str key) row.id) rows j
    → IsCutOut (λ id. eq_by_cmp record_cmp id (Str key)) rows i j
cut-string key rows i j start end = cut_out (comes_before (Str key)) (is_up_to (Str key)) _ (record-is_up_to (Str key)) (record_between (Str key)) rows i j start end

pub cut-key : (key : List ℕ) (rows : List Row) (i j : ℕ) → SplitsAt (λ (row : Row). comes_before (Str key) row.id) rows i → SplitsAt (λ (row : Row). has_key_up_to key row.id) rows j
    → IsCutOut (λ id. pointwise nat_eq (key_of id) key) rows i j
cut-key key rows i j start end = cut_out (comes_before (Str key)) (has_key_up_to key) _ (key-comes_before key) (key_between key) rows i j start end

-- as many rows stand between the cuts as pass
pub cut-length : (passes : RecordId → Bool) (rows : List Row) (i j : ℕ) → IsCutOut passes rows i j → i + length (where_key record_cmp passes (table_of rows)) ≡ j
cut-length passes rows i j cut = omega (arith, cut.rise, ap (λ (t : Table). length t) cut.inside, length_map entry_of (slice_range rows i j), length_slice rows i j cut.rise cut.within)

-- rows that pass a test and rows that do not are all rows
length-both : (passes : RecordId → Bool) (rows left : List Row) → table_of left ≡ where_key record_cmp (λ id. not (passes id)) (table_of rows) → length left + length (where_key record_cmp passes (table_of rows)) ≡ length rows
length-both passes rows left spared =
    omega (arith, length_map entry_of left, length_map entry_of rows, ap (λ (t : Table). length t) spared, length-filter_both (λ (row : RecordId × Cell). passes row.0) (λ row. not (passes row.0)) (λ row. refl) (table_of rows))

pub length-taken : (passes : RecordId → Bool) (rows left : List Row) (before after : List EntryNo) → table_of left ≡ where_key record_cmp (λ id. not (passes id)) (table_of rows)
    → numbers_of after ≡ numbers_of before ++ entries_of (where_key record_cmp passes (table_of rows)) → length after + length left ≡ length before + length rows
length-taken passes rows left before after spared named = omega (arith, length-both passes rows left spared, length-ended before after (where_key record_cmp passes (table_of rows)) named)

pub length-left : (passes : RecordId → Bool) (rows left : List Row) → table_of left ≡ where_key record_cmp (λ id. not (passes id)) (table_of rows) → length left ≤ length rows
length-left passes rows left spared = omega (arith, length-both passes rows left spared)

pub takes_out : (passes : RecordId → Bool) (rows left : Vec Row Global) (before after : Vec EntryNo Global) → table_of left.items ≡ where_key record_cmp (λ id. not (passes id)) (table_of rows.items)
    → numbers_of after.items ≡ numbers_of before.items ++ entries_of (where_key record_cmp passes (table_of rows.items)) → vec_capacity left ≡ vec_capacity rows → vec_capacity before ≤ vec_capacity after → TakesOut passes rows left before after
takes_out passes rows left before after spared named capacity capacity_for_ended = record {
  table = spared;
  numbers = named;
  len = omega (arith, length-taken passes rows.items left.items before.items after.items spared named, rows.ok.0, left.ok.0, before.ok.0, after.ok.0);
  fewer = omega (arith, length-left passes rows.items left.items spared, rows.ok.0, left.ok.0);
  capacity = capacity;
  capacity_for_ended = capacity_for_ended;
}

-- the same from the facts of a range that was taken out
pub takes_out-cut : (passes : RecordId → Bool) (rows left : Vec Row Global) (before after : Vec EntryNo Global) (i j : ℕ) → IsCutOut passes rows.items i j → left.items ≡ remove_range rows.items i j
    → numbers_of after.items ≡ numbers_of before.items ++ entries_of (table_of (slice_range rows.items i j)) → vec_capacity left ≡ vec_capacity rows → vec_capacity before ≤ vec_capacity after → TakesOut passes rows left before after
takes_out-cut passes rows left before after i j cut removed named capacity capacity_for_ended =
    takes_out passes rows left before after (ap table_of removed ∙ cut.outside) (named ∙ ap (λ gone. numbers_of before.items ++ entries_of gone) cut.inside) capacity capacity_for_ended

-- ---- the order of the rows that are left

abbrev pub AreInOrder : List Row → Type 0
AreInOrder rows = IsTrue (is_sorted record_cmp (records_of rows))

pub order-table : (rows : List Row) → is_sorted record_cmp (records_of rows) ≡ is_sorted record_cmp (table_of rows)
order-table rows = ap (is_sorted record_cmp) (records_of_table rows) ∙ is_sorted-records (table_of rows)

pub order-left : (passes : RecordId → Bool) (rows left : List Row) → table_of left ≡ where_key record_cmp passes (table_of rows) → AreInOrder rows → AreInOrder left
order-left passes rows left is order = order-table left ∙ ap (is_sorted record_cmp) is ∙ sorted-where passes (table_of rows) (sym (order-table rows) ∙ order)

pub order-lawful : (rows : List Row) → IsLawful (table_of rows) → AreInOrder rows
order-lawful rows lawful = ap (is_sorted record_cmp) (records_of_table rows) ∙ lawful.keyspace.sorted

-- ---- all rows

pub cut-all : (rows : List Row) (n : ℕ) → length rows ≡ n → IsCutOut (λ id. true) rows 0 n
cut-all rows n whole =
    cut_out (λ id. false) (λ id. true) (λ id. true) (λ id e. refl) (λ id. refl) rows 0 n (omega arith, (λ k d le lt. absurd (omega arith), λ k d le lt. refl))
    (omega (arith, whole), (λ k d le lt. refl, λ k d le lt. absurd (omega (arith, whole))))
