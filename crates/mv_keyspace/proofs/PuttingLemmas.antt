-- Where the row of a put goes in, and what it replaces.
use Rattle.std.proofs.Common.{◌≡◌, ℕ, zero, suc, ◌+◌, ◌<◌, ◌≤◌, Bool, true, false, cond, not, ◌||◌, List, [], ◌∷◌, ◌++◌, length, insert, get_or, None, IsTrue, Vec, vec_capacity, slice_range, refl, sym, ap, ◌∙◌, append_assoc, length-append, take, drop, set, ◌-◌, ap₂, arith}
use Rattle.std.proofs.lemmas.List.{map-append, append-nil, length-take-le, take_at, drop_at, drop_more, drop-set-lt}
use Rattle.std.specs.List.{remove_range, replace_range}
use Rattle.std.specs.Cmp.{tied_itself}
use Rattle.std.specs.Cmp.Lexicographic.{nat_list_cmp_total}
use Rattle.std.specs.Global.{Global}
use Rattle.std.specs.FinMap.Entries.{where_key, is_sorted, below_all}
use Rattle.kv_types.specs.declared.record_id.RecordId.{RecordId}
use Rattle.kv_types.specs.declared.record_id.RecordId.TheVariants.{Str, Field}
use Rattle.kv_types.specs.declared.change.Change.TheVariants as change
use Rattle.kv_types.specs.declared.place.EntryNo.{EntryNo}
use Rattle.kv_types.specs.Keyspace.{record_cmp}
use Rattle.kv_types.specs.Order.{record_cmp_total}
use Rattle.kv_types.proofs.OrderLemmas.{same_record}
use Rattle.kv_types.proofs.LookUpLemmas.{is_same}
use Rattle.cmd_core.specs.Record.{SplitsAt, comes_before, is_up_to, has_key_up_to}
use Rattle.cmd_core.proofs.OrderedLemmas.{splits-rest, splits-first, splits-none, splits-later, comes_after}
use Rattle.model.proofs.VersionsLemmas.{ends_record-own}
use Rattle.model.specs.Group.{ends_record}
use Rattle.mv_keyspace.specs.declared.row.Row.{Row}
use Rattle.mv_keyspace.specs.Table.{Cell, Table, cell_at, with_cell, entries_of}
use Rattle.mv_keyspace.specs.Row.{cell_of_row, table_of, numbers_of, TakesOut, is_string_of, stands_for, IsRangeOf, PutsIn}
use Rattle.mv_keyspace.proofs.ListLemmas.{length_map, entry_of, table_of-insert}
use Rattle.mv_keyspace.proofs.EndedLemmas.{cell_at-spared}
use Rattle.mv_keyspace.proofs.EndingLemmas.{length_slice, AreInOrder, order-table, cut-field, cut-key, length-taken, length-left, takes_out}

-- ---- a field and the string of its key, ended one after the other

module _ (key field : List ℕ) where
  abbrev is_string : RecordId → Bool
  is_string id = is_same id (Str key)

  abbrev is_field : RecordId → Bool
  is_field id = is_same id (Field key field)

  -- no string of the key comes behind its field
  no_strings : (table : Table) → IsTrue (below_all record_cmp (Field key field) table) → where_key record_cmp is_string table ≡ []
  no_strings [] below = refl
  no_strings (row ∷ table) below = grind (arith, same_record row.0 (Str key), tied_itself nat_list_cmp_total key, no_strings table)

  ended-both : (table : Table) → IsTrue (is_sorted record_cmp table)
      → where_key record_cmp is_string table ++ where_key record_cmp is_field (where_key record_cmp (λ id. not (is_string id)) table) ≡ where_key record_cmp (λ id. is_field id || is_string id) table
  ended-both [] sorted = refl
  ended-both (row ∷ table) sorted = grind (arith, same_record row.0 (Field key field), no_strings table, ended-both table)

  spared-both : (table : Table) → where_key record_cmp (λ id. not (is_field id)) (where_key record_cmp (λ id. not (is_string id)) table) ≡ where_key record_cmp (λ id. not (is_field id || is_string id)) table
  spared-both [] = refl
  spared-both (row ∷ table) = grind (arith, spared-both table)

pub where_none : (table : Table) → where_key record_cmp (λ id. false) table ≡ []
where_none [] = refl
where_none (row ∷ table) = where_none table

pub where_all : (table : Table) → where_key record_cmp (λ id. true) table ≡ table
where_all [] = refl
where_all (row ∷ table) = ap (λ t. row ∷ t) (where_all table)

pub ended-put : (id : RecordId) (value : List ℕ) (table : Table) → IsTrue (is_sorted record_cmp table)
    → where_key record_cmp (is_string_of id) table ++ where_key record_cmp (stands_for id) (where_key record_cmp (λ other. not (is_string_of id other)) table) ≡ where_key record_cmp (ends_record (change.Put id value)) table
ended-put (Str key) value table sorted = ap₂ (λ a b. a ++ where_key record_cmp (stands_for (Str key)) b) (where_none table) (where_all table)
ended-put (Field key field) value table sorted = ended-both key field table sorted

-- the rows that a put ends, in two steps
pub length-ended_put : (id : RecordId) (value : List ℕ) (table : Table) → IsTrue (is_sorted record_cmp table)
    → length (where_key record_cmp (is_string_of id) table) + length (where_key record_cmp (stands_for id) (where_key record_cmp (λ other. not (is_string_of id other)) table)) ≡ length (where_key record_cmp (ends_record (change.Put id value)) table)
length-ended_put id value table sorted =
    omega (arith, ap (λ (t : Table). length t) (ended-put id value table sorted), length-append (where_key record_cmp (is_string_of id) table) (where_key record_cmp (stands_for id) (where_key record_cmp (λ other. not (is_string_of id other)) table)))

spared-put : (id : RecordId) (value : List ℕ) (table : Table)
    → where_key record_cmp (λ other. not (stands_for id other)) (where_key record_cmp (λ other. not (is_string_of id other)) table) ≡ where_key record_cmp (λ other. not (ends_record (change.Put id value) other)) table
spared-put (Str key) value table = ap (where_key record_cmp (λ other. not (stands_for (Str key) other))) (where_all table)
spared-put (Field key field) value table = spared-both key field table

-- ---- where a row goes in

-- a record that the rows do not have goes in where those stop that come before it
pub place-at_cut : (id : RecordId) (rows : List Row) (n : ℕ) → SplitsAt (λ (row : Row). comes_before id row.id) rows n → cell_at (table_of rows) id ≡ None → (cell : Cell) → with_cell id cell (table_of rows) ≡ insert (table_of rows) n (id, cell)
place-at_cut id [] zero cut absent cell = refl
place-at_cut id [] (suc n) cut absent cell = absurd (omega (arith, cut.0))
place-at_cut id (row ∷ rows) zero cut absent cell = grind (arith, comes_after id row.id (splits-none (λ (r : Row). comes_before id r.id) row rows cut))
place-at_cut id (row ∷ rows) (suc n) cut absent cell =
    grind (arith, splits-first (λ (r : Row). comes_before id r.id) row rows n cut, record_cmp_total.antisymm id row.id, place-at_cut id rows n (splits-rest (λ (r : Row). comes_before id r.id) row rows n cut))

-- ---- a row in the place of a range

module _ {A : Type 0} (p : A → Bool) where
  splits-dropped : (xs : List A) (j : ℕ) → SplitsAt p xs 0 → SplitsAt p (drop j xs) 0
  splits-dropped xs zero cut = cut
  splits-dropped [] (suc j) cut = cut
  splits-dropped (x ∷ xs) (suc j) cut = splits-dropped xs j (splits-later p x xs cut)

  splits-more : (x : A) (xs : List A) (n : ℕ) → p x ≡ true → SplitsAt p xs n → SplitsAt p (x ∷ xs) (suc n)
  splits-more x xs n e cut = (omega (arith, cut.0), (first, later))
    where
      first : (k : ℕ) (d : A) → 0 ≤ k → k < suc n → p (get_or (x ∷ xs) k d) ≡ true
      first zero d le lt = e
      first (suc k) d le lt = cut.1.0 k d (omega arith) (omega arith)

      later : (k : ℕ) (d : A) → suc n ≤ k → k < length (x ∷ xs) → p (get_or (x ∷ xs) k d) ≡ false
      later zero d le lt = absurd (omega arith)
      later (suc k) d le lt = cut.1.1 k d (omega arith) (omega arith)

  -- a cut stays where it is when what stands behind it is taken out
  splits-removed : (xs : List A) (i j : ℕ) → i ≤ j → SplitsAt p xs i → SplitsAt p (remove_range xs i j) i
  splits-removed xs zero j le cut = splits-dropped xs j cut
  splits-removed [] (suc i) j le cut = absurd (omega (arith, cut.0))
  splits-removed (x ∷ xs) (suc i) zero le cut = absurd (omega arith)
  splits-removed (x ∷ xs) (suc i) (suc j) le cut = splits-more x (remove_range xs i j) i (splits-first p x xs i cut) (splits-removed xs i j (omega arith) (splits-rest p x xs i cut))

module _ (row : Row) (rows : List Row) (i j : ℕ) (rise : i ≤ j) (within : j ≤ length rows) where
  first_len : length (take i rows) ≡ i
  first_len = length-take-le i rows (omega arith)

  replaced-insert : replace_range rows i j (row ∷ []) ≡ insert (remove_range rows i j) i row
  replaced-insert =
      append_assoc (take i rows) (row ∷ []) (drop j rows)
      ∙ ap₂ (λ a b. a ++ row ∷ b) (sym (take_at (take i rows) (drop j rows) i first_len)) (sym (drop_at (take i rows) (drop j rows) i first_len))

  table-replaced : SplitsAt (λ (r : Row). comes_before row.id r.id) rows i → cell_at (table_of (remove_range rows i j)) row.id ≡ None
      → table_of (replace_range rows i j (row ∷ [])) ≡ with_cell row.id (cell_of_row row) (table_of (remove_range rows i j))
  table-replaced cut absent =
      ap table_of replaced-insert ∙ table_of-insert (remove_range rows i j) i row
      ∙ sym (place-at_cut row.id (remove_range rows i j) i (splits-removed (λ (r : Row). comes_before row.id r.id) rows i j rise cut) absent (cell_of_row row))

  length-replaced : length (replace_range rows i j (row ∷ [])) ≡ length (remove_range rows i j) + 1
  length-replaced = omega (arith, length-append (take i rows ++ row ∷ []) (drop j rows), length-append (take i rows) (row ∷ []), length-append (take i rows) (drop j rows))

-- the first of a range, whose place another row takes, and the others
slice-over : (rows : List Row) (row first : Row) (i j : ℕ) → i < j → j ≤ length rows → first ≡ get_or rows i first → slice_range rows i j ≡ first ∷ slice_range (set rows i row) (i + 1) j
slice-over rows row first i j lt within is =
    let more : j - i ≡ suc (j - (i + 1)) = omega arith in
    let here : i < length rows = omega arith in
    ap₂ (λ n rest. take n rest) more (drop_more rows i first here ∙ ap (λ x. x ∷ drop (i + 1) rows) (sym is))
    ∙ ap (λ rest. first ∷ take (j - (i + 1)) rest) (sym (drop-set-lt (i + 1) rows i row (omega arith)))

pub numbers-over : (rows : List Row) (row first : Row) (i j : ℕ) (before pushed after : List EntryNo) → i < j → j ≤ length rows → first ≡ get_or rows i first → pushed ≡ before ++ first.entry ∷ []
    → numbers_of after ≡ numbers_of pushed ++ entries_of (table_of (slice_range (set rows i row) (i + 1) j)) → numbers_of after ≡ numbers_of before ++ entries_of (table_of (slice_range rows i j))
numbers-over rows row first i j before pushed after lt within is push named =
    named ∙ ap (λ items. numbers_of items ++ entries_of (table_of (slice_range (set rows i row) (i + 1) j))) push
    ∙ ap (λ numbers. numbers ++ entries_of (table_of (slice_range (set rows i row) (i + 1) j))) (map-append (λ (entry : EntryNo). entry.0) before (first.entry ∷ []))
    ∙ append_assoc (numbers_of before) (first.entry.0 ∷ []) (entries_of (table_of (slice_range (set rows i row) (i + 1) j)))
    ∙ ap (λ items. numbers_of before ++ entries_of (table_of items)) (sym (slice-over rows row first i j lt within is))

-- ---- the range of a record

-- as many rows are in the range as the record goes in the place of
pub length-range_of : (id : RecordId) (rows : List Row) (i j : ℕ) → IsRangeOf id rows i j → i + length (where_key record_cmp (stands_for id) (table_of rows)) ≡ j
length-range_of id rows i j range =
    omega (arith, ap (λ (t : Table). length t) range.inside, length_map entry_of (slice_range rows i j), length_slice rows i j range.rise range.within)

pub range-string : (key : List ℕ) (rows : List Row) (i j : ℕ) → SplitsAt (λ (row : Row). comes_before (Str key) row.id) rows i → SplitsAt (λ (row : Row). has_key_up_to key row.id) rows j → IsRangeOf (Str key) rows i j
range-string key rows i j start end = let cut = cut-key key rows i j start end in record { rise = cut.rise; within = cut.within; start = start; inside = cut.inside; outside = cut.outside }

pub range-field : (key field : List ℕ) (rows : List Row) (i j : ℕ) → SplitsAt (λ (row : Row). comes_before (Field key field) row.id) rows i → SplitsAt (λ (row : Row). is_up_to (Field key field) row.id) rows j → IsRangeOf (Field key field) rows i j
range-field key field rows i j start end = let cut = cut-field key field rows i j start end in record { rise = cut.rise; within = cut.within; start = start; inside = cut.inside; outside = cut.outside }

-- a put of a string ends nothing beside the rows in whose place it goes
pub takes_out-none : (key : List ℕ) (rows : Vec Row Global) (ended : Vec EntryNo Global) → TakesOut (is_string_of (Str key)) rows rows ended ended
takes_out-none key rows ended =
    takes_out (is_string_of (Str key)) rows rows ended ended (sym (where_all (table_of rows.items)))
    (sym (ap (λ t. numbers_of ended.items ++ entries_of t) (where_none (table_of rows.items)) ∙ append-nil (numbers_of ended.items))) refl (omega arith)

-- ---- a put

module _ (row : Row) (value : List ℕ) (rows mid after : Vec Row Global) (before between named : Vec EntryNo Global) (i j : ℕ) (order : AreInOrder rows.items) (first : TakesOut (is_string_of row.id) rows mid before between) (range : IsRangeOf row.id mid.items i j)
    (put : after.items ≡ replace_range mid.items i j (row ∷ [])) (second : numbers_of named.items ≡ numbers_of between.items ++ entries_of (table_of (slice_range mid.items i j)))
    (capacity : vec_capacity mid ≤ vec_capacity after) (capacity_for_ended : vec_capacity between ≤ vec_capacity named) where
  abbrev whole : Table
  whole = table_of rows.items

  spared : table_of (remove_range mid.items i j) ≡ where_key record_cmp (λ id. not (ends_record (change.Put row.id value) id)) whole
  spared = range.outside ∙ ap (where_key record_cmp (λ id. not (stands_for row.id id))) first.table ∙ spared-put row.id value whole

  absent : cell_at (table_of (remove_range mid.items i j)) row.id ≡ None
  absent =
      ap (λ t. cell_at t row.id) spared ∙ cell_at-spared (change.Put row.id value) whole row.id
      ∙ ap (λ b. cond b None (cell_at whole row.id)) (ends_record-own row.id value)

  second_numbers : numbers_of named.items ≡ numbers_of between.items ++ entries_of (where_key record_cmp (stands_for row.id) (table_of mid.items))
  second_numbers = second ∙ ap (λ t. numbers_of between.items ++ entries_of t) range.inside

  pub puts_in : PutsIn row (ends_record (change.Put row.id value)) rows after before named
  puts_in = record {
    table = ap table_of put ∙ table-replaced row mid.items i j range.rise range.within range.start absent ∙ ap (with_cell row.id (cell_of_row row)) spared;
    numbers =
        second_numbers ∙ ap (λ numbers. numbers ++ entries_of (where_key record_cmp (stands_for row.id) (table_of mid.items))) first.numbers
        ∙ append_assoc (numbers_of before.items) (entries_of (where_key record_cmp (is_string_of row.id) whole)) (entries_of (where_key record_cmp (stands_for row.id) (table_of mid.items)))
        ∙ ap (λ t. numbers_of before.items ++ (entries_of (where_key record_cmp (is_string_of row.id) whole) ++ entries_of (where_key record_cmp (stands_for row.id) t))) first.table
        ∙ ap (λ numbers. numbers_of before.items ++ numbers)
        (sym (map-append (λ (r : RecordId × Cell). r.1.entry) (where_key record_cmp (is_string_of row.id) whole) (where_key record_cmp (stands_for row.id) (where_key record_cmp (λ id. not (is_string_of row.id id)) whole)))
        ∙ ap entries_of (ended-put row.id value whole (sym (order-table rows.items) ∙ order)));
    len =
        let moved = length-taken (stands_for row.id) mid.items (remove_range mid.items i j) between.items named.items range.outside second_numbers in
        omega (arith, moved, length-replaced row mid.items i j range.rise range.within, ap (λ items. length items) put, first.len, rows.ok.0, mid.ok.0, after.ok.0, before.ok.0, between.ok.0, named.ok.0);
    fewer =
        let left = length-left (stands_for row.id) mid.items (remove_range mid.items i j) range.outside in
        omega (arith, left, length-replaced row mid.items i j range.rise range.within, ap (λ items. length items) put, first.fewer, rows.ok.0, mid.ok.0, after.ok.0);
    capacity = omega (arith, first.capacity, capacity);
    capacity_for_ended = omega (arith, first.capacity_for_ended, capacity_for_ended);
  }
