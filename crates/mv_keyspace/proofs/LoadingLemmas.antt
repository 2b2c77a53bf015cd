-- Rows that exclude none of the others make up a lawful table once they are in order.
use Rattle.std.proofs.Common.{◌≡◌, ℕ, zero, suc, ◌<◌, ◌≤◌, ◌⊎◌, ⊎_elim, ◌&&◌, ◌||◌, List, [], ◌∷◌, length, get_or, Bool, true, false, IsTrue, cond, Option, Some, None, IsSome, Contains, nat_eq, refl, sym, ap, ap₂, subst, ◌∙◌, is_lt, arith, eq-eqb}
use Rattle.std.proofs.lemmas.Bool.{and_parts, and_from, or_parts, cases_order}
use Rattle.std.proofs.lemmas.List.{get_or_default}
use Rattle.std.proofs.lemmas.List.Sorted.{ranks_by, sorted_far, IsPermutation-map, IsPermutation-sym, Contains-permutation}
use Rattle.std.proofs.lemmas.Map.Keys.{IsDistinct-head, IsDistinct-tail, IsDistinct-IsPermutation, apart_from_distinct}
use Rattle.std.specs.Cmp.{both_ways}
use Rattle.std.specs.FinMap.Entries.{is_sorted, below_all}
use Rattle.std.specs.List.{AllByRecursion}
use Rattle.std.specs.List.Sorted.{IsPermutation, IsSortedBy}
use Rattle.std.specs.Option.{option_map}
use Rattle.std.specs.Prelude.{is_none}
use Rattle.kv_types.specs.declared.record_id.RecordId.{RecordId}
use Rattle.kv_types.specs.declared.record_id.RecordId.TheVariants.{Str, Field}
use Rattle.kv_types.specs.Keyspace.{key_of, field_of, record_cmp}
use Rattle.kv_types.specs.Order.{record_cmp_total}
use Rattle.kv_types.proofs.OrderLemmas.{record_cmp_equal, same_record, record_itself, same_key, key_itself}
use Rattle.kv_types.proofs.LookUpLemmas.{is_same, is_same_at, is_same_key}
use Rattle.model.specs.ReadImage.{is_clash}
use Rattle.mv_keyspace.specs.declared.row.Row.{Row}
use Rattle.mv_keyspace.specs.Loading.{excludes, AreCompatible, HasRows}
use Rattle.mv_keyspace.specs.Row.{records_of, records_of_table, table_of}
use Rattle.mv_keyspace.specs.Table.{Cell, Table, cell_at, IsLawful}
use Rattle.std.proofs.lemmas.Bool.{or_right}
use Rattle.mv_keyspace.proofs.ListLemmas.{entry_of}
use Rattle.mv_keyspace.proofs.TableLemmas.{value_at-records}
use Rattle.mv_keyspace.proofs.TableMembers.{IsSortedTable, is_sorted-records, found-later}

-- ---- what excludes what

same_key-flips : (xs ys : List ℕ) → is_same_key xs ys ≡ is_same_key ys xs
same_key-flips xs ys = both_ways (is_same_key xs ys) (is_same_key ys xs) (turned xs ys) (turned ys xs)
  where
    turned : (xs ys : List ℕ) → is_same_key xs ys ≡ true → is_same_key ys xs ≡ true
    turned xs ys e = ap (is_same_key ys) (same_key xs ys e) ∙ key_itself ys

same-flips : (x y : RecordId) → is_same x y ≡ is_same y x
same-flips x y = both_ways (is_same x y) (is_same y x) (λ e. is_same_at y x (sym (same_record x y e))) (λ e. is_same_at x y (sym (same_record y x e)))

clash-flips : (x y : RecordId) → is_clash x y ≡ is_clash y x
clash-flips x y = turned (is_none (field_of x)) (is_none (field_of y)) (same_key-flips (key_of x) (key_of y)) (same-flips x y)
  where
    turned : {k k' s s' : Bool} (f f' : Bool) → k ≡ k' → s ≡ s' → (k && (s || f || f')) ≡ (k' && (s' || f' || f))
    turned f f' e e' = grind arith

pub excludes-flips : (x y : RecordId × Cell) → excludes x y ≡ excludes y x
excludes-flips x y = ap₂ (λ (a b : Bool). a || b) (clash-flips x.0 y.0) (grind arith)

clash_itself : (x : RecordId) → is_clash x x ≡ true
clash_itself x = ap₂ (λ (a b : Bool). a && (b || is_none (field_of x) || is_none (field_of x))) (key_itself (key_of x)) (record_itself x)

-- two rows of which each excludes the other do not come one after the other
apart_in_turn : (rows : Table) → AreCompatible rows → (x y : RecordId × Cell) (i j : ℕ) → i < j → j < length rows → get_or rows i x ≡ x → get_or rows j y ≡ y → excludes x y ≡ true → ⊥
apart_in_turn rows apart x y i j before within is is' e =
    let none = apart_from_distinct excludes rows i j x apart before within in
    let last : get_or rows j x ≡ y = get_or_default rows j x y within ∙ is' in
    let told : excludes x y ≡ false = sym (ap₂ excludes is last) ∙ none in
    cc

-- of rows that exclude none of the others, two that exclude each other are one
pub same_row : (rows : Table) → AreCompatible rows → (x y : RecordId × Cell) → Contains rows x → Contains rows y → excludes x y ≡ true → x ≡ y
same_row rows apart x y at at' e =
    ⊎_elim (λ (same : at.0 ≡ at'.0). sym at.2 ∙ get_or_default rows at.0 x y at.1 ∙ ap (λ k. get_or rows k y) same ∙ at'.2)
    (λ (other : (at.0 < at'.0) ⊎ (at'.0 < at.0)).
    ⊎_elim (λ (first : at.0 < at'.0). absurd (apart_in_turn rows apart x y at.0 at'.0 first at'.1 at.2 at'.2 e))
    (λ (last : at'.0 < at.0). absurd (apart_in_turn rows apart y x at'.0 at.0 last at.1 at'.2 at.2 (excludes-flips y x ∙ e)))
    other)
    (cases_order at.0 at'.0)

-- ---- rows that were sorted

rises : (x y : RecordId) → is_lt (record_cmp y x) ≡ false → is_clash x y ≡ false → IsTrue (is_lt (record_cmp x y))
rises x y up apart = grind (arith, record_cmp_total.antisymm y x, record_cmp_equal x y, clash_itself x)

below : (row : Row) (rest : List Row) → ((j : ℕ) (d : Row) → j < length rest → is_lt (record_cmp (get_or rest j d).id row.id) ≡ false)
    → AllByRecursion (λ other. excludes (entry_of row) other ≡ false) (table_of rest) → IsTrue (below_all record_cmp row.id (table_of rest))
below row [] up apart = refl
below row (next ∷ rest) up apart =
    and_from _ _ (rises row.id next.id (up 0 next (omega arith)) (or_parts (is_clash row.id next.id) (nat_eq row.entry.0 next.entry.0) apart.0).0) (below row rest (λ j d lt. up (suc j) d (omega (arith, lt))) apart.1)

-- no row is of a record before that of an earlier row
abbrev pub NeverFalls : List Row → Type 0
NeverFalls rows = (i j : ℕ) (d : Row) → i ≤ j → j < length rows → is_lt (record_cmp (get_or rows j d).id (get_or rows i d).id) ≡ false

in_order : (rows : List Row) → NeverFalls rows → AreCompatible (table_of rows) → IsSortedTable (table_of rows)
in_order [] up apart = refl
in_order (row ∷ rest) up apart =
    ap₂ (λ (a b : Bool). a && b)
    (below row rest (λ j d lt. up 0 (suc j) d (omega arith) (omega (arith, lt))) (IsDistinct-head excludes (entry_of row) (table_of rest) apart))
    (in_order rest (λ i j d le lt. up (suc i) (suc j) d (omega (arith, le)) (omega (arith, lt))) (IsDistinct-tail excludes (entry_of row) (table_of rest) apart))

-- ---- a row is in a table exactly where the look-up finds it

found_at : (table : Table) (id : RecordId) (cell : Cell) (k : ℕ) → IsSortedTable table → k < length table → get_or table k (id, cell) ≡ (id, cell) → cell_at table id ≡ Some cell
found_at [] id cell k h lt e = absurd (omega arith)
found_at (row ∷ table) id cell zero h lt e =
    ap₂ (λ (b : Bool) (c : Cell). cond b (Some c) (cell_at table id)) (ap (λ (y : RecordId × Cell). is_same id y.0) e ∙ record_itself id) (ap (λ (y : RecordId × Cell). y.1) e)
found_at (row ∷ table) id cell (suc k) h lt e =
    let parts = and_parts (below_all record_cmp row.0 table) (is_sorted record_cmp table) h in
    found-later row table id cell parts.0 (found_at table id cell k parts.1 (omega arith) e)

pub found-from_row : (table : Table) (id : RecordId) (cell : Cell) → IsSortedTable table → Contains table (id, cell) → cell_at table id ≡ Some cell
found-from_row table id cell h m = found_at table id cell m.0 h m.1 m.2

pub row-from_found : (table : Table) (id : RecordId) (cell : Cell) → cell_at table id ≡ Some cell → Contains table (id, cell)
row-from_found [] id cell e = cc
row-from_found (row ∷ table) id cell e =
    elim (is_same id row.0) as (λ b. is_same id row.0 ≡ b → cond b (Some row.1) (cell_at table id) ≡ Some cell → Contains (row ∷ table) (id, cell)) [
      | true ↦ λ t is. let same : row.1 ≡ cell = cc in (0, omega arith, λ i. (sym (same_record id row.0 t) i, same i))
      | false ↦ λ t is. let m = row-from_found table id cell is in (suc m.0, omega (arith, m.1), m.2)
    ] refl e

-- ---- the table that they make up

module _ (table : Table) (sorted : IsSortedTable table) (apart : AreCompatible table) where
  -- a string and a field of one key exclude each other
  one_kind : (key field : List ℕ) (string other : Option Cell) → cell_at table (Str key) ≡ string → cell_at table (Field key field) ≡ other
      → IsSome (option_map (λ cell. cell.value) string) → option_map (λ cell. cell.value) other ≡ None
  one_kind key field string None found found' some = refl
  one_kind key field None (Some other) found found' some = cc
  one_kind key field (Some cell) (Some other) found found' some =
      let clash = ap₂ (λ (a b : Bool). a && b || nat_eq cell.entry other.entry) (key_itself key) (ap (λ b. b || false) (or_right (is_same (Str key) (Field key field)) true refl)) in
      let same : Str key ≡ Field key field =
      ap (λ (y : RecordId × Cell). y.0)
      (same_row table apart (Str key, cell) (Field key field, other) (row-from_found table (Str key) cell found) (row-from_found table (Field key field) other found') clash) in
      cc

  pub lawful : IsLawful table
  lawful = record {
    keyspace = record {
      sorted = is_sorted-records table ∙ sorted;
      one_kind = λ key field is.
          value_at-records table (Field key field)
          ∙ one_kind key field (cell_at table (Str key)) (cell_at table (Field key field)) refl refl (subst IsSome (value_at-records table (Str key)) is);
    };
    once = λ id other cell cell' found found' same.
        ap (λ (y : RecordId × Cell). y.0)
        (same_row table apart (id, cell) (other, cell') (row-from_found table id cell found) (row-from_found table other cell' found')
        (or_right (is_clash id other) (nat_eq cell.entry cell'.entry) (eq-eqb cell.entry cell'.entry same)));
  }

-- rows that were sorted
module _ (old new : List Row) (moved : IsPermutation old new) (up : IsSortedBy (λ x y. is_lt (record_cmp x.id y.id)) new) (apart : AreCompatible (table_of old)) where
  moved_rows : IsPermutation (table_of old) (table_of new)
  moved_rows = IsPermutation-map entry_of old new moved

  still_apart : AreCompatible (table_of new)
  still_apart = IsDistinct-IsPermutation excludes excludes-flips (table_of old) (table_of new) moved_rows apart

  sorted : IsSortedTable (table_of new)
  sorted = in_order new (sorted_far (λ x y. is_lt (record_cmp x.id y.id)) (ranks_by record_cmp_total (λ (row : Row). row.id)) new up) still_apart

  pub rows-sorted : HasRows (table_of old) (table_of new)
  rows-sorted = record {
    lawful = lawful (table_of new) sorted still_apart;
    these = λ id cell. (
      λ found. Contains-permutation (table_of new) (table_of old) (id, cell) (IsPermutation-sym (table_of old) (table_of new) moved_rows) (row-from_found (table_of new) id cell found),
      λ at. found-from_row (table_of new) id cell sorted (Contains-permutation (table_of old) (table_of new) (id, cell) moved_rows at),
    );
  }

  pub order-sorted : IsTrue (is_sorted record_cmp (records_of new))
  order-sorted = ap (is_sorted record_cmp) (records_of_table new) ∙ is_sorted-records (table_of new) ∙ sorted
