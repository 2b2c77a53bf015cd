-- What a position shows, and what stays shown.
use Rattle.std.proofs.Common.{◌≡◌, ℕ, zero, suc, ◌<◌, ◌≤◌, ⊎_elim, Bool, true, false, cond, ◌||◌, List, [], ◌∷◌, ◌++◌, map, Option, Some, None, Contains, IsTrue, nat_le, nat_lt, refl, sym, ap, ap₂, subst, ◌∙◌, arith}
use Rattle.std.specs.Prelude.{Result, Ok, Err, OnOk, OnErr}
use Rattle.std.proofs.lemmas.Bool.{and_parts, or_parts}
use Rattle.std.proofs.lemmas.List.Elements.{All-contains, All-filter, All-from_recursion, recursion_from_All}
use Rattle.std.specs.List.{AllByRecursion}
use Rattle.std.specs.FinMap.Entries.{is_sorted, below_all}
use Rattle.kv_types.specs.declared.record_id.RecordId.{RecordId}
use Rattle.kv_types.specs.declared.refusal.Refusal.{Refusal}
use Rattle.kv_types.specs.Keyspace.{record_cmp}
use Rattle.kv_types.proofs.OrderLemmas.{same_record}
use Rattle.kv_types.proofs.LookUpLemmas.{is_same}
use Rattle.model.specs.declared.group.Put.{Put}
use Rattle.model.specs.declared.group.PlacedChange.{PlacedChange}
use Rattle.model.specs.Group.{change_of, ends_record}
use Rattle.mv_keyspace.specs.Loading.{HasRows}
use Rattle.mv_keyspace.specs.Table.{Cell, Table, cell_at, with_cell, cell_of_put, place, place_all}
use Rattle.mv_keyspace.specs.Versions.{Span, Versions, is_shown, with_past, with_rows, begun_at, shown, ends_some, rows_ended, ended_at, kept, is_pinned, reclaimed, IsUpTo}
use Rattle.mv_keyspace.proofs.AllLemmas.{All-map, All-append}
use Rattle.mv_keyspace.proofs.EndedLemmas.{Makes, stands, same_spared, sorted-lawful}
use Rattle.mv_keyspace.proofs.ListLemmas.{placed-sorted}
use Rattle.mv_keyspace.proofs.NotedLemmas.{cell_at-with_rows, or_else, sorted-with_rows}
use Rattle.mv_keyspace.proofs.TableLemmas.{cell_at-where}
use Rattle.mv_keyspace.proofs.TableMembers.{IsSortedTable, same_table, sorted-where, sorted-with_cell, missed-below, found-first, found-later}

-- ---- what is found in a table that others were put into

-- the cell where it had begun
abbrev pub begun : ℕ → Option Cell → Option Cell
begun at None = None
begun at (Some cell) = cond (nat_le cell.position at) (Some cell) None

cell_at-begun_at : (at : ℕ) (table : Table) (q : RecordId) → IsSortedTable table → cell_at (begun_at at table) q ≡ begun at (cell_at table q)
cell_at-begun_at at [] q sorted = refl
cell_at-begun_at at (row ∷ table) q sorted =
    let parts = and_parts (below_all record_cmp row.0 table) (is_sorted record_cmp table) sorted in
    grind (arith, cell_at-begun_at at table q parts.1, missed-below row.0 table parts.0, same_record q row.0)

below-begun_at : (at : ℕ) (id : RecordId) (table : Table) → IsTrue (below_all record_cmp id table) → IsTrue (below_all record_cmp id (begun_at at table))
below-begun_at at id [] below = refl
below-begun_at at id (row ∷ table) below = grind (arith, below-begun_at at id table)

pub sorted-begun_at : (at : ℕ) (table : Table) → IsSortedTable table → IsSortedTable (begun_at at table)
sorted-begun_at at [] sorted = refl
sorted-begun_at at (row ∷ table) sorted = grind (arith, sorted-begun_at at table, below-begun_at at row.0 table)

pub sorted-with_past : (at : ℕ) (past : Versions) (table : Table) → IsSortedTable table → IsSortedTable (with_past at past table)
sorted-with_past at [] table sorted = sorted
sorted-with_past at (version ∷ past) table sorted =
    sorted-with_past at past (cond (is_shown at version.1) (with_cell version.0 version.1.cell table) table) (either (is_shown at version.1))
  where
    either : (b : Bool) → IsSortedTable (cond b (with_cell version.0 version.1.cell table) table)
    either true = sorted-with_cell version.0 version.1.cell table sorted
    either false = sorted

sorted-shown : (at : ℕ) (table : Table) (past : Versions) → IsSortedTable (shown at table past)
sorted-shown at table past = sorted-with_rows (begun_at at table) (with_past at past []) (sorted-with_past at past [] refl)

-- what a position shows of a record
cell_at-shown : (at : ℕ) (table : Table) (past : Versions) (q : RecordId) → IsSortedTable table
    → cell_at (shown at table past) q ≡ or_else (begun at (cell_at table q)) (cell_at (with_past at past []) q)
cell_at-shown at table past q sorted =
    cell_at-with_rows (begun_at at table) (with_past at past []) q (sorted-begun_at at table sorted)
    ∙ ap (λ found. or_else found (cell_at (with_past at past []) q)) (cell_at-begun_at at table q sorted)

-- ---- versions that ended

with_past-append : (at : ℕ) (past more : Versions) (table : Table) → with_past at (past ++ more) table ≡ with_past at more (with_past at past table)
with_past-append at [] more table = refl
with_past-append at (version ∷ past) more table = with_past-append at past more (cond (is_shown at version.1) (with_cell version.0 version.1.cell table) table)

with_past-ended : (at position : ℕ) (rows table : Table) → at < position → with_past at (map (ended_at position) rows) table ≡ with_rows (begun_at at rows) table
with_past-ended at position [] table lt = refl
with_past-ended at position (row ∷ rows) table lt =
    let not_yet : nat_lt at position ≡ true = grind arith in
    grind (arith, with_past-ended at position rows table lt, with_past-ended at position rows (with_cell row.0 row.1 table) lt)

-- ---- changes at one position

-- a record that no change ends keeps its row
unended : (position : ℕ) (table : Table) (changes : List PlacedChange) (q : RecordId) → ends_some changes q ≡ false → cell_at (place_all position table changes) q ≡ cell_at table q
unended position table [] q spared = refl
unended position table (c ∷ changes) q spared =
    let parts = or_parts (ends_record (change_of c) q) (ends_some changes q) spared in
    unended position (place position table c) changes q parts.1 ∙ same_spared position c table q parts.0

-- what holds of the cell that is found for a record
abbrev Has : (Cell → Type 0) → Table → RecordId → Type 0
Has P table q = (cell : Cell) → cell_at table q ≡ Some cell → P cell

module _ (position : ℕ) (P : Cell → Type 0) (made : (put : Put) → P (cell_of_put position put)) where
  has-place : (c : PlacedChange) (table : Table) (q : RecordId) → (ends_record (change_of c) q ≡ false → Has P table q) → Has P (place position table c) q
  has-place c table q before cell found =
      ⊎_elim (λ (h : Makes position c q cell). subst P (sym h.3) (made h.0)) (λ (h : (ends_record (change_of c) q ≡ false) × (cell_at table q ≡ Some cell)). before h.0 cell h.1) (stands position c table q cell found)

  -- what the changes make holds it, so only of a record that none of them ends it is to be known before
  has-place_all : (changes : List PlacedChange) (table : Table) (q : RecordId) → (ends_some changes q ≡ false → Has P table q) → Has P (place_all position table changes) q
  has-place_all [] table q before = before refl
  has-place_all (c ∷ changes) table q before =
      has-place_all changes (place position table c) q (λ later. has-place c table q (λ first. before (ap₂ (λ (a b : Bool). a || b) first later)))

sorted-place_all : (position : ℕ) (table : Table) (changes : List PlacedChange) → IsSortedTable table → IsSortedTable (place_all position table changes)
sorted-place_all position table [] sorted = sorted
sorted-place_all position table (c ∷ changes) sorted = sorted-place_all position (place position table c) changes (placed-sorted position table c sorted)

-- a cell that had not begun is not shown
pub begun-late : (at : ℕ) (cell : Cell) → at < cell.position → begun at (Some cell) ≡ None
begun-late at cell lt = grind arith

begun-later : (at : ℕ) (found : Option Cell) → ((cell : Cell) → found ≡ Some cell → at < cell.position) → begun at found ≡ None
begun-later at None later = refl
begun-later at (Some cell) later = begun-late at cell (later cell refl)

-- Changes at a position leave a position below it what it showed, when the rows that they end are kept.
module _ (at position : ℕ) (table : Table) (past : Versions) (changes : List PlacedChange) (lt : at < position) (sorted : IsSortedTable table) where
  abbrev gone : Table
  gone = rows_ended changes table

  abbrev shown_before : Table
  shown_before = with_past at past []

  past_after : with_past at (past ++ map (ended_at position) gone) [] ≡ with_rows (begun_at at gone) shown_before
  past_after = with_past-append at past (map (ended_at position) gone) [] ∙ with_past-ended at position gone shown_before lt

  sorted_gone : IsSortedTable gone
  sorted_gone = sorted-where (ends_some changes) table sorted

  found_past : (q : RecordId) → cell_at (with_past at (past ++ map (ended_at position) gone) []) q ≡ or_else (begun at (cond (ends_some changes q) (cell_at table q) None)) (cell_at shown_before q)
  found_past q =
      ap (λ t. cell_at t q) past_after
      ∙ cell_at-with_rows (begun_at at gone) shown_before q (sorted-begun_at at gone sorted_gone)
      ∙ ap (λ found. or_else found (cell_at shown_before q)) (cell_at-begun_at at gone q sorted_gone ∙ ap (begun at) (cell_at-where (ends_some changes) table q))

  same_found : (q : RecordId) (b : Bool) → ends_some changes q ≡ b
      → or_else (begun at (cell_at (place_all position table changes) q)) (or_else (begun at (cond b (cell_at table q) None)) (cell_at shown_before q)) ≡ or_else (begun at (cell_at table q)) (cell_at shown_before q)
  same_found q true ended =
      ap (λ found. or_else found (or_else (begun at (cell_at table q)) (cell_at shown_before q)))
      (begun-later at (cell_at (place_all position table changes) q) (has-place_all position (λ cell. at < cell.position) (λ put. lt) changes table q (λ spared cell found. cc)))
  same_found q false spared = ap (λ found. or_else (begun at found) (cell_at shown_before q)) (unended position table changes q spared)

  pub shown-changed : shown at (place_all position table changes) (past ++ map (ended_at position) gone) ≡ shown at table past
  shown-changed =
      let after = past ++ map (ended_at position) gone in
      let sorted_after = sorted-place_all position table changes sorted in
      same_table (shown at (place_all position table changes) after) (shown at table past)
      (sorted-shown at (place_all position table changes) after) (sorted-shown at table past)
      (λ q.
      cell_at-shown at (place_all position table changes) after q sorted_after
      ∙ ap (or_else (begun at (cell_at (place_all position table changes) q))) (found_past q)
      ∙ same_found q (ends_some changes q) refl
      ∙ sym (cell_at-shown at table past q sorted))

pub shown-kept : (pins : List ℕ) (at position : ℕ) (table : Table) (past : Versions) (changes : List PlacedChange) → Contains pins at → at < position → IsSortedTable table
    → shown at (place_all position table changes) (past ++ kept pins position changes table) ≡ shown at table past
shown-kept [] at position table past changes m lt sorted = absurd (omega (arith, m.1))
shown-kept (pin ∷ pins) at position table past changes m lt sorted = shown-changed at position table past changes lt sorted

-- ---- up to a position

All-from_found : (P : Cell → Type 0) (table : Table) → IsSortedTable table → ((q : RecordId) → Has P table q) → AllByRecursion (λ (row : RecordId × Cell). P row.1) table
All-from_found P [] sorted all = tt
All-from_found P (row ∷ table) sorted all =
    let parts = and_parts (below_all record_cmp row.0 table) (is_sorted record_cmp table) sorted in
    (all row.0 row.1 (found-first row table), All-from_found P table parts.1 (λ q cell found. all q cell (found-later row table q cell parts.0 found)))

found-from_All : (P : Cell → Type 0) (table : Table) → AllByRecursion (λ (row : RecordId × Cell). P row.1) table → (q : RecordId) → Has P table q
found-from_All P [] all q cell found = cc
found-from_All P (row ∷ table) all q cell found =
    elim (is_same q row.0) as (λ b. cond b (Some row.1) (cell_at table q) ≡ Some cell → P cell) [
      | true ↦ λ is. let same : row.1 ≡ cell = cc in subst P same all.0
      | false ↦ λ is. found-from_All P table all.1 q cell is
    ] found

abbrev EndsBy : ℕ → RecordId × Span → Type 0
EndsBy n version = version.1.end ≤ n

abbrev BeginsBy : ℕ → Cell → Type 0
BeginsBy n cell = cell.position ≤ n

abbrev RowBeginsBy : ℕ → RecordId × Cell → Type 0
RowBeginsBy n row = row.1.position ≤ n

ended-later : (old new : ℕ) (past : Versions) → old ≤ new → AllByRecursion (EndsBy old) past → AllByRecursion (EndsBy new) past
ended-later old new past le = All-map (EndsBy old) (EndsBy new) (λ version by. omega (arith, by)) past

ended-by : (n position : ℕ) (rows : Table) → position ≤ n → AllByRecursion (EndsBy n) (map (ended_at position) rows)
ended-by n position [] le = tt
ended-by n position (row ∷ rows) le = (le, ended-by n position rows le)

kept-by : (n position : ℕ) (pins : List ℕ) (changes : List PlacedChange) (table : Table) → position ≤ n → AllByRecursion (EndsBy n) (kept pins position changes table)
kept-by n position [] changes table le = tt
kept-by n position (pin ∷ pins) changes table le = ended-by n position (rows_ended changes table) le

pub up_to-changed : (old new position : ℕ) (pins : List ℕ) (changes : List PlacedChange) (table : Table) (past : Versions) → old ≤ new → position ≤ new → IsUpTo old table past
    → IsUpTo new (place_all position table changes) (past ++ kept pins position changes table)
up_to-changed old new position pins changes table past le le' is = record {
  ordered = sorted-place_all position table changes is.ordered;
  live =
      All-from_found (BeginsBy new) (place_all position table changes) (sorted-place_all position table changes is.ordered)
      (λ q. has-place_all position (BeginsBy new) (λ put. le') changes table q (λ spared cell found. let by = found-from_All (BeginsBy old) table is.live q cell found in omega (arith, by)));
  ended = All-append (EndsBy new) past (kept pins position changes table) (ended-later old new past le is.ended) (kept-by new position pins changes table le');
}

pub up_to-reclaimed : (n horizon : ℕ) (pins : List ℕ) (table : Table) (past : Versions) → IsUpTo n table past → IsUpTo n table (reclaimed horizon pins past)
up_to-reclaimed n horizon pins table past is = record {
  ordered = is.ordered;
  live = is.live;
  ended = recursion_from_All (EndsBy n) (reclaimed horizon pins past) (All-filter (λ version. nat_lt horizon version.1.end || is_pinned pins version.1) (EndsBy n) past (All-from_recursion (EndsBy n) past is.ended));
}

pub up_to-load : (old new : ℕ) (rows table before : Table) (past : Versions) (result : Result (Unit {0}) Refusal) → old ≤ new → AllByRecursion (RowBeginsBy new) rows
    → OnOk result (HasRows rows table) → OnErr result (table ≡ []) → IsUpTo old before past → IsUpTo new table past
up_to-load old new rows table before past result le all has empty is = record { ordered = ordered result has empty; live = live result has empty; ended = ended-later old new past le is.ended }
  where
    ordered : (result : Result (Unit {0}) Refusal) → OnOk result (HasRows rows table) → OnErr result (table ≡ []) → IsSortedTable table
    ordered (Ok done) has empty = sorted-lawful table has.lawful
    ordered (Err refusal) has empty = subst IsSortedTable (sym empty) refl

    live : (result : Result (Unit {0}) Refusal) → OnOk result (HasRows rows table) → OnErr result (table ≡ []) → AllByRecursion (RowBeginsBy new) table
    live (Ok done) has empty =
        All-from_found (BeginsBy new) table (sorted-lawful table has.lawful)
        (λ q cell found. All-contains (RowBeginsBy new) rows (q, cell) (All-from_recursion (RowBeginsBy new) rows all) ((has.these q cell).0 found))
    live (Err refusal) has empty = subst (AllByRecursion (RowBeginsBy new)) (sym empty) tt

-- ---- what is shown at the last position

begun-all : (n : ℕ) (table : Table) → AllByRecursion (RowBeginsBy n) table → begun_at n table ≡ table
begun-all n [] all = refl
begun-all n (row ∷ table) all = let le = all.0 in grind (arith, begun-all n table all.1, le)

past-over : (n : ℕ) (past : Versions) (table : Table) → AllByRecursion (EndsBy n) past → with_past n past table ≡ table
past-over n [] table all = refl
past-over n (version ∷ past) table all = let le = all.0 in grind (arith, past-over n past table all.1, le)

or_else-none : (found : Option Cell) → or_else found None ≡ found
or_else-none None = refl
or_else-none (Some cell) = refl

with_rows-none : (table : Table) → IsSortedTable table → with_rows table [] ≡ table
with_rows-none table sorted = same_table (with_rows table []) table (sorted-with_rows table [] refl) sorted (λ q. cell_at-with_rows table [] q sorted ∙ or_else-none (cell_at table q))

pub shown-last : (n : ℕ) (table : Table) (past : Versions) → IsUpTo n table past → shown n table past ≡ table
shown-last n table past is =
    ap (λ t. with_rows t (with_past n past [])) (begun-all n table is.live) ∙ ap (with_rows table) (past-over n past [] is.ended) ∙ with_rows-none table is.ordered

-- ---- what is reclaimed

pinned : (pins : List ℕ) (at : ℕ) (span : Span) → Contains pins at → is_pinned pins span ≡ false → is_shown at span ≡ false
pinned [] at span m e = absurd (omega (arith, m.1))
pinned (pin ∷ pins) at span (zero, lt, is) e = ap (λ p. is_shown p span) (sym is) ∙ (or_parts (is_shown pin span) (is_pinned pins span) e).0
pinned (pin ∷ pins) at span (suc k, lt, is) e = pinned pins at span (k, omega (arith, lt), is) (or_parts (is_shown pin span) (is_pinned pins span) e).1

past-reclaimed : (at horizon : ℕ) (pins : List ℕ) (past : Versions) (table : Table) → Contains pins at → with_past at (reclaimed horizon pins past) table ≡ with_past at past table
past-reclaimed at horizon pins [] table m = refl
past-reclaimed at horizon pins (version ∷ past) table m =
    let put = λ (b : Bool). cond b (with_cell version.0 version.1.cell table) table in
    elim (nat_lt horizon version.1.end || is_pinned pins version.1) as (λ b. (nat_lt horizon version.1.end || is_pinned pins version.1) ≡ b
    → with_past at (cond b (version ∷ reclaimed horizon pins past) (reclaimed horizon pins past)) table ≡ with_past at past (cond (is_shown at version.1) (with_cell version.0 version.1.cell table) table)) [
      | true ↦ λ e. past-reclaimed at horizon pins past (put (is_shown at version.1)) m
      | false ↦ λ e. past-reclaimed at horizon pins past table m
          ∙ ap (λ b. with_past at past (put b)) (sym (pinned pins at version.1 m (or_parts (nat_lt horizon version.1.end) (is_pinned pins version.1) e).1))
    ] refl

pub shown-reclaimed : (at horizon : ℕ) (pins : List ℕ) (table : Table) (past : Versions) → Contains pins at → shown at table (reclaimed horizon pins past) ≡ shown at table past
shown-reclaimed at horizon pins table past m = ap (with_rows (begun_at at table)) (past-reclaimed at horizon pins past [] m)

-- ---- what is viewed

pub viewed-live : (at : ℕ) (table : Table) (past : Versions) (id : RecordId) (cell : Cell) → IsSortedTable table → cell_at table id ≡ Some cell → cell.position ≤ at → cell_at (shown at table past) id ≡ Some cell
viewed-live at table past id cell sorted found le =
    cell_at-shown at table past id sorted ∙ ap (λ f. or_else (begun at f) (cell_at (with_past at past []) id)) found ∙ grind arith

pub viewed-past : (at : ℕ) (table : Table) (past : Versions) (id : RecordId) → IsSortedTable table → begun at (cell_at table id) ≡ None → cell_at (shown at table past) id ≡ cell_at (with_past at past []) id
viewed-past at table past id sorted none = cell_at-shown at table past id sorted ∙ ap (λ f. or_else f (cell_at (with_past at past []) id)) none
