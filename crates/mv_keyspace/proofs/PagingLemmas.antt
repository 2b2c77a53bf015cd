-- Pages of a table.
use Rattle.std.specs.Prelude.{is_some, IsSome}
use Rattle.std.proofs.Common.{◌≡◌, ℕ, ◌+◌, ◌<◌, ◌≤◌, Bool, true, false, cond, not, ◌&&◌, List, [], ◌∷◌, ◌++◌, length, get_or, take, drop, Option, Some, None, MatchOption, IsTrue, nat_le, slice_range, refl, sym, ap, ap₂, subst, ◌∙◌, append-nil, zero, suc, Bor, option_copied, arith}
use Rattle.std.proofs.Math.Seq.{take-length}
use Rattle.std.proofs.lemmas.List.{length-drop}
use Rattle.std.proofs.lemmas.Bool.{and_parts, and_from}
use Rattle.std.proofs.lemmas.List.Elements.{filter-append}
use Rattle.std.specs.List.{AllByRecursion}
use Rattle.std.specs.BTreeMap.Range.{entries_between}
use Rattle.std.specs.declared.ops.Bound.TheVariants.{Included, Unbounded}
use Rattle.std.specs.Cmp.Lexicographic.{nat_list_cmp_total}
use Rattle.std.specs.declared.cmp.Ordering.{Ordering}
use Rattle.std.specs.Ordering.{is_lt, is_le, ordering_then, ordering_reverse}
use Rattle.std.specs.FinMap.Entries.{where_key, is_sorted, below_all}
use Rattle.kv_types.specs.declared.record_id.RecordId.{RecordId}
use Rattle.kv_types.specs.Keyspace.{bytes_cmp, key_of, record_cmp}
use Rattle.kv_types.specs.Order.{record_cmp_total}
use Rattle.kv_types.proofs.OrderLemmas.{record_itself, same_record}
use Rattle.kv_types.proofs.LookUpLemmas.{is_same}
use Rattle.cmd_core.specs.Record.{SplitsAt, is_up_to}
use Rattle.cmd_core.proofs.OrderedLemmas.{earlier-is_up_to, record_between}
use Rattle.mv_keyspace.specs.declared.past.Ended.{Ended}
use Rattle.mv_keyspace.specs.declared.row.Row.{Row}
use Rattle.mv_keyspace.specs.Paging.{size_of, is_after, is_within, rows_after, page, filled}
use Rattle.mv_keyspace.specs.Row.{cell_of_row, table_of}
use Rattle.mv_keyspace.specs.declared.slot.Slot.{Slot}
use Rattle.mv_keyspace.specs.Slot.{rows_of}
use Rattle.mv_keyspace.specs.Slots.{Slots, AreOfKey, rows_in}
use Rattle.mv_keyspace.specs.Table.{Cell, Table, cell_at, with_cell}
use Rattle.mv_keyspace.specs.Versions.{Gathered, Versions, begun_at, is_shown, shown, table_in, version_of, versions_of, with_past, with_rows}
use Rattle.mv_keyspace.proofs.EndingLemmas.{cut_out}
use Rattle.mv_keyspace.proofs.NotedLemmas.{cell_at-with_rows, or_else, sorted-with_rows, where-same}
use Rattle.mv_keyspace.proofs.PastLemmas.{past-more}
use Rattle.mv_keyspace.proofs.ShownLemmas.{sorted-begun_at, sorted-with_past}
use Rattle.mv_keyspace.proofs.SlotLemmas.{table_of-append}
use Rattle.mv_keyspace.proofs.TableLemmas.{cell_at-where, cell_at-with_cell}
use Rattle.mv_keyspace.proofs.TableMembers.{IsSortedTable, same_table, sorted-where, sorted-with_cell}
use Rattle.mv_keyspace.proofs.PageSizes.{filled-append, filled-rest, page-more}

-- the last of some rows
pub last-split : (rows : List Row) (n : ℕ) (row : Row) → n + 1 ≡ length rows → row ≡ get_or rows n row → (before : List Row) × (last : Row) × (rows ≡ before ++ last ∷ []) × (row.id ≡ last.id)
last-split [] n row e is = absurd (omega (arith, e))
last-split (first ∷ []) zero row e is = ([], row, ap (λ r. r ∷ []) (sym is), refl)
last-split (first ∷ second ∷ rows) zero row e is = absurd (omega (arith, e))
last-split (first ∷ rows) (suc n) row e is = let rest = last-split rows n row (omega (arith, e)) is in (first ∷ rest.0, rest.1, ap (λ r. first ∷ r) rest.2, rest.3)

-- ---- rows by tests of their records

pub where-where : (p q : RecordId → Bool) (table : Table) → where_key record_cmp p (where_key record_cmp q table) ≡ where_key record_cmp (λ id. q id && p id) table
where-where p q [] = refl
where-where p q (row ∷ table) = grind (arith, where-where p q table)

pub begun_at-where : (at : ℕ) (p : RecordId → Bool) (table : Table) → begun_at at (where_key record_cmp p table) ≡ where_key record_cmp p (begun_at at table)
begun_at-where at p [] = refl
begun_at-where at p (row ∷ table) = grind (arith, begun_at-where at p table)

where-with_rows : (p : RecordId → Bool) (rows table : Table) → IsSortedTable rows → IsSortedTable table → with_rows (where_key record_cmp p rows) (where_key record_cmp p table) ≡ where_key record_cmp p (with_rows rows table)
where-with_rows p rows table sorted sorted' =
    same_table _ _ (sorted-with_rows (where_key record_cmp p rows) (where_key record_cmp p table) (sorted-where p table sorted')) (sorted-where p (with_rows rows table) (sorted-with_rows rows table sorted'))
    (λ q. cell_at-with_rows (where_key record_cmp p rows) (where_key record_cmp p table) q (sorted-where p rows sorted)
    ∙ ap₂ or_else (cell_at-where p rows q) (cell_at-where p table q)
    ∙ either (p q) (cell_at rows q) (cell_at table q)
    ∙ ap (λ cell. cond (p q) cell None) (sym (cell_at-with_rows rows table q sorted))
    ∙ sym (cell_at-where p (with_rows rows table) q))
  where
    either : (b : Bool) (x y : Option Cell) → or_else (cond b x None) (cond b y None) ≡ cond b (or_else x y) None
    either true x y = refl
    either false x y = refl

where-with_cell : (p : RecordId → Bool) (id : RecordId) (cell : Cell) (table : Table) → IsSortedTable table
    → where_key record_cmp p (with_cell id cell table) ≡ cond (p id) (with_cell id cell (where_key record_cmp p table)) (where_key record_cmp p table)
where-with_cell p id cell table sorted =
    same_table _ _ (sorted-where p (with_cell id cell table) (sorted-with_cell id cell table sorted)) (either (p id))
    (λ q. cell_at-where p (with_cell id cell table) q
    ∙ ap (λ found. cond (p q) found None) (cell_at-with_cell table id cell q)
    ∙ same q (is_same q id) refl (p q) refl (p id) refl
    ∙ sym (found q (p id)))
  where
    either : (b : Bool) → IsSortedTable (cond b (with_cell id cell (where_key record_cmp p table)) (where_key record_cmp p table))
    either true = sorted-with_cell id cell (where_key record_cmp p table) (sorted-where p table sorted)
    either false = sorted-where p table sorted

    found : (q : RecordId) (b : Bool) → cell_at (cond b (with_cell id cell (where_key record_cmp p table)) (where_key record_cmp p table)) q
        ≡ cond b (cond (is_same q id) (Some cell) (cond (p q) (cell_at table q) None)) (cond (p q) (cell_at table q) None)
    found q true = cell_at-with_cell (where_key record_cmp p table) id cell q ∙ ap (λ other. cond (is_same q id) (Some cell) other) (cell_at-where p table q)
    found q false = cell_at-where p table q

    same : (q : RecordId) (a : Bool) → is_same q id ≡ a → (b : Bool) → p q ≡ b → (c : Bool) → p id ≡ c
        → cond b (cond a (Some cell) (cell_at table q)) None ≡ cond c (cond a (Some cell) (cond b (cell_at table q) None)) (cond b (cell_at table q) None)
    same q true e true f true g = refl
    same q true e true f false g = let h : p q ≡ p id = ap p (same_record q id e) in cc
    same q true e false f true g = let h : p q ≡ p id = ap p (same_record q id e) in cc
    same q true e false f false g = refl
    same q false e true f true g = refl
    same q false e true f false g = refl
    same q false e false f true g = refl
    same q false e false f false g = refl

-- what is shown within with one version more
pub within-more : (p : RecordId → Bool) (at : ℕ) (ended : List Ended) (i : ℕ) (item : Ended) → i < length ended → item ≡ get_or ended i item
    → where_key record_cmp p (with_past at (versions_of (take (i + 1) ended)) [])
    ≡ cond (is_shown at (version_of item).1 && p item.row.id) (with_cell item.row.id (cell_of_row item.row) (where_key record_cmp p (with_past at (versions_of (take i ended)) [])))
    (where_key record_cmp p (with_past at (versions_of (take i ended)) []))
within-more p at ended i item lt is =
    ap (where_key record_cmp p) (past-more at ended i item lt is) ∙ step (is_shown at (version_of item).1)
  where
    before : Table
    before = with_past at (versions_of (take i ended)) []

    step : (b : Bool) → where_key record_cmp p (cond b (with_cell item.row.id (cell_of_row item.row) before) before)
        ≡ cond (b && p item.row.id) (with_cell item.row.id (cell_of_row item.row) (where_key record_cmp p before)) (where_key record_cmp p before)
    step true = where-with_cell p item.row.id (cell_of_row item.row) before (sorted-with_past at (versions_of (take i ended)) [] refl)
    step false = refl

-- no version laid under rows in order
pub with_rows-none : (rows under : Table) → IsSortedTable rows → under ≡ [] → rows ≡ with_rows rows under
with_rows-none rows under sorted none =
    sym (ap (with_rows rows) none
    ∙ same_table (with_rows rows []) rows (sorted-with_rows rows [] refl) sorted (λ q. cell_at-with_rows rows [] q sorted ∙ no_other (cell_at rows q)))
  where
    no_other : (x : Option Cell) → or_else x None ≡ x
    no_other None = refl
    no_other (Some cell) = refl

pub none-in : (es : Gathered) → length es ≡ 0 → table_in es ≡ []
none-in [] none = refl
none-in (e ∷ es) none = absurd (omega (arith, none))

-- the rows of a list in order that come behind a record stand behind where a test cuts it
pub rows-behind : (id : RecordId) (rows : List Row) (n : ℕ) → SplitsAt (λ (row : Row). is_up_to id row.id) rows n → table_of (drop n rows) ≡ rows_after (Some id) (table_of rows)
rows-behind id rows n cut =
    ap table_of (sym slice)
    ∙ (cut_out (is_up_to id) (λ other. true) (λ other. not (is_up_to id other)) (λ other e. refl) (λ other. refl) rows n (length rows) cut
    (omega arith, (λ k d le lt. refl, λ k d le lt. absurd (omega arith)))).inside
  where
    slice : slice_range rows n (length rows) ≡ drop n rows
    slice = ap (λ k. take k (drop n rows)) (sym (length-drop n rows)) ∙ take-length (drop n rows)

after-append : (after : Option RecordId) (rows more : List Row) → rows_after after (table_of (rows ++ more)) ≡ rows_after after (table_of rows) ++ rows_after after (table_of more)
after-append after rows more = ap (rows_after after) (table_of-append rows more) ∙ filter-append (λ (row : RecordId × Cell). is_after after row.0) (table_of rows) (table_of more)

-- rows that were taken of some, and then those of more, are taken of all
pub filled-step : (bytes bytes' at : ℕ) (after : Option RecordId) (done done' : Table) (rows more : List Row) → bytes' ≡ bytes → done' ≡ filled bytes done (begun_at at (rows_after after (table_of rows)))
    → filled bytes' done' (begun_at at (rows_after after (table_of more))) ≡ filled bytes done (begun_at at (rows_after after (table_of (rows ++ more))))
filled-step bytes bytes' at after done done' rows more same is =
    let first = begun_at at (rows_after after (table_of rows)) in
    let later = begun_at at (rows_after after (table_of more)) in
    ap₂ (λ n t. filled n t later) same is
    ∙ sym (filled-append bytes done first later)
    ∙ ap (filled bytes done) (sym (filter-append (λ (row : RecordId × Cell). nat_le row.1.position at) (rows_after after (table_of rows)) (rows_after after (table_of more))))
    ∙ ap (λ t. filled bytes done (begun_at at t)) (sym (after-append after rows more))

-- ---- the slots from that of a record on

first_Less : (o p rest : Ordering) → o ≡ ordering_reverse p → is_le p ≡ false → is_le (ordering_then o rest) ≡ true
first_Less o p rest e above = grind arith

up_to-key : (id other : RecordId) → is_le (bytes_cmp (key_of id) (key_of other)) ≡ false → is_up_to id other ≡ true
up_to-key id other above = first_Less (bytes_cmp (key_of other) (key_of id)) (bytes_cmp (key_of id) (key_of other)) _ (nat_list_cmp_total.antisymm (key_of other) (key_of id)) above

none-of_key : (id : RecordId) (key : List ℕ) (rows : Table) → is_le (bytes_cmp (key_of id) key) ≡ false → AreOfKey key rows → rows_after (Some id) rows ≡ []
none-of_key id key [] below of = refl
none-of_key id key (row ∷ rows) below of =
    ap (λ b. cond (not b) (row ∷ rows_after (Some id) rows) (rows_after (Some id) rows)) (up_to-key id row.0 (subst (λ k. is_le (bytes_cmp (key_of id) k) ≡ false) (sym of.0) below))
    ∙ none-of_key id key rows below of.1

abbrev from : RecordId → Slots → Slots
from id = entries_between bytes_cmp (Included (key_of id)) Unbounded

pub slots-from : (id : RecordId) (es : Slots) → AllByRecursion (λ (e : List ℕ × Slot). AreOfKey e.0 (table_of (rows_of e.0 e.1))) es
    → rows_after (Some id) (table_of (rows_in (from id es))) ≡ rows_after (Some id) (table_of (rows_in es))
slots-from id [] own = refl
slots-from id (e ∷ es) own =
    let rows = rows_of e.0 e.1 in
    elim (is_le (bytes_cmp (key_of id) e.0)) as (λ b. is_le (bytes_cmp (key_of id) e.0) ≡ b → rows_after (Some id) (table_of (rows_in (cond (b && true) (e ∷ from id es) (from id es)))) ≡ rows_after (Some id) (table_of (rows ++ rows_in es))) [
      | true ↦ λ up. after-append (Some id) rows (rows_in (from id es)) ∙ ap (λ t. rows_after (Some id) (table_of rows) ++ t) (slots-from id es own.1) ∙ sym (after-append (Some id) rows (rows_in es))
      | false ↦ λ below. slots-from id es own.1 ∙ sym (after-append (Some id) rows (rows_in es) ∙ ap (λ t. t ++ rows_after (Some id) (table_of (rows_in es))) (none-of_key id e.0 (table_of rows) below own.0))
    ] refl

-- every slot stands from no bound on
pub slots-all : (es : Slots) → entries_between bytes_cmp Unbounded Unbounded es ≡ es
slots-all [] = refl
slots-all (e ∷ es) = ap (λ rest. e ∷ rest) (slots-all es)

-- ---- tables in order, cut behind a record

none-up_to : (id first : RecordId) (table : Table) → is_up_to id first ≡ false → IsTrue (below_all record_cmp first table) → where_key record_cmp (is_up_to id) table ≡ []
none-up_to id first [] behind below = refl
none-up_to id first (row ∷ table) behind below = grind (arith, none-up_to id first table behind, earlier-is_up_to id first row.0)

all-behind : (id first : RecordId) (table : Table) → is_up_to id first ≡ false → IsTrue (below_all record_cmp first table) → where_key record_cmp (λ other. not (is_up_to id other)) table ≡ table
all-behind id first [] behind below = refl
all-behind id first (row ∷ table) behind below = grind (arith, all-behind id first table behind, earlier-is_up_to id first row.0)

-- a table is its rows up to a record, and those behind it
up_to-split : (id : RecordId) (table : Table) → IsSortedTable table → table ≡ where_key record_cmp (is_up_to id) table ++ where_key record_cmp (λ other. not (is_up_to id other)) table
up_to-split id [] sorted = refl
up_to-split id (row ∷ table) sorted =
    let parts = and_parts (below_all record_cmp row.0 table) (is_sorted record_cmp table) sorted in
    elim (is_up_to id row.0) as (λ b. is_up_to id row.0 ≡ b
    → row ∷ table ≡ cond b (row ∷ where_key record_cmp (is_up_to id) table) (where_key record_cmp (is_up_to id) table)
    ++ cond (not b) (row ∷ where_key record_cmp (λ other. not (is_up_to id other)) table) (where_key record_cmp (λ other. not (is_up_to id other)) table)) [
      | true ↦ λ e. ap (λ t. row ∷ t) (up_to-split id table parts.1)
      | false ↦ λ e. ap₂ (λ (before behind : Table). before ++ row ∷ behind) (sym (none-up_to id row.0 table e parts.0)) (sym (all-behind id row.0 table e parts.0))
    ] refl

pub up_to-itself : (id : RecordId) → is_up_to id id ≡ true
up_to-itself id = grind (arith, record_itself id, record_between id id)

pub not_le : (o p : Ordering) → o ≡ ordering_reverse p → is_lt p ≡ true → is_le o ≡ false
not_le o p e lt = grind arith

not-up_to : (id other : RecordId) → is_lt (record_cmp id other) ≡ true → is_up_to id other ≡ false
not-up_to id other lt = not_le (record_cmp other id) (record_cmp id other) (record_cmp_total.antisymm other id) lt

none-behind : (id : RecordId) (rest : Table) → IsTrue (below_all record_cmp id rest) → where_key record_cmp (is_up_to id) rest ≡ []
none-behind id [] below = refl
none-behind id (row ∷ rest) below =
    let parts = and_parts (is_lt (record_cmp id row.0)) (below_all record_cmp id rest) below in
    ap (λ b. cond b (row ∷ where_key record_cmp (is_up_to id) rest) (where_key record_cmp (is_up_to id) rest)) (not-up_to id row.0 parts.0) ∙ none-behind id rest parts.1

below-member : (first : RecordId) (before : Table) (row : RecordId × Cell) (rest : Table) → IsTrue (below_all record_cmp first ((before ++ row ∷ []) ++ rest)) → is_lt (record_cmp first row.0) ≡ true
below-member first [] row rest below = (and_parts (is_lt (record_cmp first row.0)) (below_all record_cmp first rest) below).0
below-member first (other ∷ before) row rest below =
    below-member first before row rest (and_parts (is_lt (record_cmp first other.0)) (below_all record_cmp first ((before ++ row ∷ []) ++ rest)) below).1

-- the front of a table in order is its rows up to the last of the front
up_to-front : (before : Table) (last : RecordId × Cell) (rest : Table) → IsSortedTable ((before ++ last ∷ []) ++ rest) → where_key record_cmp (is_up_to last.0) ((before ++ last ∷ []) ++ rest) ≡ before ++ last ∷ []
up_to-front [] last rest sorted =
    let parts = and_parts (below_all record_cmp last.0 rest) (is_sorted record_cmp rest) sorted in
    ap (λ b. cond b (last ∷ where_key record_cmp (is_up_to last.0) rest) (where_key record_cmp (is_up_to last.0) rest)) (up_to-itself last.0) ∙ ap (λ t. last ∷ t) (none-behind last.0 rest parts.0)
up_to-front (row ∷ before) last rest sorted =
    let all = (before ++ last ∷ []) ++ rest in
    let parts = and_parts (below_all record_cmp row.0 all) (is_sorted record_cmp all) sorted in
    ap (λ b. cond b (row ∷ where_key record_cmp (is_up_to last.0) all) (where_key record_cmp (is_up_to last.0) all)) (earlier-is_up_to last.0 row.0 last.0 (below-member row.0 before last rest parts.0) (up_to-itself last.0))
    ∙ ap (λ t. row ∷ t) (up_to-front before last rest parts.1)

pub below-front : (id : RecordId) (rows more : Table) → IsTrue (below_all record_cmp id (rows ++ more)) → IsTrue (below_all record_cmp id rows)
below-front id [] more below = refl
below-front id (row ∷ rows) more below =
    let parts = and_parts (is_lt (record_cmp id row.0)) (below_all record_cmp id (rows ++ more)) below in
    and_from (is_lt (record_cmp id row.0)) (below_all record_cmp id rows) parts.0 (below-front id rows more parts.1)

front-sorted : (rows more : Table) → IsSortedTable (rows ++ more) → IsSortedTable rows
front-sorted [] more sorted = refl
front-sorted (row ∷ rows) more sorted =
    let parts = and_parts (below_all record_cmp row.0 (rows ++ more)) (is_sorted record_cmp (rows ++ more)) sorted in
    and_from (below_all record_cmp row.0 rows) (is_sorted record_cmp rows) (below-front row.0 rows more parts.0) (front-sorted rows more parts.1)

-- ---- a table has no fewer bytes than the rows that were put into it

size-where : (p : RecordId → Bool) (table : Table) → size_of (where_key record_cmp p table) ≤ size_of table
size-where p [] = omega arith
size-where p (row ∷ table) =
    elim (p row.0) as (λ b. size_of (cond b (row ∷ where_key record_cmp p table) (where_key record_cmp p table)) ≤ size_of (row ∷ table)) [
      | true ↦ omega (arith, size-where p table)
      | false ↦ omega (arith, size-where p table)
    ]

where-put : (rows table : Table) → IsSortedTable rows → IsSortedTable table → where_key record_cmp (λ id. is_some (cell_at rows id)) (with_rows rows table) ≡ rows
where-put rows table sorted sorted' =
    same_table _ _ (sorted-where (λ id. is_some (cell_at rows id)) (with_rows rows table) (sorted-with_rows rows table sorted')) sorted
    (λ q. cell_at-where (λ id. is_some (cell_at rows id)) (with_rows rows table) q ∙ ap (λ cell. cond (is_some (cell_at rows q)) cell None) (cell_at-with_rows rows table q sorted) ∙ either (cell_at rows q) (cell_at table q))
  where
    either : (x y : Option Cell) → cond (is_some x) (or_else x y) None ≡ x
    either None y = refl
    either (Some cell) y = refl

size-put : (rows table : Table) → IsSortedTable rows → IsSortedTable table → size_of rows ≤ size_of (with_rows rows table)
size-put rows table sorted sorted' =
    subst (λ part. size_of part ≤ size_of (with_rows rows table)) (where-put rows table sorted sorted') (size-where (λ id. is_some (cell_at rows id)) (with_rows rows table))

-- ---- the page of what a position shows

-- the last of the rows, where they have more than so many bytes
abbrev pub IsLastOfFull : ℕ → Table → Option RecordId → Type 0
IsLastOfFull bytes rows None = size_of rows ≤ bytes
IsLastOfFull bytes rows (Some id) = (bytes < size_of rows) × (before : Table) × (last : RecordId × Cell) × (rows ≡ before ++ last ∷ []) × (id ≡ last.0)

and_true : (b : Bool) → b ≡ (b && true)
and_true true = refl
and_true false = refl

-- live rows that were taken until there were enough are all those within
live-within : (bytes : ℕ) (after until : Option RecordId) (begun live : Table) → IsSortedTable begun → live ≡ filled bytes [] (rows_after after begun) → IsLastOfFull bytes live until
    → live ≡ where_key record_cmp (is_within after until) begun
live-within bytes after None begun live sorted is few =
    let all = filled-rest bytes [] (rows_after after begun) in
    let none : all.0 ≡ [] = all.2 (subst (λ t. size_of t ≤ bytes) is few) in
    is ∙ sym (append-nil (filled bytes [] (rows_after after begun))) ∙ ap (λ t. filled bytes [] (rows_after after begun) ++ t) (sym none) ∙ sym all.1
    ∙ where-same (is_after after) (is_within after None) begun (λ id. and_true (is_after after id))
live-within bytes after (Some id) begun live sorted is full =
    let all = filled-rest bytes [] (rows_after after begun) in
    let before = full.1 in
    let last = full.2 in
    let rows : rows_after after begun ≡ (before ++ last ∷ []) ++ all.0 = all.1 ∙ ap (λ t. t ++ all.0) (sym is ∙ full.3) in
    full.3
    ∙ sym (up_to-front before last all.0 (subst IsSortedTable rows (sorted-where (is_after after) begun sorted)))
    ∙ ap (where_key record_cmp (is_up_to last.0)) (sym rows)
    ∙ ap (λ q. where_key record_cmp (is_up_to q) (rows_after after begun)) (sym full.4)
    ∙ where-where (is_up_to id) (is_after after) begun

page-within : (bytes : ℕ) (after until : Option RecordId) (table part : Table) → IsSortedTable table → part ≡ where_key record_cmp (is_within after until) table → (IsSome until → bytes < size_of part)
    → page bytes part ≡ page bytes (rows_after after table)
page-within bytes after None table part sorted is full = ap (page bytes) (is ∙ sym (where-same (is_after after) (is_within after None) table (λ id. and_true (is_after after id))))
page-within bytes after (Some id) table part sorted is full =
    let later = rows_after after table in
    let up_to : part ≡ where_key record_cmp (is_up_to id) later = is ∙ sym (where-where (is_up_to id) (is_after after) table) in
    let behind = where_key record_cmp (λ other. not (is_up_to id other)) later in
    sym (page-more bytes part behind (full refl))
    ∙ ap (λ t. page bytes (t ++ behind)) up_to
    ∙ ap (page bytes) (sym (up_to-split id later (sorted-where (is_after after) table sorted)))

full-more : (bytes : ℕ) (live all : Table) (until : Option RecordId) → IsSome until → IsLastOfFull bytes live until → size_of live ≤ size_of all → bytes < size_of all
full-more bytes live all None some last le = cc
full-more bytes live all (Some id) some last le = omega (arith, last.0, le)

-- the last of full rows, as the code finds it
pub last-found : (bytes : ℕ) (rows : List Row) (result : Option (Bor RecordId))
    → MatchOption result (size_of (table_of rows) ≤ bytes) (λ id. (bytes < size_of (table_of rows)) × (before : List Row) × (last : Row) × (rows ≡ before ++ last ∷ []) × (id.now ≡ last.id))
    → IsLastOfFull bytes (table_of rows) (option_copied result)
last-found bytes rows None few = few
last-found bytes rows (Some id) full = (full.0, table_of full.1, (full.2.id, cell_of_row full.2), ap table_of full.3 ∙ table_of-append full.1 (full.2 ∷ []), full.4)

-- live rows that were taken are in order
pub live-sorted : (bytes at : ℕ) (after : Option RecordId) (table live : Table) → IsSortedTable table → live ≡ filled bytes [] (begun_at at (rows_after after table)) → IsSortedTable live
live-sorted bytes at after table live sorted is =
    let later = begun_at at (rows_after after table) in
    let all = filled-rest bytes [] later in
    subst IsSortedTable (sym is) (front-sorted (filled bytes [] later) all.0 (subst IsSortedTable all.1 (sorted-begun_at at (rows_after after table) (sorted-where (is_after after) table sorted))))

-- the page of live rows laid over those that ended is that of all
pub page-overlaid : (bytes : ℕ) (after until : Option RecordId) (begun ended live past : Table) → IsSortedTable begun → IsSortedTable ended → live ≡ filled bytes [] (rows_after after begun) → IsLastOfFull bytes live until
    → past ≡ where_key record_cmp (is_within after until) ended → page bytes (with_rows live past) ≡ page bytes (rows_after after (with_rows begun ended))
page-overlaid bytes after until begun ended live past sorted sorted' is last ends =
    let within = live-within bytes after until begun live sorted is last in
    page-within bytes after until (with_rows begun ended) (with_rows live past) (sorted-with_rows begun ended sorted')
    (ap₂ with_rows within ends ∙ where-with_rows (is_within after until) begun ended sorted sorted')
    (λ some. full-more bytes live (with_rows live past) until some last (size-put live past (subst IsSortedTable (sym within) (sorted-where (is_within after until) begun sorted)) (subst IsSortedTable (sym ends) (sorted-where (is_within after until) ended sorted'))))

-- and so is that of what a position shows
pub page-shown : (bytes at : ℕ) (after : Option RecordId) (until : Option RecordId) (table : Table) (past : Versions) (live : List Row) (ended page_rows all : Table) → IsSortedTable table
    → table_of live ≡ filled bytes [] (begun_at at (rows_after after table)) → IsLastOfFull bytes (table_of live) until → ended ≡ where_key record_cmp (is_within after until) (with_past at past [])
    → all ≡ with_rows (table_of live) ended → page_rows ≡ page bytes all → page_rows ≡ page bytes (rows_after after (shown at table past))
page-shown bytes at after until table past live ended page_rows all sorted is last ends over paged =
    paged ∙ ap (page bytes) over
    ∙ page-overlaid bytes after until (begun_at at table) (with_past at past []) (table_of live) ended (sorted-begun_at at table sorted) (sorted-with_past at past [] refl)
    (is ∙ ap (filled bytes []) (begun_at-where at (is_after after) table)) last ends
