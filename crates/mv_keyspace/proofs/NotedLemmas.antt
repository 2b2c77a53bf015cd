-- The rows that changes end, gathered from change to change, and what is found among the rows of all slots.
use Rattle.std.proofs.Common.{◌≡◌, ℕ, ◌≤◌, Bool, true, false, ◌||◌, cond, List, [], ◌∷◌, ◌++◌, length, Option, Some, None, IsTrue, refl, sym, ap, ap₂, subst, ◌∙◌, drop, drop_of_length-le, arith}
use Rattle.std.proofs.lemmas.Bool.{and_parts, and_from}
use Rattle.std.specs.FinMap.Entries.{where_key, is_sorted, below_all}
use Rattle.std.specs.Map.{keys_of}
use Rattle.std.proofs.lemmas.Map.Keys.{sorted_head}
use Rattle.std.specs.declared.cmp.Ordering.{Ordering}
use Rattle.std.specs.declared.cmp.Ordering.TheVariants.{Less, Equal, Greater}
use Rattle.kv_types.specs.declared.record_id.RecordId.{RecordId}
use Rattle.kv_types.specs.Keyspace.{bytes_cmp, key_of, record_cmp}
use Rattle.kv_types.proofs.OrderLemmas.{same_record}
use Rattle.kv_types.proofs.LookUpLemmas.{is_same}
use Rattle.model.specs.declared.group.PlacedChange.{PlacedChange}
use Rattle.model.specs.Group.{change_of, ends_record}
use Rattle.mv_keyspace.specs.declared.row.Row.{Row}
use Rattle.mv_keyspace.specs.declared.slot.Slot.{Slot}
use Rattle.mv_keyspace.specs.Row.{ended_rows, records_of, records_of_table, table_of}
use Rattle.mv_keyspace.specs.Slot.{rows_of}
use Rattle.mv_keyspace.specs.Slots.{Slots, AreOfKey, AreSlots, rows_at, rows_in, rows_of_slot, slot_at}
use Rattle.mv_keyspace.specs.Table.{Cell, Table, cell_at, with_cell}
use Rattle.mv_keyspace.specs.Versions.{ends_some, rows_ended, with_rows}
use Rattle.mv_keyspace.proofs.TableLemmas.{cell_at-where, cell_at-with_cell}
use Rattle.mv_keyspace.proofs.TableMembers.{IsSortedTable, is_sorted-records, missed-below, same_table, sorted-where, sorted-with_cell}
use Rattle.mv_keyspace.proofs.PlacingLemmas.{not_tied_greater, not_tied_less}
use Rattle.mv_keyspace.proofs.PuttingLemmas.{where_none}
use Rattle.mv_keyspace.proofs.ReadingLemmas.{other_record}
use Rattle.mv_keyspace.proofs.StringLemmas.{slot-ordered}
use Rattle.mv_keyspace.proofs.SlotLemmas.{AllStand, around, later-stand, slots-tail, table_of-append}

-- ---- rows put into a table

abbrev pub or_else : Option Cell → Option Cell → Option Cell
or_else (Some cell) other = Some cell
or_else None other = other

pub cell_at-with_rows : (rows table : Table) (q : RecordId) → IsSortedTable rows → cell_at (with_rows rows table) q ≡ or_else (cell_at rows q) (cell_at table q)
cell_at-with_rows [] table q sorted = refl
cell_at-with_rows (row ∷ rows) table q sorted =
    let parts = and_parts (below_all record_cmp row.0 rows) (is_sorted record_cmp rows) sorted in
    grind (arith, cell_at-with_rows rows (with_cell row.0 row.1 table) q parts.1, cell_at-with_cell table row.0 row.1 q, same_record q row.0, missed-below row.0 rows parts.0)

pub sorted-with_rows : (rows table : Table) → IsSortedTable table → IsSortedTable (with_rows rows table)
sorted-with_rows [] table sorted = sorted
sorted-with_rows (row ∷ rows) table sorted = sorted-with_rows rows _ (sorted-with_cell row.0 row.1 table sorted)

-- ---- rows by two tests

where-both : (p q : RecordId → Bool) (table : Table) → IsSortedTable table → with_rows (where_key record_cmp p table) (where_key record_cmp q table) ≡ where_key record_cmp (λ id. q id || p id) table
where-both p q table sorted =
    same_table _ _ (sorted-with_rows (where_key record_cmp p table) _ (sorted-where q table sorted)) (sorted-where (λ id. q id || p id) table sorted)
    (λ id. cell_at-with_rows (where_key record_cmp p table) (where_key record_cmp q table) id (sorted-where p table sorted)
    ∙ ap₂ or_else (cell_at-where p table id) (cell_at-where q table id)
    ∙ either (p id) (q id) (cell_at table id)
    ∙ sym (cell_at-where (λ other. q other || p other) table id))
  where
    either : (a b : Bool) (cell : Option Cell) → or_else (cond a cell None) (cond b cell None) ≡ cond (b || a) cell None
    either true true None = refl
    either true true (Some cell) = refl
    either true false None = refl
    either true false (Some cell) = refl
    either false true cell = refl
    either false false cell = refl

pub where-same : (p q : RecordId → Bool) (table : Table) → ((id : RecordId) → p id ≡ q id) → where_key record_cmp p table ≡ where_key record_cmp q table
where-same p q [] same = refl
where-same p q (row ∷ table) same = grind (arith, same row.0, where-same p q table same)

-- ---- the rows that changes end, change by change

abbrev pub gather : List PlacedChange → Table → Table → Table
gather [] table gathered = gathered
gather (change ∷ changes) table gathered = gather changes table (with_rows (ended_rows (change_of change) table) gathered)

gather-where : (changes : List PlacedChange) (q : RecordId → Bool) (table : Table) → IsSortedTable table → gather changes table (where_key record_cmp q table) ≡ where_key record_cmp (λ id. q id || ends_some changes id) table
gather-where [] q table sorted = where-same q (λ id. q id || false) table (λ id. or_none (q id))
  where
    or_none : (b : Bool) → b ≡ (b || false)
    or_none true = refl
    or_none false = refl
gather-where (change ∷ changes) q table sorted =
    ap (gather changes table) (where-both (ends_record (change_of change)) q table sorted)
    ∙ gather-where changes (λ id. q id || ends_record (change_of change) id) table sorted
    ∙ where-same _ _ table (λ id. regroup (q id) (ends_record (change_of change) id) (ends_some changes id))
  where
    regroup : (a b c : Bool) → ((a || b) || c) ≡ (a || (b || c))
    regroup true b c = refl
    regroup false b c = refl

pub gathered : (changes : List PlacedChange) (table : Table) → IsSortedTable table → gather changes table [] ≡ rows_ended changes table
gathered changes table sorted = ap (gather changes table) (sym (where_none table)) ∙ gather-where changes (λ id. false) table sorted

-- once all changes were gone over
pub gathered-all : (n : ℕ) (changes : List PlacedChange) (table now : Table) → IsSortedTable table → length changes ≤ n → gather (drop n changes) table now ≡ gather changes table [] → now ≡ rows_ended changes table
gathered-all n changes table now sorted past is = ap (λ rest. gather rest table now) (sym (drop_of_length-le changes past)) ∙ is ∙ gathered changes table sorted

-- ---- rows in order

pub rows-ordered : (rows : List Row) → IsTrue (is_sorted record_cmp (records_of rows)) → IsSortedTable (table_of rows)
rows-ordered rows sorted = sym (is_sorted-records (table_of rows)) ∙ ap (is_sorted record_cmp) (sym (records_of_table rows)) ∙ sorted

below-keys : (id : RecordId) (rows : Table) → AllStand Less (key_of id) rows → IsTrue (below_all record_cmp id rows)
below-keys id [] all = refl
below-keys id (row ∷ rows) all = grind (arith, all.0, below-keys id rows all.1)

below-append : (id : RecordId) (rows more : Table) → IsTrue (below_all record_cmp id rows) → IsTrue (below_all record_cmp id more) → IsTrue (below_all record_cmp id (rows ++ more))
below-append id [] more below later = later
below-append id (row ∷ rows) more below later = grind (arith, below-append id rows more)

-- rows of a key, and behind them rows of greater keys
append-ordered : (key : List ℕ) (rows more : Table) → AreOfKey key rows → IsSortedTable rows → AllStand Less key more → IsSortedTable more → IsSortedTable (rows ++ more)
append-ordered key [] more of sorted less later = later
append-ordered key (row ∷ rows) more of sorted less later =
    let parts = and_parts (below_all record_cmp row.0 rows) (is_sorted record_cmp rows) sorted in
    and_from _ _ (below-append row.0 rows more parts.0 (below-keys row.0 more (subst (λ k. AllStand Less k more) (sym of.0) less))) (append-ordered key rows more of.1 parts.1 less later)

pub slots-ordered : (es : Slots) → AreSlots es → IsSortedTable (table_of (rows_in es))
slots-ordered [] slots = refl
slots-ordered (e ∷ es) slots =
    subst IsSortedTable (sym (table_of-append (rows_of e.0 e.1) (rows_in es)))
    (append-ordered e.0 (table_of (rows_of e.0 e.1)) (table_of (rows_in es)) slots.own.0 (rows-ordered (rows_of e.0 e.1) (slot-ordered e.0 e.1))
    (later-stand e.0 es (sorted_head bytes_cmp e.0 (keys_of es) slots.sorted) slots.own.1) (slots-ordered es (slots-tail e es slots)))

-- ---- what is found among the rows of all slots

cell-skip : (order : Ordering) → (order ≡ Equal → ⊥) → (id : RecordId) (rows others : Table) → AllStand order (key_of id) rows → cell_at (rows ++ others) id ≡ cell_at others id
cell-skip order apart id [] others all = refl
cell-skip order apart id (row ∷ rows) others all = ap (λ b. cond b (Some row.1) (cell_at (rows ++ others) id)) (other_record order apart id row.0 all.0) ∙ cell-skip order apart id rows others all.1

cell-none : (id : RecordId) (rows : Table) → AllStand Less (key_of id) rows → cell_at rows id ≡ None
cell-none id [] all = refl
cell-none id (row ∷ rows) all = ap (λ b. cond b (Some row.1) (cell_at rows id)) (other_record Less not_tied_less id row.0 all.0) ∙ cell-none id rows all.1

cell-stop : (id : RecordId) (rows others : Table) → AllStand Less (key_of id) others → cell_at (rows ++ others) id ≡ cell_at rows id
cell-stop id [] others all = cell-none id others all
cell-stop id (row ∷ rows) others all = ap (λ cell. cond (is_same id row.0) (Some row.1) cell) (cell-stop id rows others all)

pub cell_at_own : (id : RecordId) (es : Slots) → AreSlots es → cell_at (table_of (rows_in es)) id ≡ cell_at (table_of (rows_at (key_of id) es)) id
cell_at_own id es slots =
    let a = around (key_of id) es slots in
    ap (λ rows. cell_at (table_of rows) id) a.rows
    ∙ ap (λ t. cell_at t id) (table_of-append a.before (rows_at (key_of id) es ++ a.after) ∙ ap (λ t. table_of a.before ++ t) (table_of-append (rows_at (key_of id) es) a.after))
    ∙ cell-skip Greater not_tied_greater id (table_of a.before) (table_of (rows_at (key_of id) es) ++ table_of a.after) a.lower
    ∙ cell-stop id (table_of (rows_at (key_of id) es)) (table_of a.after) a.upper

pub cell-found : (id : RecordId) (es : Slots) → AreSlots es → (slot : Slot) → slot_at (key_of id) es ≡ Some slot → cell_at (table_of (rows_of (key_of id) slot)) id ≡ cell_at (table_of (rows_in es)) id
cell-found id es slots slot found = sym (cell_at_own id es slots ∙ ap (λ s. cell_at (table_of (rows_of_slot (key_of id) s)) id) found)

pub cell-missing : (id : RecordId) (es : Slots) → AreSlots es → slot_at (key_of id) es ≡ None → cell_at (table_of (rows_in es)) id ≡ None
cell-missing id es slots missing = cell_at_own id es slots ∙ ap (λ s. cell_at (table_of (rows_of_slot (key_of id) s)) id) missing
