-- The parts of a copy, one behind another, are all of it.
use Rattle.std.proofs.Common.{◌≡◌, ◌≢◌, ℕ, zero, suc, ◌-◌, ◌≤◌, inl, inr, Bool, true, false, cond, not, List, [], ◌∷◌, ◌++◌, length, Option, Some, None, IsTrue, nat_le, refl, sym, ap, ap₂, subst, ◌∙◌, append_assoc, arith}
use Rattle.std.proofs.lemmas.Bool.{and_parts}
use Rattle.std.specs.List.{AllByRecursion, flat_map}
use Rattle.std.specs.declared.cmp.Ordering.{Ordering}
use Rattle.std.specs.Ordering.{is_le, is_lt}
use Rattle.std.specs.FinMap.Entries.{below_all, is_sorted}
use Rattle.kv_types.specs.declared.record_id.RecordId.{RecordId}
use Rattle.kv_types.specs.Keyspace.{record_cmp}
use Rattle.kv_types.specs.Order.{record_cmp_total}
use Rattle.cmd_core.specs.Record.{is_up_to}
use Rattle.cmd_core.proofs.OrderedLemmas.{earlier-is_up_to}
use Rattle.mv_keyspace.specs.Paging.{front, page, put_size, rows_after, size_of}
use Rattle.mv_keyspace.specs.Table.{Cell, Table}
use Rattle.redis_core.specs.Copying.{ArePartsOf, CopyOf, IsWithin, after_part, last_of, next_part, rest_of}
use Rattle.mv_keyspace.proofs.TableMembers.{IsSortedTable}
use Rattle.mv_keyspace.proofs.PagingLemmas.{not_le, up_to-itself, below-front}
use Rattle.mv_keyspace.proofs.PageSizes.{size-front}

abbrev IsAbove : RecordId → Table → Type 0
IsAbove id table = IsTrue (below_all record_cmp id table)

-- ---- records in order

less_up_to : (o : Ordering) → is_lt o ≡ true → is_le o ≡ true
less_up_to o less = grind arith

sorted-head : (row : RecordId × Cell) (table : Table) → IsSortedTable (row ∷ table) → IsAbove row.0 table
sorted-head row table h = (and_parts (below_all record_cmp row.0 table) (is_sorted record_cmp table) h).0

sorted-tail : (row : RecordId × Cell) (table : Table) → IsSortedTable (row ∷ table) → IsSortedTable table
sorted-tail row table h = (and_parts (below_all record_cmp row.0 table) (is_sorted record_cmp table) h).1

above-head : (id : RecordId) (row : RecordId × Cell) (table : Table) → IsAbove id (row ∷ table) → is_lt (record_cmp id row.0) ≡ true
above-head id row table h = (and_parts (is_lt (record_cmp id row.0)) (below_all record_cmp id table) h).0

above-tail : (id : RecordId) (row : RecordId × Cell) (table : Table) → IsAbove id (row ∷ table) → IsAbove id table
above-tail id row table h = (and_parts (is_lt (record_cmp id row.0)) (below_all record_cmp id table) h).1

-- ---- the rows behind a record

pub all-rows : (table : Table) → rows_after None table ≡ table
all-rows [] = refl
all-rows (row ∷ table) = ap (λ (rows : Table). row ∷ rows) (all-rows table)

passed : (id : RecordId) (row : RecordId × Cell) (table : Table) → is_up_to id row.0 ≡ true → rows_after (Some id) (row ∷ table) ≡ rows_after (Some id) table
passed id row table up = ap (λ b. cond (not b) (row ∷ rows_after (Some id) table) (rows_after (Some id) table)) up

behind : (id : RecordId) (row : RecordId × Cell) (table : Table) → is_up_to id row.0 ≡ false → rows_after (Some id) (row ∷ table) ≡ row ∷ rows_after (Some id) table
behind id row table up = ap (λ b. cond (not b) (row ∷ rows_after (Some id) table) (rows_after (Some id) table)) up

-- all of a table that is above the record
all-behind : (id : RecordId) (table : Table) → IsAbove id table → rows_after (Some id) table ≡ table
all-behind id [] h = refl
all-behind id (row ∷ table) h =
    behind id row table (not_le (record_cmp row.0 id) (record_cmp id row.0) (record_cmp_total.antisymm row.0 id) (above-head id row table h))
    ∙ ap (λ (rows : Table). row ∷ rows) (all-behind id table (above-tail id row table h))

-- a record below rows is up to the last of them
last-above : (id before : RecordId) (rows : Table) (last : RecordId) → is_le (record_cmp id before) ≡ true → IsAbove id rows → last_of (Some before) rows ≡ Some last → is_up_to last id ≡ true
last-above id before [] last up h e = subst (λ (other : RecordId). is_le (record_cmp id other) ≡ true) (same before last e) up
  where
    same : (a b : RecordId) → Some a ≡ Some b → a ≡ b
    same a b e = cc
last-above id before (row ∷ rows) last up h e = last-above id row.0 rows last (less_up_to (record_cmp id row.0) (above-head id row rows h)) (above-tail id row rows h) e

-- behind the last of the first rows are the others
others-behind : (row : RecordId × Cell) (rows more : Table) (last : RecordId) → IsSortedTable (row ∷ (rows ++ more)) → last_of (Some row.0) rows ≡ Some last
    → rows_after (Some last) (row ∷ (rows ++ more)) ≡ more
others-behind row [] more last sorted e =
    passed last row more (last-above row.0 row.0 [] last (up_to-itself row.0) refl e)
    ∙ subst (λ (other : Option RecordId). rows_after other more ≡ more) e (all-behind row.0 more (sorted-head row more sorted))
others-behind row (next ∷ rows) more last sorted e =
    passed last row ((next ∷ rows) ++ more) (last-above row.0 row.0 (next ∷ rows) last (up_to-itself row.0) (below-front row.0 (next ∷ rows) more (sorted-head row ((next ∷ rows) ++ more) sorted)) e)
    ∙ others-behind next rows more last (sorted-tail row ((next ∷ rows) ++ more) sorted) e

pub behind-first : (rows more : Table) (last : RecordId) → IsSortedTable (rows ++ more) → last_of None rows ≡ Some last → rows_after (Some last) (rows ++ more) ≡ more
behind-first [] more last sorted e = cc
behind-first (row ∷ rows) more last sorted e = others-behind row rows more last sorted e

-- where a record of a table in order is behind another, those after it are
later-behind : (id : RecordId) (row : RecordId × Cell) (table : Table) → is_up_to id row.0 ≡ false → IsAbove row.0 table → rows_after (Some id) table ≡ table
later-behind id row [] up h = refl
later-behind id row (next ∷ table) up h =
    behind id next table (by (is_up_to id next.0) refl) ∙ ap (λ (rows : Table). next ∷ rows) (later-behind id row table up (above-tail row.0 next table h))
  where
    by : (b : Bool) → is_up_to id next.0 ≡ b → is_up_to id next.0 ≡ false
    by false e = e
    by true e = absurd (cc (up, earlier-is_up_to id row.0 next.0 (above-head row.0 next table h) e))

-- the rows behind a record are the end of the table
pub end-behind : (after : Option RecordId) (table : Table) → IsSortedTable table → (rows : Table) × (table ≡ rows ++ rows_after after table)
end-behind None table sorted = ([], sym (all-rows table))
end-behind (Some id) [] sorted = ([], refl)
end-behind (Some id) (row ∷ table) sorted = by (is_up_to id row.0) refl (end-behind (Some id) table (sorted-tail row table sorted))
  where
    by : (b : Bool) → is_up_to id row.0 ≡ b → (rows : Table) × (table ≡ rows ++ rows_after (Some id) table) → (rows : Table) × (row ∷ table ≡ rows ++ rows_after (Some id) (row ∷ table))
    by true e rest =
        (row ∷ rest.0, ap (λ (rows : Table). row ∷ rows) rest.1 ∙ ap (λ (rows : Table). row ∷ (rest.0 ++ rows)) (sym (passed id row table e)))
    by false e rest = ([], ap (λ (rows : Table). row ∷ rows) (sym (later-behind id row table e (sorted-head row table sorted))) ∙ sym (behind id row table e))

-- ---- a page is the first of the rows

front-first : (room : ℕ) (rows : Table) → (more : Table) × (rows ≡ front room rows ++ more)
front-first room [] = ([], refl)
front-first room (row ∷ rows) = by (nat_le (put_size row) room) refl (front-first (room - put_size row) rows)
  where
    by : (b : Bool) → nat_le (put_size row) room ≡ b → (more : Table) × (rows ≡ front (room - put_size row) rows ++ more) → (more : Table) × (row ∷ rows ≡ cond (nat_le (put_size row) room) (row ∷ front (room - put_size row) rows) [] ++ more)
    by true e rest = (rest.0, rw e (ap (λ (all : Table). row ∷ all) rest.1))
    by false e rest = (row ∷ rows, rw e refl)

pub page-first : (bytes : ℕ) (rows : Table) → (more : Table) × (rows ≡ page bytes rows ++ more)
page-first bytes [] = ([], refl)
page-first bytes (row ∷ rows) = by (nat_le (put_size row) bytes) refl
  where
    by : (b : Bool) → nat_le (put_size row) bytes ≡ b → (more : Table) × (row ∷ rows ≡ cond (nat_le (put_size row) bytes) (front bytes (row ∷ rows)) (row ∷ []) ++ more)
    by true e = let first = front-first bytes (row ∷ rows) in (first.0, first.1 ∙ ap (λ b. cond b (front bytes (row ∷ rows)) (row ∷ []) ++ first.0) (sym e))
    by false e = (rows, rw e refl)

-- it has a row where there is one
pub page-some : (bytes : ℕ) (row : RecordId × Cell) (rows : Table) → (more : Table) × (page bytes (row ∷ rows) ≡ row ∷ more)
page-some bytes row rows = by (nat_le (put_size row) bytes) refl
  where
    by : (b : Bool) → nat_le (put_size row) bytes ≡ b
        → (more : Table) × (cond (nat_le (put_size row) bytes) (cond (nat_le (put_size row) bytes) (row ∷ front (bytes - put_size row) rows) []) (row ∷ []) ≡ row ∷ more)
    by true e = (front (bytes - put_size row) rows, rw e refl)
    by false e = ([], rw e refl)

pub page-within : (bytes : ℕ) (rows : Table) → rows ≢ [] → IsWithin bytes (page bytes rows)
page-within bytes [] some = absurd (some refl)
page-within bytes (row ∷ rows) some = by (nat_le (put_size row) bytes) refl
  where
    by : (b : Bool) → nat_le (put_size row) bytes ≡ b → IsWithin bytes (cond (nat_le (put_size row) bytes) (front bytes (row ∷ rows)) (row ∷ []))
    by true e = inl (subst (λ b. size_of (cond b (front bytes (row ∷ rows)) (row ∷ [])) ≤ bytes) (sym e) (size-front bytes (row ∷ rows)))
    by false e = inr (ap (λ b. length (cond b (front bytes (row ∷ rows)) (row ∷ []))) e)

-- ---- one part

last-append : (before : Option RecordId) (rows more : Table) → last_of before (rows ++ more) ≡ last_of (last_of before rows) more
last-append before [] more = refl
last-append before (row ∷ rows) more = last-append (Some row.0) rows more

last-some : (before : RecordId) (rows : Table) → (last : RecordId) × (last_of (Some before) rows ≡ Some last)
last-some before [] = (before, refl)
last-some before (row ∷ rows) = last-some row.0 rows

-- what is still to be given is the next part and what is still to be given after it
pub rest-part : (bytes : ℕ) (copy : CopyOf) → IsSortedTable copy.rows → rest_of copy ≡ next_part bytes copy ++ rest_of (after_part bytes copy)
rest-part bytes copy sorted = by (rest_of copy) refl
  where
    by : (rest : Table) → rest_of copy ≡ rest → rest_of copy ≡ next_part bytes copy ++ rest_of (after_part bytes copy)
    by [] e =
        let none : next_part bytes copy ≡ [] = ap (page bytes) e in
        ap₂ (λ (part : Table) (after : Option RecordId). part ++ rows_after after copy.rows) (sym none) (ap (last_of copy.after) (sym none))
    by (row ∷ rows) e =
        let part = next_part bytes copy in
        let some = page-some bytes row rows in
        let part_is : part ≡ row ∷ some.0 = ap (page bytes) e ∙ some.1 in
        let last = last-some row.0 some.0 in
        let first = page-first bytes (rest_of copy) in
        let end = end-behind copy.after copy.rows sorted in
        let whole : copy.rows ≡ (end.0 ++ part) ++ first.0 = end.1 ∙ ap (λ (rest : Table). end.0 ++ rest) first.1 ∙ sym (append_assoc end.0 part first.0) in
        let last_is : last_of copy.after part ≡ Some last.0 = ap (last_of copy.after) part_is ∙ last.1 in
        let last_of_all : last_of None (end.0 ++ part) ≡ Some last.0 = last-append None end.0 part ∙ ap (last_of (last_of None end.0)) part_is ∙ last.1 in
        let others : rows_after (last_of copy.after part) copy.rows ≡ first.0 =
        ap₂ rows_after last_is whole ∙ behind-first (end.0 ++ part) first.0 last.0 (subst IsSortedTable whole sorted) last_of_all in
        first.1 ∙ ap (λ (more : Table). part ++ more) (sym others)

-- ---- all parts

pub parts-whole : (bytes : ℕ) (copy : CopyOf) (parts : List Table) → IsSortedTable copy.rows → ArePartsOf bytes copy parts → flat_map (λ part. part) parts ≡ rest_of copy
parts-whole bytes copy [] sorted are = sym are
parts-whole bytes copy (part ∷ parts) sorted are =
    ap₂ (λ (a b : Table). a ++ b) are.1 (parts-whole bytes (after_part bytes copy) parts sorted are.2) ∙ sym (rest-part bytes copy sorted)

pub parts-within : (bytes : ℕ) (copy : CopyOf) (parts : List Table) → ArePartsOf bytes copy parts → AllByRecursion (IsWithin bytes) parts
parts-within bytes copy [] are = tt
parts-within bytes copy (part ∷ parts) are =
    (subst (IsWithin bytes) (sym are.1) (page-within bytes (rest_of copy) are.0), parts-within bytes (after_part bytes copy) parts are.2)

pub parts-same : (bytes : ℕ) (copy : CopyOf) (parts others : List Table) → ArePartsOf bytes copy parts → ArePartsOf bytes copy others → parts ≡ others
parts-same bytes copy [] [] are are' = refl
parts-same bytes copy [] (other ∷ others) are are' = absurd (are'.0 are)
parts-same bytes copy (part ∷ parts) [] are are' = absurd (are.0 are')
parts-same bytes copy (part ∷ parts) (other ∷ others) are are' =
    ap₂ (λ (x : Table) (xs : List Table). x ∷ xs) (are.1 ∙ sym are'.1) (parts-same bytes (after_part bytes copy) parts others are.2 are'.2)

ends-within : (n bytes : ℕ) (copy : CopyOf) → IsSortedTable copy.rows → length (rest_of copy) ≤ n → (parts : List Table) × ArePartsOf bytes copy parts
ends-within zero bytes copy sorted short = by (rest_of copy) refl
  where
    by : (rest : Table) → rest_of copy ≡ rest → (parts : List Table) × ArePartsOf bytes copy parts
    by [] e = ([], e)
    by (row ∷ rows) e = absurd (omega (arith, ap (λ (rest : Table). length rest) e, short))
ends-within (suc n) bytes copy sorted short = by (rest_of copy) refl (ends-within n bytes (after_part bytes copy) sorted)
  where
    some : (row : RecordId × Cell) (rows : Table) → row ∷ rows ≡ [] → ⊥
    some row rows e = cc

    longer : (more rest : Table) → length rest ≤ length (more ++ rest)
    longer [] rest = omega arith
    longer (row ∷ more) rest = omega (arith, longer more rest)

    fewer : (part rest more : Table) (row : RecordId × Cell) → part ≡ row ∷ more → rest_of copy ≡ part ++ rest → length rest ≤ n
    fewer part rest more row is whole = omega (arith, short, ap (λ (all : Table). length all) (whole ∙ ap (λ (p : Table). p ++ rest) is), longer more rest)

    by : (rest : Table) → rest_of copy ≡ rest → (length (rest_of (after_part bytes copy)) ≤ n → (parts : List Table) × ArePartsOf bytes (after_part bytes copy) parts)
        → (parts : List Table) × ArePartsOf bytes copy parts
    by [] e others = ([], e)
    by (row ∷ rows) e others =
        let first = page-some bytes row rows in
        let next = others (fewer (next_part bytes copy) (rest_of (after_part bytes copy)) first.0 row (ap (page bytes) e ∙ first.1) (rest-part bytes copy sorted)) in
        (next_part bytes copy ∷ next.0, (λ none. some row rows (sym e ∙ none), refl, next.1))

pub parts-end : (bytes : ℕ) (copy : CopyOf) → IsSortedTable copy.rows → (parts : List Table) × ArePartsOf bytes copy parts
parts-end bytes copy sorted = ends-within (length (rest_of copy)) bytes copy sorted (omega arith)
