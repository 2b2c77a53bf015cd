-- What one change does to a table and to the entries of its records, and all changes one after another.
use Rattle.std.proofs.Common.{◌≡◌, ℕ, ◌⊎◌, ⊎_elim, inl, inr, true, false, cond, not, List, [], ◌∷◌, ◌++◌, Some, None, Contains, IsTrue, nat_eq, refl, sym, ap, subst, ◌∙◌, eq-eqb, arith}
use Rattle.std.proofs.lemmas.Bool.{cond-true, or_left, or_right, true_from_ne_false}
use Rattle.std.proofs.lemmas.List.{append-nil}
use Rattle.kv_types.specs.declared.record_id.RecordId.{RecordId}
use Rattle.kv_types.specs.declared.record_id.RecordId.TheVariants.{Str, Field}
use Rattle.kv_types.specs.declared.change.Change.{Change}
use Rattle.kv_types.specs.declared.change.Change.TheVariants as change
use Rattle.kv_types.specs.Keyspace.{IsKeyspace}
use Rattle.kv_types.proofs.OrderLemmas.{same_record, record_itself}
use Rattle.kv_types.proofs.LookUpLemmas.{is_same}
use Rattle.kv_types.proofs.PlayLemmas.{is_keyspace-play}
use Rattle.model.specs.declared.group.Put.{Put}
use Rattle.model.specs.declared.group.PlacedChange.{PlacedChange}
use Rattle.model.specs.declared.group.PlacedChange.TheVariants as placed
use Rattle.model.specs.Group.{change_of, put_of, ends_record, is_put_at}
use Rattle.model.proofs.VersionsLemmas.{ends_record-own}
use Rattle.mv_keyspace.specs.Table.{Cell, Table, records, cell_at, with_cell, entries_of, cell_of_put, placed_at, without_row, place, place_all, puts_of, AreFresh, IsLawful, AreNumbersEnded}
use Rattle.mv_keyspace.specs.Row.{ended_rows, spared_rows}
use Rattle.mv_keyspace.proofs.TableLemmas.{cell_at-where, cell_at-with_cell, cell_at-without_row, cell_at-without_rows, records-place}
use Rattle.mv_keyspace.proofs.TableMembers.{IsEntryOf, IsSortedTable, entry-from_found, found-from_entry, is_sorted-records, same_table, sorted-where, sorted-with_cell}
use Rattle.mv_keyspace.proofs.DistinctLemmas.{distinct-none, entries-distinct}
use Rattle.mv_keyspace.proofs.VersionTables.{cell_at-place, cell_at-placed_at}
use Rattle.model.proofs.GroupsLemmas.{is_put_at-append}

pub sorted-lawful : (table : Table) → IsLawful table → IsSortedTable table
sorted-lawful table lawful = sym (is_sorted-records table) ∙ lawful.keyspace.sorted

-- ---- what is found among the rows that a change ends, and among those that it leaves

pub cell_at-ended : (c : Change) (table : Table) (q : RecordId) → cell_at (ended_rows c table) q ≡ cond (ends_record c q) (cell_at table q) None
cell_at-ended c table q = cell_at-where (ends_record c) table q

pub cell_at-spared : (c : Change) (table : Table) (q : RecordId) → cell_at (spared_rows c table) q ≡ cond (ends_record c q) None (cell_at table q)
cell_at-spared c table q = grind (arith, cell_at-where (λ x. not (ends_record c x)) table q)

-- ---- the table after a change, by what it ends

pub place-made : (position : ℕ) (put : Put) (table : Table) → IsSortedTable table → with_cell put.id (cell_of_put position put) (spared_rows (change_of (placed.Put put)) table) ≡ place position table (placed.Put put)
place-made position put table h = place_put put.id (cell_of_put position put)
  where
    place_put : (id : RecordId) (cell : Cell) → with_cell id cell (spared_rows (change.Put id put.value) table) ≡ placed_at id cell table
    place_put (Str key) cell = refl
    place_put (Field key field) cell =
        let id = Field key field in
        let c = change.Put id put.value in
        same_table (with_cell id cell (spared_rows c table)) (placed_at id cell table)
        (sorted-with_cell id cell (spared_rows c table) (sorted-where (λ x. not (ends_record c x)) table h)) (sorted-with_cell id cell (without_row (Str key) table) (sorted-where (λ x. not (is_same x (Str key))) table h))
        (λ q. cell_at-with_cell (spared_rows c table) id cell q ∙ ap (cond (is_same q id) (Some cell)) (cell_at-spared c table q) ∙ sym (cell_at-placed_at table id cell put.value q))

pub none_spared : (table : Table) → spared_rows change.Clear table ≡ []
none_spared [] = refl
none_spared (row ∷ table) = none_spared table

pub place-spared : (position : ℕ) (c : PlacedChange) (table : Table) → put_of c ≡ [] → spared_rows (change_of c) table ≡ place position table c
place-spared position (placed.Put put) table e = cc
place-spared position (placed.Drop id) table e = refl
place-spared position (placed.DropKey key) table e = refl
place-spared position placed.Clear table e = none_spared table

-- ---- fresh puts

pub fresh_not : (table : Table) (puts : List Put) (i : ℕ) → AreFresh table puts → Contains (entries_of table) i → IsTrue (is_put_at i puts) → ⊥
fresh_not table [] i fresh m t = cc
fresh_not table (put ∷ puts) i fresh m t = grind (arith, fresh_not table puts i fresh.2 m)

pub fresh-first : (table : Table) (puts more : List Put) → AreFresh table (puts ++ more) → AreFresh table puts
fresh-first table [] more fresh = tt
fresh-first table (put ∷ puts) more fresh = grind (arith, is_put_at-append put.entry.0 puts more, fresh-first table puts more)

fresh-rest : (table : Table) (puts more : List Put) → AreFresh table (puts ++ more) → AreFresh table more
fresh-rest table [] more fresh = fresh
fresh-rest table (put ∷ puts) more fresh = fresh-rest table puts more fresh.2

-- no entry is put twice
pub put_once : (table : Table) (puts more : List Put) (i : ℕ) → AreFresh table (puts ++ more) → IsTrue (is_put_at i puts) → IsTrue (is_put_at i more) → ⊥
put_once table [] more i fresh t t' = cc
put_once table (put ∷ puts) more i fresh t t' = grind (arith, is_put_at-append put.entry.0 puts more, put_once table puts more i fresh.2)

fresh_moves : (table after : Table) (puts : List Put) → ((i : ℕ) → Contains (entries_of after) i → IsTrue (is_put_at i puts) → Contains (entries_of table) i) → AreFresh table puts → AreFresh after puts
fresh_moves table after [] was fresh = tt
fresh_moves table after (put ∷ puts) was fresh = (
  λ m. fresh.0 (was put.entry.0 m (or_left (nat_eq put.entry.0 put.entry.0) (is_put_at put.entry.0 puts) (eq-eqb put.entry.0 put.entry.0 refl))),
  fresh.1,
  fresh_moves table after puts (λ i m t. was i m (or_right (nat_eq i put.entry.0) (is_put_at i puts) t)) fresh.2,
)

-- ---- rows before a change and after it

-- the change makes this row
abbrev pub Makes : ℕ → PlacedChange → RecordId → Cell → Type 0
Makes position c id cell = (put : Put) × (put_of c ≡ put ∷ []) × (id ≡ put.id) × (cell ≡ cell_of_put position put)

-- a record that is there after a change was made by it, or was there before and was spared
pub stands : (position : ℕ) (c : PlacedChange) (table : Table) (id : RecordId) (cell : Cell) → cell_at (place position table c) id ≡ Some cell
    → Makes position c id cell ⊎ ((ends_record (change_of c) id ≡ false) × (cell_at table id ≡ Some cell))
stands position (placed.Put put) table id cell e =
    let found : cond (is_same id put.id) (Some (cell_of_put position put)) (cond (ends_record (change.Put put.id put.value) id) None (cell_at table id)) ≡ Some cell = sym (cell_at-place position table (placed.Put put) id) ∙ e in
    let one : ((id ≡ put.id) × (cell ≡ cell_of_put position put)) ⊎ ((ends_record (change.Put put.id put.value) id ≡ false) × (cell_at table id ≡ Some cell)) = grind (arith, same_record id put.id) in
    ⊎_elim (λ (h : (id ≡ put.id) × (cell ≡ cell_of_put position put)). inl (put, refl, h.0, h.1)) (λ (h : (ends_record (change.Put put.id put.value) id ≡ false) × (cell_at table id ≡ Some cell)). inr h) one
stands position (placed.Drop other) table id cell e = inr (grind (arith, cell_at-without_row table other id))
stands position (placed.DropKey key) table id cell e = inr (grind (arith, cell_at-without_rows table key id))
stands position placed.Clear table id cell e = cc

-- a record that a change does not end is found after it as before
pub same_spared : (position : ℕ) (c : PlacedChange) (table : Table) (id : RecordId) → ends_record (change_of c) id ≡ false → cell_at (place position table c) id ≡ cell_at table id
same_spared position (placed.Put put) table id is_spared = grind (arith, cell_at-place position table (placed.Put put) id, same_record id put.id, ends_record-own put.id put.value)
same_spared position (placed.Drop other) table id is_spared = grind (arith, cell_at-without_row table other id)
same_spared position (placed.DropKey key) table id is_spared = grind (arith, cell_at-without_rows table key id)
same_spared position placed.Clear table id is_spared = cc

found_spared : (position : ℕ) (c : PlacedChange) (table : Table) (id : RecordId) (cell : Cell) → ends_record (change_of c) id ≡ false → cell_at table id ≡ Some cell → cell_at (place position table c) id ≡ Some cell
found_spared position c table id cell is_spared found = same_spared position c table id is_spared ∙ found

-- the entry of the put has its row after the change
made-stands : (position : ℕ) (c : PlacedChange) (table : Table) (i : ℕ) → IsTrue (is_put_at i (put_of c)) → Contains (entries_of (place position table c)) i
made-stands position (placed.Put put) table i t =
    let at : i ≡ put.entry.0 = grind arith in
    let found : cell_at (place position table (placed.Put put)) put.id ≡ Some (cell_of_put position put) = grind (arith, cell_at-place position table (placed.Put put) put.id, record_itself put.id) in
    subst (λ k. Contains (entries_of (place position table (placed.Put put))) k) (sym at) (entry-from_found (place position table (placed.Put put)) put.id (cell_of_put position put) found)
made-stands position (placed.Drop id) table i t = cc
made-stands position (placed.DropKey key) table i t = cc
made-stands position placed.Clear table i t = cc

-- a row that the change ends
record EndedRow (c : PlacedChange) (table : Table) (i : ℕ) : Type 0 where
  id : RecordId
  cell : Cell
  is_ended : ends_record (change_of c) id ≡ true
  found : cell_at table id ≡ Some cell
  at : cell.entry ≡ i

ended_found : (c : PlacedChange) (table : Table) (id : RecordId) (cell : Cell) → cell_at (ended_rows (change_of c) table) id ≡ Some cell → (ends_record (change_of c) id ≡ true) × (cell_at table id ≡ Some cell)
ended_found c table id cell e = grind (arith, cell_at-ended (change_of c) table id)

ended_row : (c : PlacedChange) (table : Table) (i : ℕ) → IsSortedTable table → Contains (entries_of (ended_rows (change_of c) table)) i → EndedRow c table i
ended_row c table i sorted m =
    let of = found-from_entry (ended_rows (change_of c) table) i (sorted-where (ends_record (change_of c)) table sorted) m in
    let parts = ended_found c table of.id of.cell of.found in
    record { id = of.id; cell = of.cell; is_ended = parts.0; found = parts.1; at = of.entry }

-- ---- a change keeps a table lawful and later puts fresh, and ends the rows that it ends

module _ (position : ℕ) (c : PlacedChange) (changes : List PlacedChange) (table : Table) (lawful : IsLawful table) (fresh : AreFresh table (puts_of (c ∷ changes))) where
  own_fresh : (i : ℕ) → Contains (entries_of table) i → IsTrue (is_put_at i (put_of c)) → ⊥
  own_fresh i m t = fresh_not table (put_of c) i (fresh-first table (put_of c) (puts_of changes) fresh) m t

  once : (id other : RecordId) (cell cell' : Cell) → cell_at (place position table c) id ≡ Some cell → cell_at (place position table c) other ≡ Some cell' → cell.entry ≡ cell'.entry → id ≡ other
  once id other cell cell' e e' same =
      grind (arith, stands position c table id cell e, stands position c table other cell' e', entry-from_found table id cell, entry-from_found table other cell', own_fresh cell.entry, lawful.once id other cell cell')

  pub lawful-place : IsLawful (place position table c)
  lawful-place = record { keyspace = subst IsKeyspace (sym (records-place position table c)) (is_keyspace-play (records table) (change_of c) lawful.keyspace); once = once }

  -- the row of an entry after the change
  of_entry : (i : ℕ) → Contains (entries_of (place position table c)) i → IsEntryOf (place position table c) i
  of_entry i m = found-from_entry (place position table c) i (sorted-lawful (place position table c) lawful-place) m

  was : (i : ℕ) → Contains (entries_of (place position table c)) i → Contains (entries_of table) i ⊎ IsTrue (is_put_at i (put_of c))
  was i m = let of = of_entry i m in grind (arith, stands position c table of.id of.cell of.found, entry-from_found table of.id of.cell)

  pub fresh-place : AreFresh (place position table c) (puts_of changes)
  fresh-place =
      fresh_moves table (place position table c) (puts_of changes)
      (λ i m t. ⊎_elim (λ (h : Contains (entries_of table) i). h) (λ (own : IsTrue (is_put_at i (put_of c))). absurd (put_once table (put_of c) (puts_of changes) i fresh own t)) (was i m))
      (fresh-rest table (put_of c) (puts_of changes) fresh)

  -- the entry of a row that the change ends is in no row after it
  gone : (i : ℕ) → EndedRow c table i → ¬ Contains (entries_of (place position table c)) i
  gone i row m =
      let of = of_entry i m in
      grind (arith, stands position c table of.id of.cell of.found, entry-from_found table row.id row.cell row.found, own_fresh row.cell.entry, lawful.once row.id of.id row.cell of.cell row.found)

  -- the entries of the rows that the change ends are distinct, and those that it ended
  pub ended-one : AreNumbersEnded position table (c ∷ []) (entries_of (ended_rows (change_of c) table))
  ended-one = record {
    once =
        entries-distinct (ended_rows (change_of c) table) (sorted-where (ends_record (change_of c)) table (sorted-lawful table lawful))
        (λ id other cell cell' e e' same. lawful.once id other cell cell' (ended_found c table id cell e).1 (ended_found c table other cell' e').1 same);
    these = λ i. (
      λ m. let row = ended_row c table i (sorted-lawful table lawful) m in (inl (subst (λ k. Contains (entries_of table) k) row.at (entry-from_found table row.id row.cell row.found)), gone i row),
      named i,
    );
  }
    where
      named : (i : ℕ) → (Contains (entries_of table) i ⊎ IsTrue (is_put_at i (puts_of (c ∷ [])))) × (¬ Contains (entries_of (place position table c)) i) → Contains (entries_of (ended_rows (change_of c) table)) i
      named i (inl m, left) =
          let of = found-from_entry table i (sorted-lawful table lawful) m in
          subst (λ k. Contains (entries_of (ended_rows (change_of c) table)) k) of.entry
          (entry-from_found (ended_rows (change_of c) table) of.id of.cell
          (cell_at-ended (change_of c) table of.id ∙ cond-true (ends_record (change_of c) of.id) (cell_at table of.id) None (true_from_ne_false (ends_record (change_of c) of.id) (λ is_spared.
          left (subst (λ k. Contains (entries_of (place position table c)) k) of.entry (entry-from_found (place position table c) of.id of.cell (found_spared position c table of.id of.cell is_spared of.found))))) ∙ of.found))
      named i (inr t, left) = absurd (left (made-stands position c table i (subst (λ puts. IsTrue (is_put_at i puts)) (append-nil (put_of c)) t)))

-- ---- the entries after all changes

pub made_before : (position : ℕ) (table : Table) (changes : List PlacedChange) (i : ℕ) → IsLawful table → AreFresh table (puts_of changes) → Contains (entries_of (place_all position table changes)) i
    → Contains (entries_of table) i ⊎ IsTrue (is_put_at i (puts_of changes))
made_before position table [] i lawful fresh m = inl m
made_before position table (c ∷ changes) i lawful fresh m =
    let before = made_before position (place position table c) changes i (lawful-place position c changes table lawful fresh) (fresh-place position c changes table lawful fresh) m in
    grind (arith, before, was position c changes table lawful fresh i, is_put_at-append i (put_of c) (puts_of changes))

pub none-ended : (position : ℕ) (table : Table) → AreNumbersEnded position table [] []
none-ended position table = record {
  once = distinct-none;
  these = λ i. (λ m. absurd (omega (arith, m.1)), λ h. absurd (⊎_elim (λ (m : Contains (entries_of table) i). h.1 m) (λ (t : IsTrue false). cc) h.0));
}
