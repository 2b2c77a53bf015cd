-- The table of the live versions moves as the versions do.
use Rattle.std.proofs.Common.{◌≡◌, ℕ, Bool, true, false, cond, ◌||◌, List, [], ◌∷◌, Option, Some, None, nat_eq, refl, sym, ap, subst, ◌∙◌, eq-eqb, ne_eqb}
use Rattle.std.specs.List.{AllByRecursion}
use Rattle.kv_types.specs.declared.record_id.RecordId.{RecordId}
use Rattle.kv_types.specs.declared.record_id.RecordId.TheVariants.{Str, Field}
use Rattle.kv_types.specs.declared.change.Change.{Change}
use Rattle.kv_types.specs.declared.change.Change.TheVariants as change
use Rattle.kv_types.specs.Keyspace.{IsKeyspace}
use Rattle.kv_types.proofs.LookUpLemmas.{is_same, is_same_at, is_other}
use Rattle.kv_types.proofs.OrderLemmas.{same_record}
use Rattle.kv_types.proofs.PlayLemmas.{is_keyspace-play}
use Rattle.model.specs.declared.group.Put.{Put}
use Rattle.model.specs.declared.group.PlacedChange.{PlacedChange}
use Rattle.model.specs.declared.group.PlacedChange.TheVariants as placed
use Rattle.model.specs.Image.{IsLive, Version}
use Rattle.model.specs.Group.{Versions, change_of, put_of, ends_record, ended_by, ended_where_begun, version_of_put, change_versions}
use Rattle.model.proofs.MapLemmas.{not_live}
use Rattle.model.proofs.VersionsLemmas.{ends_record-own, live_after, live_before, with_put, LiveWithPut, live_with_put, live_put, live_beside, still_empty}
use Rattle.model.proofs.VersionsLemmas as live
use Rattle.mv_keyspace.specs.Table.{Cell, Table, records, cell_at, without_row, without_rows, cell_of_put, placed_at, place, IsCellOf, IsTable}
use Rattle.mv_keyspace.proofs.TableLemmas.{cell_at-with_cell, cell_at-without_row, cell_at-without_rows, records-place}

-- ---- what a change leaves to be found

-- a change takes out the rows that it ends
abbrev pub without_ended : Change → (RecordId → Option Cell) → RecordId → Option Cell
without_ended c found_at id = cond (ends_record c id) None (found_at id)

cond_or : (a b : Bool) (x y : Option Cell) → cond a x (cond b None y) ≡ cond a x (cond (a || b) None y)
cond_or true b x y = refl
cond_or false b x y = refl

pub cell_at-placed_at : (table : Table) (id : RecordId) (cell : Cell) (value : List ℕ) (q : RecordId)
    → cell_at (placed_at id cell table) q ≡ cond (is_same q id) (Some cell) (without_ended (change.Put id value) (cell_at table) q)
cell_at-placed_at table (Str key) cell value q =
    cell_at-with_cell (without_rows key table) (Str key) cell q ∙ ap (cond (is_same q (Str key)) (Some cell)) (cell_at-without_rows table key q)
cell_at-placed_at table (Field key field) cell value q =
    cell_at-with_cell (without_row (Str key) table) (Field key field) cell q
    ∙ ap (cond (is_same q (Field key field)) (Some cell)) (cell_at-without_row table (Str key) q)
    ∙ cond_or (is_same q (Field key field)) (is_same q (Str key)) (Some cell) (cell_at table q)

-- what is found once the puts of a change were made
abbrev pub made_at : ℕ → List Put → RecordId → Option Cell → Option Cell
made_at position [] q found = found
made_at position (put ∷ puts) q found = cond (is_same q put.id) (Some (cell_of_put position put)) found

-- what is found after a change, where `found_at` is what was found before it
abbrev pub found_after : ℕ → PlacedChange → (RecordId → Option Cell) → RecordId → Option Cell
found_after position c found_at q = made_at position (put_of c) q (without_ended (change_of c) found_at q)

pub cell_at-place : (position : ℕ) (table : Table) (c : PlacedChange) (q : RecordId) → cell_at (place position table c) q ≡ found_after position c (cell_at table) q
cell_at-place position table (placed.Put put) q = cell_at-placed_at table put.id (cell_of_put position put) put.value q
cell_at-place position table (placed.Drop id) q = cell_at-without_row table id q
cell_at-place position table (placed.DropKey key) q = cell_at-without_rows table key q
cell_at-place position table placed.Clear q = refl

-- ---- cells and versions

-- an entry has at most one version, so the position of any will do
cell-of : (versions : Versions) (id : RecordId) (cell : Cell) → IsLive versions cell.entry id cell.value → (version : Version) → versions cell.entry ≡ Some version → cell.position ≡ version.position → IsCellOf versions id cell
cell-of versions id cell live version begun at =
    let both : Some version ≡ Some live.version = sym begun ∙ live.begun in
    let same : version ≡ live.version = cc in
    record { live = live; position_is = at ∙ ap (λ (v : Version). v.position) same }

-- the cell of a live version
pub cell-of_live : (versions : Versions) (i : ℕ) (id : RecordId) (value : List ℕ) (live : IsLive versions i id value) → IsCellOf versions id (record { value = value; entry = i; position = live.version.position })
cell-of_live versions i id value live = record { live = live; position_is = refl }

version_before : (entry : Option Version) (c : Change) (after : Version) → ended_where_begun c entry ≡ Some after → (version : Version) × (entry ≡ Some version) × (version.position ≡ after.position)
version_before None c after e = cc
version_before (Some version) c after e = let same : ended_by c version ≡ after = cc in (version, refl, ap (λ (v : Version). v.position) same)

-- the cell of a record that the change does not end stays its cell
cell-after : (versions : Versions) (c : Change) (id : RecordId) (cell : Cell) → ends_record c id ≡ false → IsCellOf versions id cell → IsCellOf (λ j. ended_where_begun c (versions j)) id cell
cell-after versions c id cell spared is =
    cell-of (λ j. ended_where_begun c (versions j)) id cell (live_after versions c cell.entry id cell.value spared is.live)
    (ended_by c is.live.version) (ap (ended_where_begun c) is.live.begun) is.position_is

-- a record's cell after the change was its cell before it, and the change does not end the record
cell-before : (versions : Versions) (c : Change) (id : RecordId) (cell : Cell) → IsCellOf (λ j. ended_where_begun c (versions j)) id cell → IsCellOf versions id cell × (ends_record c id ≡ false)
cell-before versions c id cell is =
    let before = live_before versions c cell.entry id cell.value is.live in
    let old = version_before (versions cell.entry) c is.live.version is.live.begun in
    (cell-of versions id cell before.0 old.0 old.1 (is.position_is ∙ sym old.2), before.1)

with_put-own : (position : ℕ) (put : Put) (versions : Versions) → with_put position put versions put.entry.0 ≡ Some (version_of_put position put)
with_put-own position put versions = ap (λ b. cond b (Some (version_of_put position put)) (versions put.entry.0)) (eq-eqb put.entry.0 put.entry.0 refl)

with_put-other : (position : ℕ) (put : Put) (versions : Versions) (i : ℕ) → nat_eq i put.entry.0 ≡ false → with_put position put versions i ≡ versions i
with_put-other position put versions i apart = ap (λ b. cond b (Some (version_of_put position put)) (versions i)) apart

cell-made : (position : ℕ) (versions : Versions) (put : Put) → IsCellOf (with_put position put versions) put.id (cell_of_put position put)
cell-made position versions put =
    cell-of (with_put position put versions) put.id (cell_of_put position put) (live_put position versions put) (version_of_put position put) (with_put-own position put versions) refl

cell-beside : (position : ℕ) (versions : Versions) (put : Put) (id : RecordId) (cell : Cell) → versions put.entry.0 ≡ None → IsCellOf versions id cell → IsCellOf (with_put position put versions) id cell
cell-beside position versions put id cell empty is =
    let apart : nat_eq cell.entry put.entry.0 ≡ false = ne_eqb cell.entry put.entry.0 (λ at. not_live empty (subst (λ k. IsLive versions k id cell.value) at is.live)) in
    cell-of (with_put position put versions) id cell (live_beside position versions put cell.entry id cell.value empty is.live)
    is.live.version (with_put-other position put versions cell.entry apart ∙ is.live.begun) is.position_is

-- ---- rows and live versions, where what is found is any function

record Rows (versions : Versions) (found_at : RecordId → Option Cell) : Type 0 where
  live : (id : RecordId) (cell : Cell) → found_at id ≡ Some cell → IsCellOf versions id cell
  found : (id : RecordId) (cell : Cell) → IsCellOf versions id cell → found_at id ≡ Some cell

rows-same : (versions : Versions) (f g : RecordId → Option Cell) → ((id : RecordId) → g id ≡ f id) → Rows versions f → Rows versions g
rows-same versions f g same rows = record {
  live = λ id cell e. rows.live id cell (sym (same id) ∙ e);
  found = λ id cell is. same id ∙ rows.found id cell is;
}

live_spared : (versions : Versions) (c : Change) (found_at : RecordId → Option Cell) → Rows versions found_at → (id : RecordId) (cell : Cell) (b : Bool) → ends_record c id ≡ b
    → cond b None (found_at id) ≡ Some cell → IsCellOf (λ j. ended_where_begun c (versions j)) id cell
live_spared versions c found_at rows id cell true ended e = cc
live_spared versions c found_at rows id cell false spared e = cell-after versions c id cell spared (rows.live id cell e)

rows-ended : (versions : Versions) (c : Change) (found_at : RecordId → Option Cell) → Rows versions found_at → Rows (λ j. ended_where_begun c (versions j)) (without_ended c found_at)
rows-ended versions c found_at rows = record {
  live = λ id cell e. live_spared versions c found_at rows id cell (ends_record c id) refl e;
  found = λ id cell is. let before = cell-before versions c id cell is in ap (λ b. cond b None (found_at id)) before.1 ∙ rows.found id cell before.0;
}

module _ (position : ℕ) (versions : Versions) (put : Put) (found_at : RecordId → Option Cell) (empty : versions put.entry.0 ≡ None) (absent : found_at put.id ≡ None) (rows : Rows versions found_at) where
  live_of_put : (id : RecordId) (cell : Cell) (b : Bool) → is_same id put.id ≡ b → cond b (Some (cell_of_put position put)) (found_at id) ≡ Some cell → IsCellOf (with_put position put versions) id cell
  live_of_put id cell true same e =
      let cell_is : cell_of_put position put ≡ cell = cc in
      subst (IsCellOf (with_put position put versions) id) cell_is
      (subst (λ q. IsCellOf (with_put position put versions) q (cell_of_put position put)) (sym (same_record id put.id same)) (cell-made position versions put))
  live_of_put id cell false same e = cell-beside position versions put id cell empty (rows.live id cell e)

  no_other : (id : RecordId) (cell : Cell) → IsCellOf versions id cell → put.id ≡ id → ⊥
  no_other id cell is same = let found = rows.found id cell is in let gone = subst (λ q. found_at q ≡ None) same absent in cc

  found_of_put : (id : RecordId) (cell : Cell) → IsCellOf (with_put position put versions) id cell → LiveWithPut versions put cell.entry id cell.value → cond (is_same id put.id) (Some (cell_of_put position put)) (found_at id) ≡ Some cell
  found_of_put id cell is (live.own at same_id same_value) =
      let both : Some (version_of_put position put) ≡ Some is.live.version = sym (ap (with_put position put versions) at ∙ with_put-own position put versions) ∙ is.live.begun in
      let same : version_of_put position put ≡ is.live.version = cc in
      ap (λ b. cond b (Some (cell_of_put position put)) (found_at id)) (is_same_at id put.id (sym same_id))
      ∙ (λ k. Some (record { value = same_value k; entry = sym at k; position = (ap (λ (v : Version). v.position) same ∙ sym is.position_is) k }))
  found_of_put id cell is (live.other apart before) =
      let was = cell-of versions id cell before is.live.version (sym (with_put-other position put versions cell.entry apart) ∙ is.live.begun) is.position_is in
      ap (λ b. cond b (Some (cell_of_put position put)) (found_at id)) (is_other id put.id (λ same. no_other id cell was (sym same))) ∙ rows.found id cell was

  rows-with_put : Rows (with_put position put versions) (λ id. cond (is_same id put.id) (Some (cell_of_put position put)) (found_at id))
  rows-with_put = record {
    live = λ id cell e. live_of_put id cell (is_same id put.id) refl e;
    found = λ id cell is. found_of_put id cell is (live_with_put position versions put cell.entry id cell.value (nat_eq cell.entry put.entry.0) refl is.live);
  }

-- ---- one change

-- the entries of the puts hold no version
abbrev pub AreEmpty : Versions → List Put → Type 0
AreEmpty versions puts = AllByRecursion (λ put. versions put.entry.0 ≡ None) puts

rows-change : (position : ℕ) (versions : Versions) (table : Table) (c : PlacedChange) → AreEmpty versions (put_of c) → Rows versions (cell_at table) → Rows (change_versions position versions c) (cell_at (place position table c))
rows-change position versions table c empty rows = rows-same _ (found_after position c (cell_at table)) (cell_at (place position table c)) (cell_at-place position table c) (made c empty)
  where
    ended : (c : PlacedChange) → Rows (λ j. ended_where_begun (change_of c) (versions j)) (without_ended (change_of c) (cell_at table))
    ended c = rows-ended versions (change_of c) (cell_at table) rows

    made : (c : PlacedChange) → AreEmpty versions (put_of c) → Rows (change_versions position versions c) (found_after position c (cell_at table))
    made (placed.Put put) empty =
        rows-with_put position (λ j. ended_where_begun (change.Put put.id put.value) (versions j)) put (without_ended (change.Put put.id put.value) (cell_at table)) (still_empty versions (change.Put put.id put.value) put.entry.0 empty.0)
        (ap (λ b. cond b None (cell_at table put.id)) (ends_record-own put.id put.value)) (ended (placed.Put put))
    made (placed.Drop id) empty = ended (placed.Drop id)
    made (placed.DropKey key) empty = ended (placed.DropKey key)
    made placed.Clear empty = ended placed.Clear

pub IsTable-change : (position : ℕ) (versions : Versions) (table : Table) (c : PlacedChange) → AreEmpty versions (put_of c) → IsTable versions table → IsTable (change_versions position versions c) (place position table c)
IsTable-change position versions table c empty is =
    let rows : Rows versions (cell_at table) = record { live = is.live; found = is.found } in
    let after = rows-change position versions table c empty rows in
    record {
      keyspace = subst IsKeyspace (sym (records-place position table c)) (is_keyspace-play (records table) (change_of c) is.keyspace);
      live = after.live;
      found = after.found;
    }
