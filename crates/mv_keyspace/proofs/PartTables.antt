-- The table after all changes of a part, and the entries that they ended.
use Rattle.std.proofs.Common.{◌≡◌, ℕ, ◌<◌, ◌≤◌, ◌⊎◌, ⊎_elim, Bool, true, false, not, ◌||◌, List, [], ◌∷◌, Option, Some, None, Contains, IsTrue, nat_eq, ◌↔◌, ◌++◌, is_some, refl, sym, ap, subst, ◌∙◌, eq-eqb, arith}
use Rattle.std.proofs.lemmas.Bool.{cases_lt, or_left, or_right}
use Rattle.std.specs.Option.{option_map}
use Rattle.kv_types.specs.declared.record_id.RecordId.{RecordId}
use Rattle.kv_types.proofs.PlayLemmas.{is_keyspace-empty}
use Rattle.model.specs.declared.group.Part.{Part}
use Rattle.model.specs.declared.group.Put.{Put}
use Rattle.model.specs.declared.group.PlacedChange.{PlacedChange}
use Rattle.model.specs.Image.{Version, IsLive, IsMapOf}
use Rattle.model.specs.Group.{Versions, change_of, put_of, ended_where_begun, with_puts, change_versions, changes_versions, part_versions, is_put_at, is_live_version, is_ended_version, NamesEnded}
use Rattle.model.proofs.GroupsLemmas.{change_versions-none, is_put_at-append}
use Rattle.model.proofs.MapLemmas.{not_live}
use Rattle.mv_keyspace.proofs.AllLemmas.{All-prefix, All-rest}
use Rattle.mv_keyspace.specs.Table.{Cell, Table, records, cell_at, entries_of, place, place_all, puts_of, AreEnded, AreFresh, IsLawful, IsTable}
use Rattle.mv_keyspace.proofs.TableLemmas.{value_at-records}
use Rattle.mv_keyspace.proofs.TableMembers.{IsSortedTable, entry-from_found, found-from_entry, is_sorted-records}
use Rattle.mv_keyspace.proofs.VersionTables.{AreEmpty, IsTable-change, cell-of_live}

-- no two of the puts share an entry
abbrev pub AreDistinct : List Put → Type 0
AreDistinct [] = Unit {0}
AreDistinct (put ∷ puts) = (is_put_at put.entry.0 puts ≡ false) × AreDistinct puts

pub distinct-first : (puts more : List Put) → AreDistinct (puts ++ more) → AreDistinct puts
distinct-first [] more distinct = tt
distinct-first (put ∷ puts) more distinct = grind (arith, is_put_at-append put.entry.0 puts more, distinct-first puts more distinct.1)

-- an entry of none of the puts holds what it held
pub with_puts-other : (position : ℕ) (puts : List Put) (versions : Versions) (i : ℕ) → is_put_at i puts ≡ false → with_puts position puts versions i ≡ versions i
with_puts-other position [] versions i other = refl
with_puts-other position (put ∷ puts) versions i other = grind (arith, with_puts-other position puts versions i)

-- ---- entries that hold no version keep holding none

-- no later put is at the entry of an earlier one
apart_later : (puts more : List Put) → AreDistinct (puts ++ more) → (i : ℕ) → IsTrue (is_put_at i more) → is_put_at i puts ≡ false
apart_later [] more distinct i t = refl
apart_later (put ∷ puts) more distinct i t = grind (arith, is_put_at-append put.entry.0 puts more, apart_later puts more distinct.1 i t)

distinct_later : (puts more : List Put) → AreDistinct (puts ++ more) → AreDistinct more
distinct_later [] more distinct = distinct
distinct_later (put ∷ puts) more distinct = distinct_later puts more distinct.1

empty_after : (position : ℕ) (versions : Versions) (c : PlacedChange) (puts : List Put) → ((i : ℕ) → IsTrue (is_put_at i puts) → is_put_at i (put_of c) ≡ false) → AreEmpty versions puts → AreEmpty (change_versions position versions c) puts
empty_after position versions c [] apart empty = tt
empty_after position versions c (put ∷ puts) apart empty = (
  change_versions-none position versions c put.entry.0 empty.0 (apart put.entry.0 (or_left (nat_eq put.entry.0 put.entry.0) (is_put_at put.entry.0 puts) (eq-eqb put.entry.0 put.entry.0 refl))),
  empty_after position versions c puts (λ i t. apart i (or_right (nat_eq i put.entry.0) (is_put_at i puts) t)) empty.1,
)

pub empty-rest : (position : ℕ) (versions : Versions) (c : PlacedChange) (changes : List PlacedChange) → AreEmpty versions (puts_of (c ∷ changes)) → AreDistinct (puts_of (c ∷ changes))
    → AreEmpty (change_versions position versions c) (puts_of changes) × AreDistinct (puts_of changes)
empty-rest position versions c changes empty distinct =
    (empty_after position versions c (puts_of changes) (apart_later (put_of c) (puts_of changes) distinct) (All-rest _ (put_of c) (puts_of changes) empty), distinct_later (put_of c) (puts_of changes) distinct)

-- ---- all changes

pub IsTable-changes : (position : ℕ) (versions : Versions) (table : Table) (changes : List PlacedChange) → AreEmpty versions (puts_of changes) → AreDistinct (puts_of changes) → IsTable versions table
    → IsTable (changes_versions position versions changes) (place_all position table changes)
IsTable-changes position versions table [] empty distinct is = is
IsTable-changes position versions table (c ∷ changes) empty distinct is =
    let rest = empty-rest position versions c changes empty distinct in
    IsTable-changes position (change_versions position versions c) (place position table c) changes rest.0 rest.1 (IsTable-change position versions table c (All-prefix _ (put_of c) (puts_of changes) empty) is)

-- ---- entries of the table and live versions

pub sorted-from_table : (versions : Versions) (table : Table) → IsTable versions table → IsSortedTable table
sorted-from_table versions table is = sym (is_sorted-records table) ∙ is.keyspace.sorted

live-version : (versions : Versions) (i : ℕ) (id : RecordId) (value : List ℕ) → IsLive versions i id value → IsTrue (is_live_version (versions i))
live-version versions i id value live = ap is_live_version live.begun ∙ ap not live.not_ended

live-from_version : (versions : Versions) (i : ℕ) (entry : Option Version) → versions i ≡ entry → IsTrue (is_live_version entry) → (id : RecordId) × (value : List ℕ) × IsLive versions i id value
live-from_version versions i None e live = cc
live-from_version versions i (Some version) e live =
    (version.id, version.value, record { version = version; begun = e; not_ended = not_true version.is_ended live; id_is = refl; value_is = refl })
  where
    not_true : (b : Bool) → not b ≡ true → b ≡ false
    not_true true h = cc
    not_true false h = refl

pub live-from_entry : (versions : Versions) (table : Table) (i : ℕ) → IsTable versions table → Contains (entries_of table) i → IsTrue (is_live_version (versions i))
live-from_entry versions table i is m =
    let of = found-from_entry table i (sorted-from_table versions table is) m in
    subst (λ k. IsTrue (is_live_version (versions k))) of.entry (live-version versions of.cell.entry of.id of.cell.value (is.live of.id of.cell of.found).live)

found_live : (versions : Versions) (table : Table) → IsTable versions table → (i : ℕ) (id : RecordId) (value : List ℕ) → IsLive versions i id value → Contains (entries_of table) i
found_live versions table is i id value live =
    let cell : Cell = record { value = value; entry = i; position = live.version.position } in
    entry-from_found table id cell (is.found id cell (cell-of_live versions i id value live))

pub entry-from_live : (versions : Versions) (table : Table) (i : ℕ) → IsTable versions table → IsTrue (is_live_version (versions i)) → Contains (entries_of table) i
entry-from_live versions table i is live =
    let l = live-from_version versions i (versions i) refl live in
    found_live versions table is i l.0 l.1 l.2

-- ---- lawful and fresh

pub lawful-from_table : (versions : Versions) (table : Table) → IsTable versions table → IsLawful table
lawful-from_table versions table is = record {
  keyspace = is.keyspace;
  once = λ id other cell cell' e e' same.
      let l = (is.live id cell e).live in
      let l' = subst (λ k. IsLive versions k other cell'.value) (sym same) (is.live other cell' e').live in
      let begun = l.begun in
      let begun' = l'.begun in
      let version : l.version ≡ l'.version = cc in
      sym l.id_is ∙ ap (λ (v : Version). v.id) version ∙ l'.id_is;
}

pub fresh-from_table : (versions : Versions) (table : Table) (puts : List Put) → IsTable versions table → AreEmpty versions puts → AreDistinct puts → AreFresh table puts
fresh-from_table versions table [] is empty distinct = tt
fresh-from_table versions table (put ∷ puts) is empty distinct = (
  λ m. let live = live-from_entry versions table put.entry.0 is m in let none = empty.0 in absurd (none_not_live (versions put.entry.0) none live),
  λ t. let e = distinct.0 in cc,
  fresh-from_table versions table puts is empty.1 distinct.1,
)
  where
    none_not_live : (entry : Option Version) → entry ≡ None → IsTrue (is_live_version entry) → ⊥
    none_not_live None e live = cc
    none_not_live (Some version) e live = cc

-- ---- the map

pub map-from_table : (versions : Versions) (entries : ℕ) (table : Table) → ((i : ℕ) → entries ≤ i → versions i ≡ None) → IsTable versions table → IsMapOf versions entries (records table)
map-from_table versions entries table beyond is = record {
  held = λ id value e. held id value (cell_at table id) refl (sym (value_at-records table id) ∙ e);
  found = λ i id value lt live. value_at-records table id ∙ ap (option_map (λ cell. cell.value)) (at i id value live);
  once = λ i j id v w lt lt' a b. ap (λ (c : Cell). c.entry) (same_some (sym (at i id v a) ∙ at j id w b));
}
  where
    at : (i : ℕ) (id : RecordId) (value : List ℕ) (live : IsLive versions i id value) → cell_at table id ≡ Some (record { value = value; entry = i; position = live.version.position })
    at i id value live = is.found id (record { value = value; entry = i; position = live.version.position }) (cell-of_live versions i id value live)

    same_some : {a b : Cell} → Some a ≡ Some b → a ≡ b
    same_some e = cc

    below : (i : ℕ) (id : RecordId) (value : List ℕ) → IsLive versions i id value → i < entries
    below i id value live = ⊎_elim (λ (lt : i < entries). lt) (λ (le : entries ≤ i). absurd (not_live (beyond i le) live)) (cases_lt i entries)

    held : (id : RecordId) (value : List ℕ) (found : Option Cell) → cell_at table id ≡ found → option_map (λ cell. cell.value) found ≡ Some value → (i : ℕ) × (i < entries) × IsLive versions i id value
    held id value None e h = cc
    held id value (Some cell) e h =
        let live = (is.live id cell e).live in
        let same : cell.value ≡ value = cc in
        (cell.entry, below cell.entry id cell.value live, subst (λ v. IsLive versions cell.entry id v) same live)

pub table-none : (versions : Versions) → ((i : ℕ) → versions i ≡ None) → IsTable versions []
table-none versions none = record { keyspace = is_keyspace-empty; live = λ id cell e. cc; found = λ id cell is. absurd (not_live (none cell.entry) is.live) }

-- ---- the entries that the changes ended

begun-puts : (position : ℕ) (puts : List Put) (versions : Versions) (i : ℕ) → IsTrue (is_some (versions i) || is_put_at i puts) → IsTrue (is_some (with_puts position puts versions i))
begun-puts position [] versions i t = grind arith
begun-puts position (put ∷ puts) versions i t = grind (arith, begun-puts position puts versions i)

begun-change : (position : ℕ) (c : PlacedChange) (changes : List PlacedChange) (versions : Versions) (i : ℕ) → IsTrue (is_some (versions i) || is_put_at i (puts_of (c ∷ changes))) → IsTrue (is_some (change_versions position versions c i) || is_put_at i (puts_of changes))
begun-change position c changes versions i t =
    let ended : IsTrue (is_some (versions i)) → IsTrue (is_some (ended_where_begun (change_of c) (versions i))) = grind arith in
    grind (arith, ended, begun-puts position (put_of c) (λ j. ended_where_begun (change_of c) (versions j)) i, is_put_at-append i (put_of c) (puts_of changes))

begun-changes : (position : ℕ) (versions : Versions) (changes : List PlacedChange) (i : ℕ) → IsTrue (is_some (versions i) || is_put_at i (puts_of changes)) → IsTrue (is_some (changes_versions position versions changes i))
begun-changes position versions [] i t = grind arith
begun-changes position versions (c ∷ changes) i t = begun-changes position (change_versions position versions c) changes i (begun-change position c changes versions i t)

-- an entry was there or put, and is not there, where its version was live or put and has ended
ended_iff : (held held' : Option Version) (put : Bool) {was left : Type 0} → was ↔ IsTrue (is_live_version held) → left ↔ IsTrue (is_live_version held') → (IsTrue (is_some held || put) → IsTrue (is_some held'))
    → ((was ⊎ IsTrue put) × (¬ left)) ↔ (IsTrue (is_live_version held || put) × IsTrue (is_ended_version held'))
ended_iff held held' put was left begun = grind arith

-- the entries that the table says were ended are those of the versions that were
pub names-ended : (versions : Versions) (table : Table) (part : Part) → AreEmpty versions (puts_of part.changes.items) → AreDistinct (puts_of part.changes.items) → IsTable versions table
    → AreEnded part.position table part.changes.items part.ended.items → NamesEnded versions part
names-ended versions table part empty distinct is ended i =
    let told = ended.these i in
    let after = IsTable-changes part.position versions table part.changes.items empty distinct is in
    let same = ended_iff (versions i) (part_versions versions part i) (is_put_at i (puts_of part.changes.items)) (live-from_entry versions table i is, entry-from_live versions table i is)
    (live-from_entry (part_versions versions part) _ i after, entry-from_live (part_versions versions part) _ i after) (begun-changes part.position versions part.changes.items i) in
    (λ m. same.0 (told.0 m), λ h. told.1 (same.1 h))
