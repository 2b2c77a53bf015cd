-- A version that is made again in another place, and how little that ends.
use Rattle.std.proofs.Common.{◌≡◌, ℕ, ◌≤◌, ◌||◌, Bool, true, false, cond, IsTrue, List, [], ◌∷◌, ◌++◌, length, Contains, nat_eq, Option, Some, None, inl, inr, refl, sym, ap, subst, subst₂, ◌∙◌, arith, append_assoc, append-nil, eq-eqb}
use Rattle.std.proofs.Math.Bool.{or-false}
use Rattle.std.proofs.lemmas.Bool.{cases_Bool, not-true, true≢false}
use Rattle.std.proofs.lemmas.Map.Keys.{IsDistinct-head}
use Rattle.std.proofs.lemmas.Option.{none-some}
use Rattle.std.specs.List.{AllByRecursion, IsDistinct, flat_map}
use Rattle.std.specs.Option.{option_map}
use Rattle.kv_types.specs.declared.change.Change.TheVariants as change
use Rattle.kv_types.specs.declared.place.EntryNo.{EntryNo}
use Rattle.kv_types.specs.declared.record_id.RecordId.{RecordId}
use Rattle.kv_types.specs.Keyspace.{value_at}
use Rattle.kv_types.proofs.LookUpLemmas.{is_same}
use Rattle.kv_types.proofs.OrderLemmas.{same_record}
use Rattle.model.specs.declared.group.Part.{Part}
use Rattle.model.specs.declared.group.PlacedChange.{PlacedChange}
use Rattle.model.specs.declared.group.Put.{Put}
use Rattle.model.specs.Group.{NamesEnded, Versions, changes_versions, ended_where_begun, ends_record, is_ended_version, is_live_version, is_put_at, part_versions, put_of, puts_of_part, version_of_put}
use Rattle.model.specs.Image.{IsLive, Version}
use Rattle.model.proofs.GroupsLemmas.{changes_versions-none}
use Rattle.extent_heap.specs.Room.{Room}
use Rattle.mv_keyspace.specs.Row.{numbers_of}
use Rattle.mv_keyspace.specs.Table.{Cell, IsTable, Table, cell_at, records}
use Rattle.mv_keyspace.proofs.PartTables.{AreDistinct, IsTable-changes, names-ended}
use Rattle.mv_keyspace.proofs.TableLemmas.{value_at-records}
use Rattle.mv_keyspace.proofs.VersionTables.{AreEmpty}
use Rattle.placing.specs.Left.{IsBeside}
use Rattle.placing.proofs.MemberLemmas.{here, later}
use Rattle.placing.proofs.TakenLemmas.{All-map, AreDistinct-from_apart, IsFree, not_put_at}
use Rattle.wbl_engine.specs.Stage.{puts_of_parts}
use Rattle.wbl_engine.proofs.RelocatingLemmas.{no_other}
use Rattle.standby.specs.Moving.{AreMadeInTurn, IsMadeAgain, ended_of}
use Rattle.standby.proofs.MovedLemmas.{AreTaken-claimed}
use Rattle.standby.proofs.PlacesTaken.{AreTaken, AreTaken-append, AreTaken-none}

-- ---- its place

module _ (table : Table) (room : Room) (id : RecordId) (part : Part) (after : Table) (left : Room) (again : IsMadeAgain table room id part after left) where
  pub puts_again : puts_of_part part ≡ again.put ∷ []
  puts_again = ap (flat_map put_of) again.changes

  pub AreTaken-again : AreTaken room (puts_of_part part) left
  AreTaken-again = subst (λ (puts : List Put). AreTaken room puts left) (sym puts_again) (AreTaken-claimed room again.put left again.place again.fitting)

  -- ---- what it ends

  module _ (beside : IsBeside table room) where
    abbrev was : Versions
    was = beside.versions

    empty : AreEmpty was (puts_of_part part)
    empty = All-map (IsFree room) (λ (put : Put). was put.entry.0 ≡ None) (λ put is. beside.empty put.entry.0 is.entry) (puts_of_part part) AreTaken-again.free

    distinct : AreDistinct (puts_of_part part)
    distinct = AreDistinct-from_apart (puts_of_part part) AreTaken-again.apart

    -- table and heap stand beside each other then too
    pub beside-again : IsBeside after left
    beside-again = record {
      versions = part_versions was part;
      table_is = subst (IsTable (part_versions was part)) (sym again.after_is) (IsTable-changes part.position was table part.changes.items empty distinct beside.table_is);
      empty = λ i free.
          changes_versions-none part.position was part.changes.items i (beside.empty i (AreTaken-again.within.entries i free))
          (not_put_at left (puts_of_part part) i AreTaken-again.taken free);
    }

    names : NamesEnded was part
    names = names-ended was table part empty distinct beside.table_is again.ended

    value_here : value_at (records table) id ≡ Some again.cell.value
    value_here = value_at-records table id ∙ ap (option_map (λ (cell : Cell). cell.value)) again.found

    -- no other version is live that a put of this record ends
    live_one : (i : ℕ) (version : Version) → was i ≡ Some version → version.is_ended ≡ false → ends_record (change.Put id again.cell.value) version.id ≡ true → i ≡ again.cell.entry
    live_one i version held live ends =
        let cell : Cell = record { value = version.value; entry = i; position = version.position } in
        let at : IsLive was i version.id version.value = record { version = version; begun = held; not_ended = live; id_is = refl; value_is = refl } in
        let there : cell_at table version.id ≡ Some cell = beside.table_is.found version.id cell (record { live = at; position_is = refl }) in
        let value_there : value_at (records table) version.id ≡ Some version.value = value_at-records table version.id ∙ ap (option_map (λ (c : Cell). c.value)) there in
        elim (cases_Bool (is_same version.id id)) [
          | inl same ↦
              let both : Some again.cell ≡ Some cell = sym again.found ∙ ap (cell_at table) (sym (same_record version.id id same)) ∙ there in
              let one : again.cell ≡ cell = cc in
              sym (ap (λ (c : Cell). c.entry) one)
          | inr other ↦
              absurd (none-some version.value (sym (no_other (records table) beside.table_is.keyspace id again.cell.value value_here version.id ends other) ∙ value_there))
        ]

    ended_old : (i : ℕ) (old : Option Version) → was i ≡ old → IsTrue (is_live_version old)
        → IsTrue (is_ended_version (ended_where_begun (change.Put id again.cell.value) old)) → i ≡ again.cell.entry
    ended_old i None held live ended = absurd (true≢false (sym live))
    ended_old i (Some version) held live ended =
        let not_ended : version.is_ended ≡ false = not-true version.is_ended live in
        live_one i version held not_ended (sym (ap (λ (b : Bool). b || ends_record (change.Put id again.cell.value) version.id) not_ended) ∙ ended)

    ended_at : (i : ℕ) (at : Bool) → IsTrue (is_live_version (was i) || (at || false))
        → IsTrue (is_ended_version (cond at (Some (version_of_put part.position again.put)) (ended_where_begun (change.Put again.put.id again.put.value) (was i)))) → i ≡ again.cell.entry
    ended_at i true live ended = absurd (true≢false (sym ended))
    ended_at i false live ended =
        ended_old i (was i) refl (sym (or-false (is_live_version (was i))) ∙ live)
        (subst (λ (value : List ℕ). IsTrue (is_ended_version (ended_where_begun (change.Put id value) (was i)))) again.value_is
        (subst (λ (q : RecordId). IsTrue (is_ended_version (ended_where_begun (change.Put q again.put.value) (was i)))) again.id_is ended))

    ended_one : (i : ℕ) → Contains (numbers_of part.ended.items) i → i ≡ again.cell.entry
    ended_one i named =
        let both = (names i).0 named in
        ended_at i (nat_eq i again.put.entry.0)
        (ap (λ (changes : List PlacedChange). is_live_version (was i) || is_put_at i (flat_map put_of changes)) (sym again.changes) ∙ both.0)
        (ap (λ (changes : List PlacedChange). is_ended_version (changes_versions part.position was changes i)) (sym again.changes) ∙ both.1)

    few : (numbers : List ℕ) (entry : ℕ) → IsDistinct nat_eq numbers → ((i : ℕ) → Contains numbers i → i ≡ entry) → length numbers ≤ 1
    few [] entry once all = omega arith
    few (n ∷ []) entry once all = omega arith
    few (n ∷ m ∷ numbers) entry once all =
        let same : n ≡ m = all n (here n (m ∷ numbers)) ∙ sym (all m (later n m (m ∷ numbers) (here m numbers))) in
        absurd (true≢false (sym (eq-eqb n m same) ∙ (IsDistinct-head nat_eq n (m ∷ numbers) once).0))

    count : (entries : List EntryNo) → length (numbers_of entries) ≡ length entries
    count [] = refl
    count (entry ∷ entries) = omega (arith, count entries)

    -- it ends one version at most
    pub ended_few : length part.ended.items ≤ 1
    ended_few = omega (arith, count part.ended.items, few (numbers_of part.ended.items) again.cell.entry again.ended.once ended_one)

-- the places of several
pub AreTaken-turn : (parts : List Part) (table : Table) (room : Room) (after : Table) (left : Room) → AreMadeInTurn table room parts after left → AreTaken room (puts_of_parts parts) left
AreTaken-turn [] table room after left made = subst (AreTaken room []) (sym made.1) (AreTaken-none room)
AreTaken-turn (part ∷ parts) table room after left made =
    AreTaken-append room made.2 left (puts_of_part part) (puts_of_parts parts) (AreTaken-again table room made.0 part made.1 made.2 made.3)
    (AreTaken-turn parts made.1 made.2 after left made.4)

-- and one more
pub AreMadeInTurn-append : (parts : List Part) (table : Table) (room : Room) (between : Table) (mid : Room) → AreMadeInTurn table room parts between mid
    → (id : RecordId) (part : Part) (after : Table) (left : Room) → IsMadeAgain between mid id part after left → AreMadeInTurn table room (parts ++ part ∷ []) after left
AreMadeInTurn-append [] table room between mid made id part after left again =
    (id, after, left, subst₂ (λ (t : Table) (r : Room). IsMadeAgain t r id part after left) made.0 made.1 again, (refl, refl))
AreMadeInTurn-append (first ∷ parts) table room between mid made id part after left again =
    (made.0, made.1, made.2, made.3, AreMadeInTurn-append parts made.1 made.2 between mid made.4 id part after left again)

pub ended_of-append : (parts : List Part) (part : Part) → ended_of (parts ++ part ∷ []) ≡ ended_of parts ++ part.ended.items
ended_of-append [] part = append-nil part.ended.items
ended_of-append (first ∷ parts) part =
    ap (λ (entries : List EntryNo). first.ended.items ++ entries) (ended_of-append parts part)
    ∙ sym (append_assoc first.ended.items (ended_of parts) part.ended.items)
