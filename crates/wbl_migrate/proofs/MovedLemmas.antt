-- A version that is made again in another place, and then is gone from its old one.
use Rattle.std.proofs.Common.{◌≡◌, ◌≢◌, ◌<◌, ◌≤◌, ◌||◌, inl, inr, ℕ, Bool, false, true, not, cond, IsTrue, nat_eq, List, [], ◌∷◌, map, get_or, Contains, Option, None, Some, refl, sym, ap, ap₂, subst, ◌∙◌, arith, append-nil, eq-eqb, ne_eqb}
use Rattle.std.proofs.lemmas.Bool.{and_from, both_ways, cases_Bool, cases_eq, cond-false, cond-true, or_cases, or_left, or_right, true≢false}
use Rattle.std.specs.List.{AllByRecursion, flat_map}
use Rattle.kv_types.specs.declared.change.Change.{Change}
use Rattle.kv_types.specs.declared.change.Change.TheVariants as change
use Rattle.kv_types.specs.declared.place.EntryNo.{EntryNo}
use Rattle.kv_types.specs.declared.record_id.RecordId.{RecordId}
use Rattle.kv_types.specs.declared.record_id.RecordId.TheVariants.{Str, Field}
use Rattle.kv_types.specs.Keyspace.{key_of}
use Rattle.kv_types.proofs.LookUpLemmas.{is_same, is_same_key, is_same_key_at}
use Rattle.kv_types.proofs.OrderLemmas.{field_is_no_string, same_record, string_is_no_field}
use Rattle.heap_layout.specs.declared.entry.Entry.{Entry}
use Rattle.model.specs.declared.group.Part.{Part}
use Rattle.model.specs.declared.group.Put.{Put}
use Rattle.model.specs.declared.group.PlacedChange.{PlacedChange}
use Rattle.model.specs.declared.group.PlacedChange.TheVariants as placed
use Rattle.model.specs.Group.{AreAllApart, Contents, HasItsLines, IsConsistent, IsPlaced, IsUnused, NamesEnded, Versions, changes_versions, ended_where_begun, ends_record, entries_of, is_ended_version, is_live_version, is_put_at, part_versions, put_of, puts_of_part, version_of_put}
use Rattle.model.specs.Image.{Image, Version, counts, entry_word, version_in}
use Rattle.model.specs.ReadImage.{is_clash}
use Rattle.model.proofs.DirectoryLemmas.{in-directory}
use Rattle.model.proofs.VersionsLemmas.{ends_record-own}
use Rattle.wbl_engine.specs.Contents.{Keeps}
use Rattle.wbl_engine.specs.Lawful.{AreLawful}
use Rattle.wbl_engine.specs.Relocating.{IsRelocation}
use Rattle.wbl_engine.specs.Stage.{puts_of_parts}
use Rattle.wbl_engine.proofs.LawfulLemmas.{lawful_distinct}
use Rattle.wbl_engine.proofs.RelocatingLemmas.{relocates_one}
use Rattle.wbl_migrate.specs.declared.moving.Place.{Place}
use Rattle.wbl_migrate.specs.Moving.{IsRoomFor, put_again, version_read}
use Rattle.wbl_migrate.proofs.Picks.{none_some}

-- ---- what a put ends

-- it is of a record that clashes with that of the put
ends_clash : (id other : RecordId) (value : List ℕ) → ends_record (change.Put id value) other ≡ true → is_clash other id ≡ true
ends_clash (Str key) other value ends = and_from (is_same_key (key_of other) key) _ ends (or_right _ true refl)
ends_clash (Field key field) (Str a) value ends =
    elim (or_cases (is_same (Str a) (Field key field)) (is_same (Str a) (Str key)) ends) [
      | inl same ↦ absurd (both_ways (is_same (Str a) (Field key field)) (string_is_no_field a key field) same)
      | inr string ↦
          and_from (is_same_key a key) _ (is_same_key_at a key (ap key_of (same_record (Str a) (Str key) string)))
          (or_left _ false (or_right (is_same (Str a) (Field key field)) true refl))
    ]
ends_clash (Field key field) (Field a f) value ends =
    elim (or_cases (is_same (Field a f) (Field key field)) (is_same (Field a f) (Str key)) ends) [
      | inl same ↦
          and_from (is_same_key a key) _ (is_same_key_at a key (ap key_of (same_record (Field a f) (Field key field) same)))
          (or_left _ false (or_left (is_same (Field a f) (Field key field)) false same))
      | inr string ↦ absurd (both_ways (is_same (Field a f) (Str key)) (field_is_no_string a f key) string)
    ]

-- a version that a change does not end is as it was
ended_not : (b : Bool) (version : Version) → (version.is_ended || b) ≡ version.is_ended
    → ◌≡◌ {A = Version} (record { id = version.id; value = version.value; position = version.position; first_line = version.first_line; lines = version.lines; is_ended = version.is_ended || b }) version
ended_not b version same = λ k. record version { is_ended = same k }

or_same : (a b : Bool) → (a ≡ false → b ≡ false) → (a || b) ≡ a
or_same true b other = refl
or_same false b other = other refl

-- ---- a list of one

one_member : (n i : ℕ) → Contains (n ∷ []) i → n ≡ i
one_member n i (k, lt, is) = first k lt is
  where
    first : (k : ℕ) → k < 1 → get_or (n ∷ []) k i ≡ i → n ≡ i
    first k lt is = let none : k ≡ 0 = omega (arith, lt) in subst (λ (k : ℕ). get_or (n ∷ []) k i ≡ i) none is

-- ---- the position of a version

position_if : (counted : Bool) (made version : Version) (top : ℕ) → (IsTrue counted → made.position ≤ top) → cond counted (Some made) None ≡ Some version
    → version.position ≤ top
position_if true made version top below is = let same : made ≡ version = cc in subst (λ (v : Version). v.position ≤ top) same (below refl)
position_if false made version top below is = cc

-- it is at most that of the record
pub position_below : (contents : Contents) (image : Image) → IsConsistent contents → Keeps contents image → (i : ℕ) (version : Version)
    → contents.versions i ≡ Some version → version.position ≤ contents.current.position
position_below contents image consistent keeps i version begun =
    let within = in-directory contents consistent i (λ none. none_some (sym none ∙ begun)) in
    position_if (counts contents.current (image (entry_word i 0))) (version_in contents.current image i) version contents.current.position
    (λ counted. (keeps.entries i within).position counted) (keeps.versions i within ∙ begun)

-- ---- the part

-- It makes a live version again, in a place that can take it.
pub record IsMove (a : Contents) (from : EntryNo) (entry : Entry) (place : Place) (part : Part) : Type 0 where
  pub consistent : IsConsistent a
  pub lawful : AreLawful a
  pub held : a.versions from.0 ≡ Some (version_read entry)
  pub live : entry.end ≡ 0
  pub room : IsRoomFor a entry place
  pub position : part.position ≡ entry.position
  pub changes : part.changes.items ≡ placed.Put (put_again entry place) ∷ []
  pub ended : part.ended.items ≡ from ∷ []

module _ {a : Contents} {from : EntryNo} {entry : Entry} {place : Place} {part : Part} (move : IsMove a from entry place part) where
  abbrev put : Put
  put = put_again entry place

  abbrev by : Change
  by = change.Put entry.id entry.value

  not_ended : (version_read entry).is_ended ≡ false
  not_ended = ap (λ (end : ℕ). not (nat_eq end 0)) move.live

  none_there : a.versions place.entry.0 ≡ None
  none_there = move.consistent.free place.entry.0 move.room.unused.entry

  pub differ : from.0 ≢ place.entry.0
  differ same = none_some (sym none_there ∙ ap a.versions (sym same) ∙ move.held)

  pub from_within : from.0 < entries_of a
  from_within = in-directory a move.consistent from.0 (λ none. none_some (sym none ∙ move.held))

  -- each other version stays as it is
  spared : (i : ℕ) → i ≢ from.0 → (o : Option Version) → a.versions i ≡ o → ended_where_begun by o ≡ o
  spared i other None is = refl
  spared i other (Some w) is = ap Some (ended_not (ends_record by w.id) w (or_same w.is_ended (ends_record by w.id) apart))
    where
      within : i < entries_of a
      within = in-directory a move.consistent i (λ none. none_some (sym none ∙ is))

      apart : w.is_ended ≡ false → ends_record by w.id ≡ false
      apart live =
          elim (cases_Bool (ends_record by w.id)) [
            | inl ends ↦
                absurd (both_ways (is_clash w.id entry.id)
                (lawful_distinct a move.lawful i from.0 w (version_read entry) within from_within other is move.held live not_ended)
                (ends_clash entry.id w.id entry.value ends))
            | inr spares ↦ spares
          ]

  -- ---- the versions after it

  abbrev pub made : Versions
  made = λ i. cond (nat_eq i place.entry.0) (Some (version_of_put entry.position put)) (ended_where_begun by (a.versions i))

  pub made_is : part_versions a.versions part ≡ made
  made_is = ap₂ (λ (position : ℕ) (changes : List PlacedChange). changes_versions position a.versions changes) move.position move.changes

  pub puts_are : puts_of_part part ≡ put ∷ []
  puts_are = ap (flat_map put_of) move.changes

  pub made_there : made place.entry.0 ≡ Some (version_of_put entry.position put)
  made_there = cond-true (nat_eq place.entry.0 place.entry.0) _ _ (eq-eqb place.entry.0 place.entry.0 refl)

  made_else : (i : ℕ) → i ≢ place.entry.0 → made i ≡ ended_where_begun by (a.versions i)
  made_else i other = cond-false (nat_eq i place.entry.0) _ _ (ne_eqb i place.entry.0 other)

  pub made_kept : (i : ℕ) → i ≢ from.0 → i ≢ place.entry.0 → made i ≡ a.versions i
  made_kept i other elsewhere = made_else i elsewhere ∙ spared i other (a.versions i) refl

  pub ended_there : IsTrue (is_ended_version (made from.0))
  ended_there =
      ap is_ended_version (made_else from.0 differ ∙ ap (ended_where_begun by) move.held)
      ∙ or_right (version_read entry).is_ended (ends_record by entry.id) (ends_record-own entry.id entry.value)

  pub named : NamesEnded a.versions part
  named i = (λ m. into (one_member from.0 i (subst (λ (entries : List EntryNo). Contains (map (λ (e : EntryNo). e.0) entries) i) move.ended m)), back)
    where
      into : from.0 ≡ i → IsTrue (is_live_version (a.versions i) || is_put_at i (puts_of_part part)) × IsTrue (is_ended_version (part_versions a.versions part i))
      into same =
          subst (λ (n : ℕ). IsTrue (is_live_version (a.versions n) || is_put_at n (puts_of_part part)) × IsTrue (is_ended_version (part_versions a.versions part n))) same (
            or_left (is_live_version (a.versions from.0)) (is_put_at from.0 (puts_of_part part)) (ap is_live_version move.held ∙ ap not not_ended),
            ap (λ (versions : Versions). is_ended_version (versions from.0)) made_is ∙ ended_there,
          )

      member : i ≡ from.0 → Contains (map (λ (e : EntryNo). e.0) part.ended.items) i
      member same = subst (λ (entries : List EntryNo). Contains (map (λ (e : EntryNo). e.0) entries) i) (sym move.ended) (0, omega arith, sym same)

      back : IsTrue (is_live_version (a.versions i) || is_put_at i (puts_of_part part)) × IsTrue (is_ended_version (part_versions a.versions part i))
          → Contains (map (λ (e : EntryNo). e.0) part.ended.items) i
      back told =
          let ended : IsTrue (is_ended_version (made i)) = sym (ap (λ (versions : Versions). is_ended_version (versions i)) made_is) ∙ told.1 in
          elim (cases_eq i place.entry.0) [
            | inl there ↦ absurd (true≢false (sym ended ∙ ap is_ended_version (ap made there ∙ made_there)))
            | inr elsewhere ↦ elim (cases_eq i from.0) [
              | inl same ↦ member same
              | inr other ↦
                  let still : IsTrue (is_ended_version (a.versions i)) = sym (ap is_ended_version (made_kept i other elsewhere)) ∙ ended in
                  let put_not : is_put_at i (puts_of_part part) ≡ false =
                  ap (is_put_at i) puts_are ∙ ap (λ (b : Bool). b || false) (ne_eqb i place.entry.0 elsewhere) in
                  let live : IsTrue (is_live_version (a.versions i)) = elim (or_cases (is_live_version (a.versions i)) (is_put_at i (puts_of_part part)) told.0) [
                    | inl live ↦ live
                    | inr put ↦ absurd (both_ways (is_put_at i (puts_of_part part)) put_not put)
                  ] in
                  absurd (not_both (a.versions i) live still)
            ]
          ]
        where
          not_both : (o : Option Version) → IsTrue (is_live_version o) → IsTrue (is_ended_version o) → ⊥
          not_both None live ended = true≢false (sym live)
          not_both (Some v) live ended = true≢false (sym live ∙ ap not ended)

  pub all_puts_are : puts_of_parts (part ∷ []) ≡ put ∷ []
  all_puts_are = append-nil (puts_of_part part) ∙ puts_are

  -- the engine may be asked
  pub relocates : (image : Image) → Keeps a image → IsRelocation a (part ∷ [])
  relocates image keeps =
      relocates_one a part
      (subst (λ (n : ℕ). n ≤ a.current.position) (sym move.position) (position_below a image move.consistent keeps from.0 (version_read entry) move.held))
      (record {
        put = put;
        changes = move.changes;
        entry = from.0;
        version = version_read entry;
        held = move.held;
        live = not_ended;
        id_is = refl;
        value_is = refl;
        position_is = sym move.position;
      })
      named
      (subst (λ (puts : List Put). AllByRecursion (IsPlaced (entries_of a) a.lines) puts) (sym puts_are) (move.room.placed, tt))
      (subst (λ (puts : List Put). AllByRecursion HasItsLines puts) (sym puts_are) (move.room.fitting, tt))
      (subst (λ (puts : List Put). AllByRecursion (IsUnused a.versions a.is_free) puts) (sym puts_are) (move.room.unused, tt))
      (subst (λ (puts : List Put). AreAllApart puts) (sym puts_are) (tt, tt))
