-- No two live versions clash, whatever a group changes, and so they make up a keyspace.
use Rattle.std.proofs.Common.{◌≡◌, ◌≢◌, ℕ, ◌<◌, Bool, true, false, cond, ◌||◌, ◌⊎◌, List, [], ◌∷◌, Option, None, Some, IsSome, is_some, nat_eq, inl, inr, refl, sym, ap, subst, ◌∙◌}
use Rattle.std.proofs.Math.Bool.{or-false}
use Rattle.std.proofs.lemmas.Bool.{or_parts, cases_Bool, cases_eq, and_parts, and_from, both_ways, or_left, or_right, eqb-true}
use Rattle.kv_types.specs.declared.change.Change.{Change}
use Rattle.kv_types.specs.declared.change.Change.TheVariants as change
use Rattle.kv_types.specs.declared.record_id.RecordId.{RecordId}
use Rattle.kv_types.specs.declared.record_id.RecordId.TheVariants.{Str, Field}
use Rattle.kv_types.specs.Keyspace.{Keyspace, IsKeyspace, key_of, value_at}
use Rattle.kv_types.proofs.LookUpLemmas.{is_same, is_same_key, is_same_at, is_same_key_at}
use Rattle.kv_types.proofs.OrderLemmas.{same_key, same_record, key_itself, record_itself}
use Rattle.model.specs.declared.group.Part.{Part}
use Rattle.model.specs.declared.group.PlacedChange.{PlacedChange}
use Rattle.model.specs.declared.group.PlacedChange.TheVariants as placed
use Rattle.model.specs.declared.group.Put.{Put}
use Rattle.model.specs.Group.{Versions, change_of, ends_record, ended_by, ended_where_begun, version_of_put, change_versions, changes_versions, part_versions, parts_versions}
use Rattle.model.specs.Image.{Version, IsLive, IsMapOf, map_below}
use Rattle.model.specs.ReadImage.{is_clash}
use Rattle.model.proofs.MapLemmas.{IsMapOf-map_below, is_sorted-map_below}

-- no two live versions of these entries are of one record, or of a string and a field of one key
abbrev pub AreDistinct : Versions → ℕ → Type 0
AreDistinct versions entries =
    (i j : ℕ) (v w : Version) → i < entries → j < entries → i ≢ j → versions i ≡ Some v → versions j ≡ Some w → v.is_ended ≡ false
    → w.is_ended ≡ false → is_clash v.id w.id ≡ false

-- ---- records that clash

-- fields that clash are the same
same_field : (a f b g : List ℕ) → is_clash (Field a f) (Field b g) ≡ true → Field a f ≡ Field b g
same_field a f b g clash =
    let test = (and_parts (is_same_key a b) _ clash).1 in
    same_record (Field a f) (Field b g)
    (sym (or-false (is_same (Field a f) (Field b g))) ∙ sym (or-false (is_same (Field a f) (Field b g) || false)) ∙ test)

clash_itself : (id : RecordId) → is_clash id id ≡ true
clash_itself (Str key) =
    and_from (is_same_key key key) (is_same (Str key) (Str key) || true || true) (key_itself key)
    (or_right (is_same (Str key) (Str key) || true) true refl)
clash_itself (Field key field) =
    and_from (is_same_key key key) (is_same (Field key field) (Field key field) || false || false) (key_itself key)
    (or-false (is_same (Field key field) (Field key field) || false) ∙ or-false (is_same (Field key field) (Field key field))
    ∙ record_itself (Field key field))

clash_string_field : (key field : List ℕ) → is_clash (Str key) (Field key field) ≡ true
clash_string_field key field =
    and_from (is_same_key key key) (is_same (Str key) (Field key field) || true || false) (key_itself key)
    (or_left (is_same (Str key) (Field key field) || true) false (or_right (is_same (Str key) (Field key field)) true refl))

-- records of one keyspace that clash are the same
pub clash_same : (s : Keyspace) → IsKeyspace s → (other id : RecordId) (v w : List ℕ) → value_at s other ≡ Some v → value_at s id ≡ Some w
    → is_clash other id ≡ true → other ≡ id
clash_same s lawful (Str a) (Str b) v w there here clash = ap Str (same_key a b (and_parts (is_same_key a b) _ clash).0)
clash_same s lawful (Str a) (Field b g) v w there here clash =
    let same : a ≡ b = same_key a b (and_parts (is_same_key a b) _ clash).0 in
    let none : value_at s (Field a g) ≡ None = lawful.one_kind a g (ap is_some there) in
    let found : value_at s (Field a g) ≡ Some w = ap (λ (k : List ℕ). value_at s (Field k g)) same ∙ here in
    absurd (cc)
clash_same s lawful (Field a f) (Str b) v w there here clash =
    let same : a ≡ b = same_key a b (and_parts (is_same_key a b) _ clash).0 in
    let none : value_at s (Field b f) ≡ None = lawful.one_kind b f (ap is_some here) in
    let found : value_at s (Field b f) ≡ Some v = ap (λ (k : List ℕ). value_at s (Field k f)) (sym same) ∙ there in
    absurd (cc)
clash_same s lawful (Field a f) (Field b g) v w there here clash = same_field a f b g clash

-- a put ends each record that clashes with its own
put_ends : (id other : RecordId) (value : List ℕ) → is_clash id other ≡ true → ends_record (change.Put id value) other ≡ true
put_ends (Str key) other value clash = is_same_key_at (key_of other) key (sym (same_key key (key_of other) (and_parts (is_same_key key (key_of other)) _ clash).0))
put_ends (Field key field) (Str a) value clash =
    or_right (is_same (Str a) (Field key field)) (is_same (Str a) (Str key))
    (is_same_at (Str a) (Str key) (ap Str (sym (same_key key a (and_parts (is_same_key key a) _ clash).0))))
put_ends (Field key field) (Field a f) value clash =
    or_left (is_same (Field a f) (Field key field)) (is_same (Field a f) (Str key))
    (is_same_at (Field a f) (Field key field) (sym (same_field key field a f clash)))

put_ends_back : (id other : RecordId) (value : List ℕ) → is_clash other id ≡ true → ends_record (change.Put id value) other ≡ true
put_ends_back (Str key) other value clash = (and_parts (is_same_key (key_of other) key) _ clash).0
put_ends_back (Field key field) (Str a) value clash =
    or_right (is_same (Str a) (Field key field)) (is_same (Str a) (Str key))
    (is_same_at (Str a) (Str key) (ap Str (same_key a key (and_parts (is_same_key a key) _ clash).0)))
put_ends_back (Field key field) (Field a f) value clash =
    or_left (is_same (Field a f) (Field key field)) (is_same (Field a f) (Str key))
    (is_same_at (Field a f) (Field key field) (same_field a f key field clash))

-- and what it left it does not clash with
left_apart : (b c : Bool) → (b ≡ true → c ≡ true) → c ≡ false → b ≡ false
left_apart true c then none = absurd (both_ways c none (then refl))
left_apart false c then none = refl

-- ---- a change

-- what is live after the ends of a change was live before, and was not ended
record WasLive (done : Change) (old : Option Version) (version : Version) : Type 0 where
  was : Version
  is : old ≡ Some was
  not_ended : was.is_ended ≡ false
  id_is : was.id ≡ version.id
  left : ends_record done version.id ≡ false

was_live : (done : Change) (old : Option Version) (version : Version) → ended_where_begun done old ≡ Some version → version.is_ended ≡ false
    → WasLive done old version
was_live done None version is live = absurd (cc)
was_live done (Some was) version is live =
    let same : ended_by done was ≡ version = cc in
    let both = or_parts was.is_ended (ends_record done was.id) (ap (λ (v : Version). v.is_ended) same ∙ live) in
    let id : was.id ≡ version.id = ap (λ (v : Version). v.id) same in
    record { was = was; is = refl; not_ended = both.0; id_is = id; left = sym (ap (ends_record done) id) ∙ both.1 }

ended_distinct : (done : Change) (versions : Versions) (entries : ℕ) → AreDistinct versions entries
    → AreDistinct (λ i. ended_where_begun done (versions i)) entries
ended_distinct done versions entries distinct i j v w within_i within_j differ is_v is_w live_v live_w =
    let a = was_live done (versions i) v is_v live_v in
    let b = was_live done (versions j) w is_w live_w in
    sym (ap (λ (id : RecordId). is_clash id w.id) a.id_is) ∙ sym (ap (is_clash a.was.id) b.id_is)
    ∙ distinct i j a.was b.was within_i within_j differ a.is b.is a.not_ended b.not_ended

-- the version at the entry of a put, or what is left at another
at_put : (position : ℕ) (put : Put) (old : Option Version) (version : Version) (here : Bool)
    → cond here (Some (version_of_put position put)) old ≡ Some version → ((here ≡ true) × (version.id ≡ put.id)) ⊎ ((here ≡ false) × (old ≡ Some version))
at_put position put old version true is =
    let same : version_of_put position put ≡ version = cc in inl (refl, ap (λ (v : Version). v.id) (sym same))
at_put position put old version false is = inr (refl, is)

put_distinct : (position : ℕ) (put : Put) (versions : Versions) (entries : ℕ) → AreDistinct versions entries
    → AreDistinct (change_versions position versions (placed.Put put)) entries
put_distinct position put versions entries distinct i j v w within_i within_j differ is_v is_w live_v live_w =
    let done : Change = change.Put put.id put.value in
    elim (at_put position put (ended_where_begun done (versions i)) v (nat_eq i put.entry.0) is_v) [
      | inl (here, id) ↦
          elim (at_put position put (ended_where_begun done (versions j)) w (nat_eq j put.entry.0) is_w) [
            | inl (also, id') ↦ absurd (differ (eqb-true i put.entry.0 here ∙ sym (eqb-true j put.entry.0 also)))
            | inr (other, old) ↦
                ap (λ (q : RecordId). is_clash q w.id) id
                ∙ left_apart (is_clash put.id w.id) (ends_record done w.id) (put_ends put.id w.id put.value)
                (was_live done (versions j) w old live_w).left
          ]
      | inr (other, old) ↦
          elim (at_put position put (ended_where_begun done (versions j)) w (nat_eq j put.entry.0) is_w) [
            | inl (here, id) ↦
                ap (is_clash v.id) id
                ∙ left_apart (is_clash v.id put.id) (ends_record done v.id) (put_ends_back put.id v.id put.value)
                (was_live done (versions i) v old live_v).left
            | inr (also, old') ↦ ended_distinct done versions entries distinct i j v w within_i within_j differ old old' live_v live_w
          ]
    ]

change_distinct : (position : ℕ) (placed_change : PlacedChange) (versions : Versions) (entries : ℕ) → AreDistinct versions entries
    → AreDistinct (change_versions position versions placed_change) entries
change_distinct position (placed.Put put) versions entries distinct = put_distinct position put versions entries distinct
change_distinct position (placed.Drop id) versions entries distinct = ended_distinct (change_of (placed.Drop id)) versions entries distinct
change_distinct position (placed.DropKey key) versions entries distinct = ended_distinct (change_of (placed.DropKey key)) versions entries distinct
change_distinct position placed.Clear versions entries distinct = ended_distinct (change_of placed.Clear) versions entries distinct

changes_distinct : (position : ℕ) (changes : List PlacedChange) (versions : Versions) (entries : ℕ) → AreDistinct versions entries
    → AreDistinct (changes_versions position versions changes) entries
changes_distinct position [] versions entries distinct = distinct
changes_distinct position (first ∷ changes) versions entries distinct =
    changes_distinct position changes (change_versions position versions first) entries (change_distinct position first versions entries distinct)

pub parts_distinct : (parts : List Part) (versions : Versions) (entries : ℕ) → AreDistinct versions entries
    → AreDistinct (parts_versions versions parts) entries
parts_distinct [] versions entries distinct = distinct
parts_distinct (part ∷ parts) versions entries distinct =
    parts_distinct parts (part_versions versions part) entries (changes_distinct part.position part.changes.items versions entries distinct)

-- ---- the keyspace

-- the live versions of a map are distinct
pub map_distinct : (versions : Versions) (entries : ℕ) (s : Keyspace) → IsKeyspace s → IsMapOf versions entries s → AreDistinct versions entries
map_distinct versions entries s lawful map i j v w within_i within_j differ is_v is_w live_v live_w =
    let at_i : IsLive versions i v.id v.value = record { version = v; begun = is_v; not_ended = live_v; id_is = refl; value_is = refl } in
    let at_j : IsLive versions j w.id w.value = record { version = w; begun = is_w; not_ended = live_w; id_is = refl; value_is = refl } in
    elim (cases_Bool (is_clash v.id w.id)) [
      | inl clash ↦
          let same : v.id ≡ w.id =
          clash_same s lawful v.id w.id v.value w.value (map.found i v.id v.value within_i at_i) (map.found j w.id w.value within_j at_j) clash in
          absurd (differ (map.once i j w.id v.value w.value within_i within_j (subst (λ (id : RecordId). IsLive versions i id v.value) same at_i) at_j))
      | inr none ↦ none
    ]

-- live versions whose records clash are those of one entry
one_entry : (versions : Versions) (entries : ℕ) → AreDistinct versions entries → (i j : ℕ) (id other : RecordId) (v w : List ℕ) → i < entries
    → j < entries → IsLive versions i id v → IsLive versions j other w → is_clash id other ≡ true → i ≡ j
one_entry versions entries distinct i j id other v w within_i within_j at_i at_j clash =
    elim (cases_eq i j) [
      | inl same ↦ same
      | inr differ ↦
          let none : is_clash id other ≡ false =
          sym (ap (λ (q : RecordId). is_clash q other) at_i.id_is) ∙ sym (ap (is_clash at_i.version.id) at_j.id_is)
          ∙ distinct i j at_i.version at_j.version within_i within_j differ at_i.begun at_j.begun at_i.not_ended at_j.not_ended in
          absurd (both_ways (is_clash id other) none clash)
    ]

one_record : (versions : Versions) (i : ℕ) (id other : RecordId) (v w : List ℕ) → IsLive versions i id v → IsLive versions i other w → id ≡ other
one_record versions i id other v w at also =
    let both : Some at.version ≡ Some also.version = sym at.begun ∙ also.begun in
    let same : at.version ≡ also.version = cc in
    sym at.id_is ∙ ap (λ (q : Version). q.id) same ∙ also.id_is

some_is : {X : Type 0} (o : Option X) → IsSome o → (x : X) × (o ≡ Some x)
some_is None e = absurd (cc)
some_is (Some x) e = (x, refl)

-- what is computed of distinct versions is a keyspace
pub distinct_map : (versions : Versions) (entries : ℕ) → AreDistinct versions entries → IsMapOf versions entries (map_below versions entries)
distinct_map versions entries distinct =
    IsMapOf-map_below versions entries
    (λ i j id v w within_i within_j at_i at_j. one_entry versions entries distinct i j id id v w within_i within_j at_i at_j (clash_itself id))

pub distinct_keyspace : (versions : Versions) (entries : ℕ) → AreDistinct versions entries → IsKeyspace (map_below versions entries)
distinct_keyspace versions entries distinct =
    record {
      sorted = is_sorted-map_below versions entries;
      one_kind = λ key field there.
          let s : Keyspace = map_below versions entries in
          let map : IsMapOf versions entries s = distinct_map versions entries distinct in
          let string = some_is (value_at s (Str key)) there in
          let i = map.held (Str key) string.0 string.1 in
          only_none (value_at s (Field key field))
          (λ w is.
          let j = map.held (Field key field) w is in
          let same : i.0 ≡ j.0 =
          one_entry versions entries distinct i.0 j.0 (Str key) (Field key field) string.0 w i.1 j.1 i.2 j.2 (clash_string_field key field) in
          no_string_is_field key field
          (one_record versions j.0 (Str key) (Field key field) string.0 w
          (subst (λ (n : ℕ). IsLive versions n (Str key) string.0) same i.2) j.2));
    }
  where
    only_none : {X : Type 0} (o : Option X) → ((x : X) → o ≡ Some x → ⊥) → o ≡ None
    only_none None other = refl
    only_none (Some x) other = absurd (other x refl)

    no_string_is_field : (key field : List ℕ) → Str key ≡ Field key field → ⊥
    no_string_is_field key field same = cc
