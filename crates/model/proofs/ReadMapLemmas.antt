-- The map of an image, read entry by entry.
use Rattle.std.proofs.Common.{◌≡◌, ℕ, suc, ◌+◌, ◌<◌, ◌≤◌, Bool, true, false, cond, ◌||◌, inl, inr, ⊎_elim, List, [], ◌∷◌, IsTrue, IsSome, Option, Some, None, is_some, refl, sym, ap, subst, ◌∙◌, arith, add-one}
use Rattle.std.proofs.lemmas.Bool.{cases_lt, and_parts, or_parts}
use Rattle.std.specs.List.{list_any}
use Rattle.kv_types.specs.declared.record_id.RecordId.{RecordId}
use Rattle.kv_types.specs.declared.record_id.RecordId.TheVariants.{Str, Field}
use Rattle.kv_types.specs.declared.change.Change.TheVariants as change
use Rattle.kv_types.specs.Keyspace.{Keyspace, IsKeyspace, key_of, value_at, with_record, without_record, without_key, play}
use Rattle.kv_types.proofs.OrderLemmas.{same_record, record_itself, same_key, key_itself, same_strings, field_is_no_string}
use Rattle.kv_types.proofs.LookUpLemmas.{is_same, is_same_key}
use Rattle.model.specs.declared.record.Record.{Record}
use Rattle.model.specs.Image.{Image, HasSuperblock, Version, IsLive, IsMapOf, version_in, version_at, with_version, entries_of_lines, counts, entry_word}
use Rattle.model.specs.ReadImage.{image_of, line_count, record_in, is_clash, IsRecordOf, HasMap, IsWhole, AddsEntry, CannotAdd}
use Rattle.model.proofs.MapLemmas.{OnceBelow, more_version}
use Rattle.model.proofs.RecordLemmas.{HasRecord-unique}

-- ---- clashes

clash_itself : (id : RecordId) → is_clash id id ≡ true
clash_itself (Str key) = grind (arith, key_itself key)
clash_itself (Field key field) = grind (arith, key_itself key, record_itself (Field key field))

clash_with_string : (other : RecordId) (key : List ℕ) → is_clash other (Str key) ≡ is_same_key (key_of other) key
clash_with_string other key = grind arith

-- whether some record of the keyspace clashes with this one
abbrev clashes : Keyspace → RecordId → Bool
clashes s id = list_any (λ (entry : RecordId × List ℕ). is_clash entry.0 id) s

-- where none clashes, the record is not there
pub value_at-no_clash : (s : Keyspace) (id : RecordId) → clashes s id ≡ false → value_at s id ≡ None
value_at-no_clash [] id none = refl
value_at-no_clash (entry ∷ s) id none = grind (arith, or_parts, same_record id entry.0, clash_itself id, value_at-no_clash s id)

without_key-no_clash : (s : Keyspace) (key : List ℕ) → clashes s (Str key) ≡ false → without_key key s ≡ s
without_key-no_clash [] key none = refl
without_key-no_clash (entry ∷ s) key none = grind (arith, or_parts, clash_with_string entry.0 key, without_key-no_clash s key)

no_string : (other : RecordId) (key field : List ℕ) → is_clash other (Field key field) ≡ false → is_same other (Str key) ≡ false
no_string other key field none = grind (arith, same_strings, field_is_no_string)

without_record-no_clash : (s : Keyspace) (key field : List ℕ) → clashes s (Field key field) ≡ false → without_record (Str key) s ≡ s
without_record-no_clash [] key field none = refl
without_record-no_clash (entry ∷ s) key field none = grind (arith, or_parts, no_string entry.0 key field, without_record-no_clash s key field)

-- and writing it leaves all others
pub play-no_clash : (s : Keyspace) (id : RecordId) (value : List ℕ) → clashes s id ≡ false → play s (change.Put id value) ≡ with_record id value s
play-no_clash s (Str key) value none = ap (with_record (Str key) value) (without_key-no_clash s key none)
play-no_clash s (Field key field) value none = ap (with_record (Field key field) value) (without_record-no_clash s key field none)

-- where one clashes, it is there
pub clash_found : (s : Keyspace) (id : RecordId) → clashes s id ≡ true → (other : RecordId) × IsTrue (is_clash other id) × IsSome (value_at s other)
clash_found [] id e = cc
clash_found (entry ∷ s) id e =
    elim (is_clash entry.0 id) as (λ b. is_clash entry.0 id ≡ b → (b || clashes s id) ≡ true → (other : RecordId) × IsTrue (is_clash other id) × IsSome (value_at (entry ∷ s) other)) [
      | true ↦ λ clash h. (entry.0, clash, let P : Bool → Type 0 = λ b. IsSome (cond b (Some entry.1) (value_at s entry.0)) in subst P (sym (record_itself entry.0)) refl)
      | false ↦ λ clash h.
          let found = clash_found s id h in
          (found.0, found.1, elim (is_same found.0 entry.0) as (λ b. IsSome (cond b (Some entry.1) (value_at s found.0))) [ true ↦ refl | false ↦ found.2 ])
    ] refl e

some_is : {X : Type 0} (o : Option X) → IsSome o → (x : X) × (o ≡ Some x)
some_is None e = cc
some_is (Some x) e = (x, refl)

-- records of one keyspace that clash are the same
clash_apart : (t : Keyspace) → IsKeyspace t → (other id : RecordId) (v w : List ℕ) → value_at t other ≡ Some v → value_at t id ≡ Some w → is_clash other id ≡ true → other ≡ id
clash_apart t lawful (Str a) (Str b) v w there here clash = ap Str (same_key a b (and_parts (is_same_key a b) _ clash).0)
clash_apart t lawful (Str a) (Field b g) v w there here clash =
    let same = same_key a b (and_parts (is_same_key a b) _ clash).0 in
    let none = lawful.one_kind a g (ap is_some there) in
    let found : value_at t (Field a g) ≡ Some w = ap (λ k. value_at t (Field k g)) same ∙ here in
    cc
clash_apart t lawful (Field a f) (Str b) v w there here clash =
    let same = same_key a b (and_parts (is_same_key a b) _ clash).0 in
    let none = lawful.one_kind b f (ap is_some here) in
    let found : value_at t (Field b f) ≡ Some v = ap (λ k. value_at t (Field k f)) (sym same) ∙ there in
    cc
clash_apart t lawful (Field a f) (Field b g) v w there here clash = let test = (and_parts (is_same_key a b) _ clash).1 in same_record (Field a f) (Field b g) (grind (arith, test))

-- ---- one entry

begun_at : (r : Record) (image : Image) (i : ℕ) → counts r (image (entry_word i 0)) ≡ true → version_at r image i ≡ Some (version_in r image i)
begun_at r image i begun = ap (λ b. cond b (Some (version_in r image i)) None) begun

-- an entry that is live, whose record clashes with none, is added by a put
pub AddsEntry-put : (r : Record) (image : Image) (i : ℕ) (s new : Keyspace) (id : RecordId) (value : List ℕ) → counts r (image (entry_word i 0)) ≡ true → counts r (image (entry_word i 1)) ≡ false
    → id ≡ (record_in image i).0 → value ≡ (record_in image i).1 → clashes s id ≡ false → new ≡ play s (change.Put id value) → AddsEntry (version_at r image) i s new
AddsEntry-put r image i s new id value begun going id_is value_is none played =
    let version = version_in r image i in
    let live : with_version (Some version) s ≡ with_record version.id version.value s = ap (λ b. cond b s (with_record version.id version.value s)) going in
    record {
      added = played ∙ play-no_clash s id value none ∙ ap (λ q. with_record q value s) id_is ∙ ap (λ v. with_record version.id v s) value_is ∙ sym live ∙ ap (λ entry. with_version entry s) (sym (begun_at r image i begun));
      fresh = λ other is not_ended.
          let some : Some version ≡ Some other = sym (begun_at r image i begun) ∙ is in
          let same : version ≡ other = cc in
          ap (value_at s) (ap (λ (v : Version). v.id) (sym same) ∙ sym id_is) ∙ value_at-no_clash s id none;
    }

pub CannotAdd-clash : (lines : ℕ) (r : Record) (image : Image) (i : ℕ) (s : Keyspace) (id : RecordId) → counts r (image (entry_word i 0)) ≡ true → counts r (image (entry_word i 1)) ≡ false → id ≡ (record_in image i).0
    → clashes s id ≡ true → CannotAdd lines r image i s
CannotAdd-clash lines r image i s id begun going id_is clash =
    let found = clash_found s id clash in
    inr (record { version = version_in r image i; begun = begun_at r image i begun; not_ended = going; other = found.0; clash = ap (is_clash found.0) (sym id_is) ∙ found.1; there = found.2 })

-- ---- the map

below_or_last : (versions : ℕ → Option Version) (n : ℕ) (old : Keyspace) → ((version : Version) → versions n ≡ Some version → version.is_ended ≡ false → value_at old version.id ≡ None) → IsMapOf versions n old → OnceBelow versions (suc n)
below_or_last versions n old fresh map i j id v w lt lt' a b =
    let absent : (value : List ℕ) → IsLive versions n id value → value_at old id ≡ None = λ value live. ap (value_at old) (sym live.id_is) ∙ fresh live.version live.begun live.not_ended in
    ⊎_elim
    (λ (below : i < n). ⊎_elim
    (λ (below' : j < n). map.once i j id v w below below' a b)
    (λ (above' : n ≤ j). let last : j ≡ n = omega arith in let found = map.found i id v below a in let gone = absent w (subst (λ k. IsLive versions k id w) last b) in cc)
    (cases_lt j n))
    (λ (above : n ≤ i). let first : i ≡ n = omega arith in ⊎_elim
    (λ (below' : j < n). let found = map.found j id w below' b in let gone = absent v (subst (λ k. IsLive versions k id v) first a) in cc)
    (λ (above' : n ≤ j). omega arith)
    (cases_lt j n))
    (cases_lt i n)

-- one more entry
pub IsMapOf-added : (versions : ℕ → Option Version) (n : ℕ) (old new : Keyspace) → AddsEntry versions n old new → IsMapOf versions n old → IsMapOf versions (n + 1) new
IsMapOf-added versions n old new adds map =
    let more = more_version versions n old (versions n) refl (below_or_last versions n old adds.fresh map) map in
    rw add-one (subst (IsMapOf versions (suc n)) (sym adds.added) more)

-- where an entry cannot be added, the image has no map
pub no_map : (lines : ℕ) (r : Record) (image : Image) (i : ℕ) (s : Keyspace) → i < entries_of_lines r.layout lines → IsMapOf (version_at r image) i s → CannotAdd lines r image i s → HasMap lines r image → ⊥
no_map lines r image i s lt map (inl bad) has = bad.1 (has.in_format i lt bad.0)
no_map lines r image i s lt map (inr clash) has =
    let other = some_is (value_at s clash.other) clash.there in
    let held = map.held clash.other other.0 other.1 in
    let own : IsLive (version_at r image) i clash.version.id clash.version.value = record { version = clash.version; begun = clash.begun; not_ended = clash.not_ended; id_is = refl; value_is = refl } in
    let below : held.0 < entries_of_lines r.layout lines = omega (arith, held.1) in
    let there = has.map.found held.0 clash.other other.0 below held.2 in
    let here = has.map.found i clash.version.id clash.version.value lt own in
    let same = clash_apart has.keyspace has.lawful clash.other clash.version.id other.0 clash.version.value there here clash.clash in
    let twice = has.map.once held.0 i clash.version.id other.0 clash.version.value below lt (subst (λ id. IsLive (version_at r image) held.0 id other.0) same held.2) own in
    let apart = held.1 in
    omega arith

IsRecordOf-unique : (lines : ℕ) (image : Image) (a b : Record) → IsRecordOf lines image a → IsRecordOf lines image b → a ≡ b
IsRecordOf-unique lines image a b in_a in_b = HasRecord-unique lines image a b in_a.few in_a.version_is in_b.version_is in_a.has_record in_b.has_record

-- where the words have no superblock of the layout of their record, they are no whole image
pub no_superblock : (words : List ℕ) (r : Record) → IsRecordOf (line_count words) (image_of words) r
    → (HasSuperblock r.layout (line_count words) (image_of words) → ⊥) → IsWhole words → ⊥
no_superblock words r is none whole =
    let same : whole.current ≡ r = IsRecordOf-unique (line_count words) (image_of words) whole.current r whole.is_record is in
    none (subst (λ (current : Record). HasSuperblock current.layout (line_count words) (image_of words)) same whole.superblock)

-- where the entries have no map under the record that the image has, it is not whole
pub not_whole : (words : List ℕ) (r : Record) → IsRecordOf (line_count words) (image_of words) r → (HasMap (line_count words) r (image_of words) → ⊥) → IsWhole words → ⊥
not_whole words r is none whole =
    let same : whole.current ≡ r = IsRecordOf-unique (line_count words) (image_of words) whole.current r whole.is_record is in
    none (subst (λ current. HasMap (line_count words) current (image_of words)) same whole.has_map)
