-- Versions that were moved to other places leave the keyspace, and contents that obey the rules obey them.
use Rattle.std.proofs.Common.{◌≡◌, ℕ, ◌+◌, ◌<◌, ◌≤◌, Bool, true, false, cond, not, ◌==◌, ◌||◌, List, [], ◌∷◌, ◌++◌, length, ◌⊎◌, inl, inr, Option, None, Some, is_some, map, refl, sym, ap, subst, ◌∙◌, arith, append-nil}
use Rattle.std.specs.Prelude.{nat_lt}
use Rattle.std.specs.List.{AllByRecursion}
use Rattle.std.proofs.lemmas.Bool.{and_parts, both_ways, cases_Bool, cases_lt, cond-false, eqb-true, ltb-true, not-true, or_cases}
use Rattle.kv_types.specs.declared.change.Change.TheVariants as change
use Rattle.kv_types.specs.declared.record_id.RecordId.{RecordId}
use Rattle.kv_types.specs.declared.record_id.RecordId.TheVariants.{Str, Field}
use Rattle.kv_types.specs.Keyspace.{Keyspace, IsKeyspace, play, play_all, value_at}
use Rattle.kv_types.proofs.LookUpLemmas.{is_same, is_same_at}
use Rattle.kv_types.proofs.OrderLemmas.{field_is_no_string, same_key, same_record}
use Rattle.kv_types.proofs.PlayLemmas.{is_keyspace-play, same_keyspace}
use Rattle.pmem.specs.Device.{State}
use Rattle.pmem.specs.Crash.{image_of}
use Rattle.model.specs.declared.group.Part.{Part}
use Rattle.model.specs.declared.group.PlacedChange.{PlacedChange}
use Rattle.model.specs.declared.group.Put.{Put}
use Rattle.model.specs.declared.record.Record.{Record}
use Rattle.model.specs.Group.{AreAllApart, Contents, HasItsLines, IsApartFrom, IsConsistent, IsPlaced, IsUnused, NamesEnded, Versions, change_of, ends_record, entries_of, is_put_at, part_versions, parts_versions, puts_of_part}
use Rattle.model.specs.Image.{IsLive, IsMapOf, counts, entries_of_lines, entry_word, map_below}
use Rattle.model.proofs.GroupsLemmas.{IsMapOf-changes, changes_versions-none, parts_versions-none, AreAllApart-prefix, AreAllApart-rest}
use Rattle.model.proofs.MapLemmas.{IsMapOf-same}
use Rattle.model.proofs.VersionsLemmas.{HasRoom, value_at-put, without_ended}
use Rattle.model.proofs.DirectoryLemmas.{entries_same}
use Rattle.wbl_engine.specs.AtRest.{contents_of}
use Rattle.wbl_engine.specs.Contents.{Same}
use Rattle.wbl_engine.specs.Lawful.{AreLawful}
use Rattle.wbl_engine.specs.Relocating.{AreMadeAgain, ExhaustsRelocation, IsRelocation, KeepsKeyspace, MakesAgain, after_relocation, relocated_record}
use Rattle.wbl_engine.specs.Stage.{puts_of_parts}
use Rattle.wbl_engine.proofs.ApartLemmas.{IsFresh, parts_apart}
use Rattle.wbl_engine.proofs.ClashLemmas.{AreDistinct, distinct_keyspace, distinct_map, parts_distinct}
use Rattle.wbl_engine.proofs.CountLemmas.{counts-above}
use Rattle.wbl_engine.proofs.Erased.{versions-beyond, versions-within}
use Rattle.wbl_engine.proofs.GroupSteps.{all-from, apart-across, flip_apart}
use Rattle.wbl_engine.proofs.LawfulLemmas.{below_limit, lawful_distinct, some_version}
use Rattle.wbl_engine.proofs.PartEffects.{IsAmong, apart-is_put_at, is_put_at-among}
use Rattle.wbl_engine.proofs.PutPairs.{among-all}
use Rattle.wbl_engine.proofs.StagingLemmas.{all-back, all-prefix}
use Rattle.wbl_engine.proofs.SuccessorLemmas.{lawful_later}
use Rattle.std.proofs.lemmas.Option.{none-some}

-- ---- a keyspace in which a record is written again

none_if : {X : Type 0} (o : Option X) → ((x : X) → o ≡ Some x → ⊥) → o ≡ None
none_if None other = refl
none_if (Some x) other = absurd (other x refl)

-- a put takes away nothing but its own record
pub no_other : (s : Keyspace) → IsKeyspace s → (id : RecordId) (value : List ℕ) → value_at s id ≡ Some value → (q : RecordId)
    → ends_record (change.Put id value) q ≡ true → is_same q id ≡ false → value_at s q ≡ None
no_other s lawful (Str key) value found (Str a) ends other =
    absurd (both_ways (is_same (Str a) (Str key)) other (is_same_at (Str a) (Str key) (ap Str (same_key a key ends))))
no_other s lawful (Str key) value found (Field a f) ends other =
    ap (λ (k : List ℕ). value_at s (Field k f)) (same_key a key ends) ∙ lawful.one_kind key f (ap is_some found)
no_other s lawful (Field key field) value found (Str a) ends other =
    elim (or_cases (is_same (Str a) (Field key field)) (is_same (Str a) (Str key)) ends) [
      | inl same ↦ absurd (both_ways (is_same (Str a) (Field key field)) other same)
      | inr string ↦
          ap (value_at s) (same_record (Str a) (Str key) string)
          ∙ none_if (value_at s (Str key)) (λ x is. none-some _ (sym (lawful.one_kind key field (ap is_some is)) ∙ found))
    ]
no_other s lawful (Field key field) value found (Field a f) ends other =
    elim (or_cases (is_same (Field a f) (Field key field)) (is_same (Field a f) (Str key)) ends) [
      | inl same ↦ absurd (both_ways (is_same (Field a f) (Field key field)) other same)
      | inr string ↦ absurd (both_ways (is_same (Field a f) (Str key)) (field_is_no_string a f key) string)
    ]

found_again : (s : Keyspace) → IsKeyspace s → (id : RecordId) (value : List ℕ) → value_at s id ≡ Some value → (q : RecordId)
    → value_at (play s (change.Put id value)) q ≡ value_at s q
found_again s lawful id value found q =
    value_at-put s id value q
    ∙ (elim (cases_Bool (is_same q id)) [
      | inl same ↦
          ap (λ (b : Bool). cond b (Some value) (without_ended (change.Put id value) s q)) same ∙ sym found
          ∙ ap (value_at s) (sym (same_record q id same))
      | inr other ↦
          ap (λ (b : Bool). cond b (Some value) (without_ended (change.Put id value) s q)) other
          ∙ (elim (cases_Bool (ends_record (change.Put id value) q)) [
            | inl ends ↦
                ap (λ (b : Bool). cond b None (value_at s q)) ends ∙ sym (no_other s lawful id value found q ends other)
            | inr spares ↦ ap (λ (b : Bool). cond b None (value_at s q)) spares
          ])
    ])

-- a record that is written again with its value changes nothing
play_again : (s : Keyspace) → IsKeyspace s → (id : RecordId) (value : List ℕ) → value_at s id ≡ Some value → play s (change.Put id value) ≡ s
play_again s lawful id value found =
    same_keyspace (play s (change.Put id value)) s (is_keyspace-play s (change.Put id value) lawful) lawful (found_again s lawful id value found)

-- ---- the contents of an engine

-- no free entry of it has a version
pub contents_consistent : (r : Record) (d : State) → IsConsistent (contents_of r d)
contents_consistent r d =
    record {
      free = λ i is.
          let begin : ℕ = image_of d.words (entry_word i 0) in
          let both = and_parts (nat_lt i (entries_of_lines r.layout d.lines)) (begin == 0 || nat_lt r.cp begin) is in
          versions-within r d i (ltb-true i (entries_of_lines r.layout d.lines) both.0)
          ∙ cond-false (counts r begin) _ _ (uncounted begin (or_cases (begin == 0) (nat_lt r.cp begin) both.1));
      beyond = versions-beyond r d;
    }
  where
    uncounted : (begin : ℕ) → ((begin == 0) ≡ true) ⊎ (nat_lt r.cp begin ≡ true) → counts r begin ≡ false
    uncounted begin (inl none) = ap (counts r) (eqb-true begin 0 none)
    uncounted begin (inr above) = counts-above r begin (ltb-true r.cp begin above)

-- ---- one version that was moved

-- no entry from this one on has a version
abbrev pub NoneFrom : ℕ → Versions → Type 0
NoneFrom entries versions = (i : ℕ) → entries ≤ i → versions i ≡ None

-- none of the puts is at such an entry
not_from : (versions : Versions) (entries : ℕ) (puts : List Put) → AllByRecursion (HasRoom versions entries) puts → (i : ℕ) → entries ≤ i
    → is_put_at i puts ≡ false
not_from versions entries puts rooms i from =
    elim (cases_Bool (is_put_at i puts)) [
      | inl there ↦
          let at = is_put_at-among i puts there in
          absurd (omega (arith, from, at.2, (among-all (HasRoom versions entries) puts at.0 at.1 rooms).within))
      | inr none ↦ none
    ]

module _ (entries : ℕ) (versions : Versions) (part : Part) (beyond : NoneFrom entries versions) (same : MakesAgain versions part) where
  -- it lies in the directory
  moved_within : same.entry < entries
  moved_within =
      elim (cases_lt same.entry entries) [
        | inl within ↦ within
        | inr over ↦ absurd (none-some _ (sym (beyond same.entry over) ∙ same.held))
      ]

  moved_live : IsLive versions same.entry same.put.id same.put.value
  moved_live =
      record {
        version = same.version;
        begun = same.held;
        not_ended = same.live;
        id_is = same.id_is;
        value_is = same.value_is;
      }

  part_map : AllByRecursion (HasRoom versions entries) (puts_of_part part) → AreAllApart (puts_of_part part)
      → (s : Keyspace) → IsKeyspace s → IsMapOf versions entries s → IsMapOf (part_versions versions part) entries s
  part_map rooms apart s lawful map_is =
      let put : Put = same.put in
      let found = map_is.found same.entry put.id put.value moved_within moved_live in
      let again : play_all s (map change_of part.changes.items) ≡ s =
      ap (λ (changes : List PlacedChange). play_all s (map change_of changes)) same.changes ∙ play_again s lawful put.id put.value found in
      subst (λ (t : Keyspace). IsMapOf (part_versions versions part) entries t) again
      (IsMapOf-changes part.position versions entries s part.changes.items rooms apart map_is)

-- ---- one after another

-- an entry of a later put is none of this part
beside : (first later : List Put) → AreAllApart (first ++ later) → (put : Put) → IsAmong put later → is_put_at put.entry.0 first ≡ false
beside first later apart put among =
    apart-is_put_at put first
    (all-from (IsApartFrom put) first
    (λ other there.
    let away = apart-across first later apart other put there among in
    record {
      entries = λ is. away.entries (sym is);
      lines = flip_apart other.extent.first_line other.extent.lines put.extent.first_line put.extent.lines away.lines;
    }))

parts_map : (position entries : ℕ) (parts : List Part) (versions : Versions) → NoneFrom entries versions → AreMadeAgain position versions parts
    → AllByRecursion (HasRoom versions entries) (puts_of_parts parts) → AreAllApart (puts_of_parts parts)
    → (s : Keyspace) → IsKeyspace s → IsMapOf versions entries s → IsMapOf (parts_versions versions parts) entries s
parts_map position entries [] versions beyond each rooms apart s lawful map_is = map_is
parts_map position entries (part ∷ parts) versions beyond each rooms apart s lawful map_is =
    let first : List Put = puts_of_part part in
    let later : List Put = puts_of_parts parts in
    let own : AllByRecursion (HasRoom versions entries) first = all-prefix (HasRoom versions entries) first later rooms in
    parts_map position entries parts (part_versions versions part)
    (λ i over. changes_versions-none part.position versions part.changes.items i (beyond i over) (not_from versions entries first own i over))
    each.3
    (all-from (HasRoom (part_versions versions part) entries) later
    (λ put among.
    let room = among-all (HasRoom versions entries) later put among (all-back (HasRoom versions entries) first later rooms) in
    record {
      within = room.within;
      empty = changes_versions-none part.position versions part.changes.items put.entry.0 room.empty (beside first later apart put among);
    }))
    (AreAllApart-rest first later apart) s lawful
    (part_map entries versions part beyond each.1 own (AreAllApart-prefix first later apart) s lawful map_is)

module _ {contents : Contents} {parts : List Part} (consistent : IsConsistent contents) (asked : IsRelocation contents parts) where
  rooms : AllByRecursion (HasRoom contents.versions (entries_of contents)) (puts_of_parts parts)
  rooms =
      all-from (HasRoom contents.versions (entries_of contents)) (puts_of_parts parts)
      (λ put among.
      record {
        within = (among-all (IsPlaced (entries_of contents) contents.lines) (puts_of_parts parts) put among asked.placed).entry;
        empty = consistent.free put.entry.0
            (among-all (IsUnused contents.versions contents.is_free) (puts_of_parts parts) put among asked.unused).entry;
      })

  pub relocated_map : KeepsKeyspace contents (after_relocation contents parts)
  relocated_map s lawful map_is =
      parts_map contents.current.position (entries_of contents) parts contents.versions consistent.beyond asked.each rooms asked.apart s lawful map_is

  -- what the device holds then
  pub relocated_keeps : (new : Contents) → Same (after_relocation contents parts) new → KeepsKeyspace contents new
  relocated_keeps new same s lawful map_is =
      subst (λ (n : ℕ). IsMapOf new.versions n s) (sym (entries_same contents new (ap (λ (r : Record). r.layout) same.current) same.lines))
      (IsMapOf-same (parts_versions contents.versions parts) new.versions (entries_of contents) s (λ i within. sym (same.versions i))
      (relocated_map s lawful map_is))

  pub relocated_consistent : IsConsistent (after_relocation contents parts)
  relocated_consistent =
      record {
        free = λ i is.
            let both = and_parts (contents.is_free i) (not (is_put_at i (puts_of_parts parts))) is in
            parts_versions-none contents.versions parts i (consistent.free i both.0) (not-true (is_put_at i (puts_of_parts parts)) both.1);
        beyond = λ i over.
            parts_versions-none contents.versions parts i (consistent.beyond i over)
            (not_from contents.versions (entries_of contents) (puts_of_parts parts) rooms i over);
      }

-- contents without versions have none to move
nothing_moves : (contents : Contents) (parts : List Part) → IsRelocation contents parts → ((i : ℕ) → contents.versions i ≡ None) → ⊥
nothing_moves contents [] asked none = omega (arith, asked.some)
nothing_moves contents (part ∷ parts) asked none =
    let again : MakesAgain contents.versions part = asked.each.1 in
    some_version again.version (sym (none again.entry) ∙ again.held)

pub relocated_lawful : (contents : Contents) (parts : List Part) → AreLawful contents → IsRelocation contents parts
    → (ExhaustsRelocation (length parts) contents.current → ⊥) → AreLawful (after_relocation contents parts)
relocated_lawful contents parts are asked room =
    let entries : ℕ = entries_of contents in
    let versions : Versions = parts_versions contents.versions parts in
    let r : Record = contents.current in
    let distinct : AreDistinct versions entries = parts_distinct parts contents.versions entries (lawful_distinct contents are) in
    record {
      many = are.many;
      few = are.few;
      current = lawful_later r (relocated_record (length parts) r) are.current
          (record {
            number = below_limit (r.number + 1) (λ reached. room (inr reached));
            position = are.current.position;
            room = below_limit (relocated_record (length parts) r).cd (λ reached. room (inl reached));
            epoch = are.current.epoch;
          })
          refl refl (omega arith) (omega arith) refl refl are.current.newcomer;
      apart = parts_apart parts contents.versions are.apart
          (all-from (IsFresh contents.versions) (puts_of_parts parts)
          (λ put among. (among-all (IsUnused contents.versions contents.is_free) (puts_of_parts parts) put among asked.unused).lines))
          asked.apart;
      keyspace = map_below versions entries;
      lawful = distinct_keyspace versions entries distinct;
      map = distinct_map versions entries distinct;
      uncopied = λ newcomer. absurd (nothing_moves contents parts asked (are.uncopied newcomer));
    }

-- ---- one part alone

-- the part that moves a version, by itself
pub relocates_one : (contents : Contents) (part : Part) → part.position ≤ contents.current.position → MakesAgain contents.versions part
    → NamesEnded contents.versions part → AllByRecursion (IsPlaced (entries_of contents) contents.lines) (puts_of_part part)
    → AllByRecursion HasItsLines (puts_of_part part) → AllByRecursion (IsUnused contents.versions contents.is_free) (puts_of_part part)
    → AreAllApart (puts_of_part part) → IsRelocation contents (part ∷ [])
relocates_one contents part position same names placed fitting unused apart =
    let is : puts_of_part part ≡ puts_of_parts (part ∷ []) = sym (append-nil (puts_of_part part)) in
    record {
      some = omega arith;
      few = omega arith;
      each = (position, same, names, tt);
      placed = subst (AllByRecursion (IsPlaced (entries_of contents) contents.lines)) is placed;
      fitting = subst (AllByRecursion HasItsLines) is fitting;
      unused = subst (AllByRecursion (IsUnused contents.versions contents.is_free)) is unused;
      apart = subst AreAllApart is apart;
    }
