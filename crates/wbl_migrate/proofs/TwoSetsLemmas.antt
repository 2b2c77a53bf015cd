-- The group of the tests may be committed, and what it ended may be moved then.
use Rattle.std.proofs.Common.{◌≡◌, ℕ, zero, suc, ◌<◌, Bool, true, false, not, ◌&&◌, ◌||◌, IsTrue, List, [], ◌∷◌, ◌++◌, inl, inr, None, Some, Contains, map, length, refl, sym, ap, subst, ◌∙◌, arith}
use Rattle.std.specs.Prelude.{nat_eq, ◌≢◌}
use Rattle.std.specs.List.{flat_map, AllByRecursion}
use Rattle.std.proofs.lemmas.Bool.{both_ways, cond-false, cond-true, eq-eqb}
use Rattle.kv_types.specs.declared.place.EntryNo.{EntryNo}
use Rattle.pmem.specs.Device.{State}
use Rattle.pmem.specs.Crash.{image_of}
use Rattle.pmem.proofs.Staging.{same_or_other, unequal}
use Rattle.model.specs.declared.group.Group.{Group}
use Rattle.model.specs.declared.group.Part.{Part}
use Rattle.model.specs.declared.group.PlacedChange.{PlacedChange}
use Rattle.model.specs.declared.group.PlacedChange.TheVariants as placed
use Rattle.model.specs.declared.group.Put.{Put}
use Rattle.model.specs.declared.layout.Layout.{Layout}
use Rattle.model.specs.declared.layout.Layout.TheVariants.{Version2}
use Rattle.model.specs.declared.record.Record.{Record}
use Rattle.model.specs.declared.record.TheConstants.{FIRST_EPOCH}
use Rattle.model.specs.declared.record.Role.TheVariants.{Primary}
use Rattle.model.specs.Floor.{floored}
use Rattle.model.specs.Group.{AreAllApart, AreApart, AreParts, Contents, HasItsLines, IsGroup, IsPlaced, IsUnused, Versions, after_group, change_of, changes_versions, ended_by, ended_where_begun, entries_of, is_ended_version, is_live_version, is_put_at, NamesEnded, part_versions, parts_versions, put_of, puts_of_group, puts_of_part, version_of_put}
use Rattle.model.specs.Image.{Version, entries_of_lines}
use Rattle.model.proofs.RecordLemmas.{HasRecord-lines, HasRecord-unique}
use Rattle.wbl_record.specs.Current.{IsCurrent}
use Rattle.wbl_record.proofs.Mixing.{image_of-is}
use Rattle.wbl_engine.specs.Contents.{IsDurable, IsNew, Same}
use Rattle.wbl_migrate.specs.Ended.{IsMoving}
use Rattle.wbl_migrate.specs.TwoSets.{IsTwoSets, first_set, second_set}

-- ---- the versions

abbrev first_change : ℕ → PlacedChange
first_change a = placed.Put (first_set a)

abbrev second_change : ℕ → PlacedChange
second_change b = placed.Put (second_set b)

-- the versions of the new image, and those after one part and after both
abbrev after_first : ℕ → Versions → Versions
after_first a versions = changes_versions 1 versions (first_change a ∷ [])

abbrev after_second : ℕ → ℕ → Versions → Versions
after_second a b versions = changes_versions 2 (after_first a versions) (second_change b ∷ [])

-- (wherever they are put)
abbrev pub ended_version : Version
ended_version = ended_by (change_of (second_change 1)) (version_of_put 1 (first_set 0))

abbrev live_version : Version
live_version = version_of_put 2 (second_set 1)

module _ {a b : ℕ} (differ : a ≢ b) {versions : Versions} (none : (i : ℕ) → versions i ≡ None) where
  first_here : (i : ℕ) → i ≡ a → after_first a versions i ≡ Some (version_of_put 1 (first_set a))
  first_here i here = cond-true (nat_eq i a) _ _ (eq-eqb i a here)

  first_else : (i : ℕ) → i ≢ a → after_first a versions i ≡ None
  first_else i other = cond-false (nat_eq i a) _ _ (unequal i a other) ∙ ap (ended_where_begun (change_of (first_change a))) (none i)

  second_ended : (i : ℕ) → i ≡ a → after_second a b versions i ≡ Some ended_version
  second_ended i here =
      cond-false (nat_eq i b) _ _ (unequal i b (λ there. differ (sym here ∙ there)))
      ∙ ap (ended_where_begun (change_of (second_change b))) (first_here i here)

  second_live : (i : ℕ) → i ≡ b → after_second a b versions i ≡ Some live_version
  second_live i here = cond-true (nat_eq i b) _ _ (eq-eqb i b here)

  second_else : (i : ℕ) → i ≢ a → i ≢ b → after_second a b versions i ≡ None
  second_else i first second =
      cond-false (nat_eq i b) _ _ (unequal i b second) ∙ ap (ended_where_begun (change_of (second_change b))) (first_else i first)

  -- the first part ends nothing
  first_none : (i : ℕ) → IsTrue (is_ended_version (after_first a versions i)) → ⊥
  first_none i ended =
      elim (same_or_other i a) [
        | inl here ↦ both_ways (is_ended_version (after_first a versions i)) (ap is_ended_version (first_here i here)) ended
        | inr other ↦ both_ways (is_ended_version (after_first a versions i)) (ap is_ended_version (first_else i other)) ended
      ]

  -- the second one ends what the first made
  second_one : (i : ℕ) → IsTrue (is_ended_version (after_second a b versions i)) → i ≡ a
  second_one i ended =
      elim (same_or_other i a) [
        | inl here ↦ here
        | inr first ↦
            elim (same_or_other i b) [
              | inl here ↦ absurd (both_ways (is_ended_version (after_second a b versions i)) (ap is_ended_version (second_live i here)) ended)
              | inr second ↦ absurd (both_ways (is_ended_version (after_second a b versions i)) (ap is_ended_version (second_else i first second)) ended)
            ]
      ]

-- what a part names, from its fields
abbrev Names : Versions → ℕ → List PlacedChange → List EntryNo → Type 0
Names versions position changes ended =
    (i : ℕ) → (Contains (map (λ (entry : EntryNo). entry.0) ended) i
    → IsTrue (is_live_version (versions i) || is_put_at i (flat_map put_of changes)) × IsTrue (is_ended_version (changes_versions position versions changes i)))
    × (IsTrue (is_live_version (versions i) || is_put_at i (flat_map put_of changes)) × IsTrue (is_ended_version (changes_versions position versions changes i))
    → Contains (map (λ (entry : EntryNo). entry.0) ended) i)

or_left : (a b : Bool) → IsTrue a → IsTrue (a || b)
or_left true b is = refl
or_left false b is = absurd (both_ways false refl is)

module _ {a b : ℕ} (differ : a ≢ b) (versions : Versions) (none : (i : ℕ) → versions i ≡ None) where
  first_names : Names versions 1 (first_change a ∷ []) []
  first_names i = (λ named. absurd (let at = named in omega (arith, at.1)), λ ended. absurd (first_none differ none i ended.1))

  second_names : Names (after_first a versions) 2 (second_change b ∷ []) (record { 0 = a } ∷ [])
  second_names i = (there, back)
    where
      there : Contains (a ∷ []) i
          → IsTrue (is_live_version (after_first a versions i) || is_put_at i (second_set b ∷ [])) × IsTrue (is_ended_version (after_second a b versions i))
      there (zero, below, is) = (
        or_left (is_live_version (after_first a versions i)) (is_put_at i (second_set b ∷ [])) (ap is_live_version (first_here differ none i (sym is))),
        ap is_ended_version (second_ended differ none i (sym is)),
      )
      there (suc k, below, is) = absurd (omega (arith, below))

      back : IsTrue (is_live_version (after_first a versions i) || is_put_at i (second_set b ∷ [])) × IsTrue (is_ended_version (after_second a b versions i))
          → Contains (a ∷ []) i
      back ended = (0, omega arith, sym (second_one differ none i ended.1))

-- ---- the group

named : (versions : Versions) (part : Part) (position : ℕ) (changes : List PlacedChange) (ended : List EntryNo) → part.position ≡ position
    → part.changes.items ≡ changes → part.ended.items ≡ ended → Names versions position changes ended → NamesEnded versions part
named versions part position changes ended is_position is_changes is_ended names =
    subst (λ (es : List EntryNo). Names versions part.position part.changes.items es) (sym is_ended)
    (subst (λ (cs : List PlacedChange). Names versions part.position cs ended) (sym is_changes)
    (subst (λ (n : ℕ). Names versions n changes ended) (sym is_position) names))

module _ {a b : ℕ} {old : Contents} {group : Group} (new : IsNew 4096 Primary FIRST_EPOCH old) (two : IsTwoSets a b group) where
  puts_are : puts_of_group group ≡ first_set a ∷ second_set b ∷ []
  puts_are =
      ap (flat_map puts_of_part) two.parts
      ∙ ap (λ (changes : List PlacedChange). flat_map put_of changes ++ (flat_map put_of two.second.changes.items ++ [])) two.first_changes
      ∙ ap (λ (changes : List PlacedChange). first_set a ∷ (flat_map put_of changes ++ [])) two.second_changes

  first_is : part_versions old.versions two.first ≡ after_first a old.versions
  first_is =
      ap (λ (position : ℕ). changes_versions position old.versions two.first.changes.items) two.first_position
      ∙ ap (changes_versions 1 old.versions) two.first_changes

  both_are : parts_versions old.versions group.parts.items ≡ after_second a b old.versions
  both_are =
      ap (parts_versions old.versions) two.parts
      ∙ ap (λ (versions : Versions). part_versions versions two.second) first_is
      ∙ ap (λ (position : ℕ). changes_versions position (after_first a old.versions) two.second.changes.items) two.second_position
      ∙ ap (changes_versions 2 (after_first a old.versions)) two.second_changes

  parts_are : a ≢ b → AreParts group.before old.versions group.parts.items
  parts_are differ =
      subst (AreParts group.before old.versions) (sym two.parts) (
        omega (arith, two.before, two.first_position),
        named old.versions two.first 1 (first_change a ∷ []) [] two.first_position two.first_changes two.first_ended
            (first_names differ old.versions new.versions),
        (
          omega (arith, two.first_position, two.second_position),
          subst (λ (versions : Versions). NamesEnded versions two.second) (sym first_is)
              (named (after_first a old.versions) two.second 2 (second_change b ∷ []) (record { 0 = a } ∷ []) two.second_position two.second_changes
              two.second_ended (second_names differ old.versions new.versions)),
          tt,
        ),
      )

  old_entries : entries_of old ≡ 494
  old_entries = ap (λ (layout : Layout). entries_of_lines layout old.lines) new.layout ∙ ap (entries_of_lines Version2) new.line_count

  unused : (put : Put) → put.entry.0 < 494 → IsUnused old.versions old.is_free put
  unused put low =
      record {
        entry = new.is_free put.entry.0 (omega (arith, low, old_entries));
        lines = λ i version is. let clash : None ≡ Some version = sym (new.versions i) ∙ is in absurd (cc);
      }

  pub two_sets_asked : a ≢ b → a < 494 → b < 494 → IsGroup old group
  two_sets_asked differ first_low second_low =
      record {
        epoch = inl (two.epoch ∙ sym new.epoch);
        before = two.before ∙ sym new.position;
        some = omega (arith, ap length two.parts);
        few = omega (arith, ap length two.parts);
        parts = parts_are differ;
        placed = subst (AllByRecursion (IsPlaced (entries_of old) old.lines)) (sym puts_are) (
          record { entry = omega (arith, old_entries, first_low); above = omega (arith, new.line_count); within = omega (arith, new.line_count) },
          (record { entry = omega (arith, old_entries, second_low); above = omega (arith, new.line_count); within = omega (arith, new.line_count) }, tt),
        );
        fitting = subst (AllByRecursion HasItsLines) (sym puts_are) (refl, (refl, tt));
        unused = subst (AllByRecursion (IsUnused old.versions old.is_free)) (sym puts_are)
            (unused (first_set a) first_low, (unused (second_set b) second_low, tt));
        apart = subst AreAllApart (sym puts_are) ((record { entries = λ same. differ same; lines = inl (omega arith) }, tt), (tt, tt));
      }

-- ---- the move

zero_one : ◌≢◌ {A = ℕ} 0 1
zero_one is = omega (arith, is)

module _ {old : Contents} {group : Group} (new : IsNew 4096 Primary FIRST_EPOCH old) (two : IsTwoSets 0 1 group) {held : Contents} {r : Record} (d : State)
    (same : Same (after_group (floored 0 old) group) held) (durable : IsDurable d held) (filled : held.lines ≡ d.lines)
    (current : IsCurrent d.lines (image_of d.words) r) where
  held_at : (i : ℕ) → held.versions i ≡ after_second 0 1 old.versions i
  held_at i = same.versions i ∙ ap (λ (versions : Versions). versions i) (both_are new two)

  lines_are : held.lines ≡ 4096
  lines_are = same.lines ∙ new.line_count

  held_entries : entries_of held ≡ 494
  held_entries =
      ap (λ (layout : Layout). entries_of_lines layout held.lines) (ap (λ (q : Record). q.layout) same.current ∙ new.layout)
      ∙ ap (entries_of_lines Version2) lines_are

  lines_apart : (i : ℕ) (version : Version) → held.versions i ≡ Some version → AreApart 600 1 version.first_line version.lines
  lines_apart i version is =
      elim (same_or_other i 0) [
        | inl here ↦
            let same_version : Some ended_version ≡ Some version = sym (second_ended zero_one new.versions i here) ∙ sym (held_at i) ∙ is in
            let one : ended_version ≡ version = cc in
            subst (λ (v : Version). AreApart 600 1 v.first_line v.lines) one (inr (omega arith))
        | inr zeroth ↦
            elim (same_or_other i 1) [
              | inl here ↦
                  let same_version : Some live_version ≡ Some version = sym (second_live zero_one new.versions i here) ∙ sym (held_at i) ∙ is in
                  let one : live_version ≡ version = cc in
                  subst (λ (v : Version). AreApart 600 1 v.first_line v.lines) one (inr (omega arith))
              | inr first ↦
                  let clash : None ≡ Some version = sym (second_else zero_one new.versions i zeroth first) ∙ sym (held_at i) ∙ is in absurd (cc)
            ]
      ]

  pub two_sets_moving : IsMoving r d held 0 5 600 ended_version
  two_sets_moving =
      record {
        current_is = let keeps = durable (image_of d.words) (image_of-is d.words) in
            sym (HasRecord-unique d.lines (image_of d.words) r held.current current.lawful.few current.version_is keeps.superblock.version current.has_record
            (HasRecord-lines filled keeps.has_record));
        lines_are = filled;
        durable = durable;
        movable = record {
          from_within = omega (arith, held_entries);
          held = held_at 0 ∙ second_ended zero_one new.versions 0 refl;
          ended = refl;
          placed = record { entry = omega (arith, held_entries); above = omega (arith, lines_are); within = omega (arith, lines_are) };
          unused = record {
            entry = same.is_free 5 ∙ ap (λ (puts : List Put). old.is_free 5 && not (is_put_at 5 puts)) (puts_are new two)
                ∙ ap (λ (b : Bool). b && true) (new.is_free 5 (omega (arith, old_entries new two)));
            lines = lines_apart;
          };
          empty = held_at 5 ∙ second_else zero_one new.versions 5 (λ e. omega (arith, e)) (λ e. omega (arith, e));
        };
      }

-- ---- the same device

pub new_at : {old : Contents} {d e : State} → d ≡ e → IsNew d.lines Primary FIRST_EPOCH old → IsNew e.lines Primary FIRST_EPOCH old
new_at {old} same new = subst (λ (d : State). IsNew d.lines Primary FIRST_EPOCH old) same new

pub moving_at : {held : Contents} {r : Record} {version : Version} {d e : State} → e ≡ d → IsMoving r d held 0 5 600 version
    → IsMoving r e held 0 5 600 version
moving_at {held} {r} {version} same moving = subst (λ (d : State). IsMoving r d held 0 5 600 version) (sym same) moving

pub current_at : {r : Record} {d e : State} → e ≡ d → IsCurrent e.lines (image_of e.words) r → IsCurrent d.lines (image_of d.words) r
current_at {r} same current = subst (λ (d : State). IsCurrent d.lines (image_of d.words) r) same current
