-- What freeing ended versions leaves of groups that wait.
use mathlib.Core.Path.{fun_ext}
use Rattle.std.proofs.Common.{rules, ◌≡◌, ℕ, Bool, true, false, cond, not, ◌||◌, ◌&&◌, IsTrue, List, [], ◌∷◌, ◌++◌, inl, inr, Option, None, Some, map, refl, sym, ap, subst, ◌∙◌}
use Rattle.std.specs.Prelude.{◌<◌, ◌↔◌, Contains, nat_eq}
use Rattle.std.specs.List.{AllByRecursion, flat_map}
use Rattle.std.proofs.lemmas.Bool.{cond-false, cases_Bool, or_cases, or_from, or_left, or_right, or_parts, both_ways, eqb-true, eq-eqb, ne_eqb}
use Rattle.std.proofs.lemmas.List.Folds.{list_any-append}
use Rattle.kv_types.specs.declared.change.Change.{Change}
use Rattle.kv_types.specs.declared.place.EntryNo.{EntryNo}
use Rattle.model.specs.declared.group.Group.{Group}
use Rattle.model.specs.declared.group.Part.{Part}
use Rattle.model.specs.declared.group.PlacedChange.{PlacedChange}
use Rattle.model.specs.declared.group.PlacedChange.TheVariants as placed
use Rattle.model.specs.declared.group.Put.{Put}
use Rattle.model.specs.Image.{Version}
use Rattle.model.specs.Group.{AreEnded, AreParts, Contents, IsConsistent, IsGroup, IsUnused, NamesEnded, Versions, after_group, change_of, change_versions, changes_versions, ended_where_begun, ends_record, is_ended_version, is_listed, is_live_version, is_put_at, part_versions, parts_versions, put_of, puts_of_group, puts_of_part, version_of_put}
use Rattle.model.proofs.DirectoryLemmas.{entries_same}
use Rattle.model.proofs.GroupsLemmas.{IsConsistent-after_group, is_put_at-append}
use Rattle.wbl_engine.specs.Freeing.{after_free, without}
use Rattle.wbl_engine.proofs.FreeingLemmas.{ended_within}
use Rattle.wbl_engine.proofs.WithoutLemmas.{AllEnded, versions_without, was_there}
use Rattle.wbl_engine.specs.CommittingAll.{AreGroups}
use Rattle.group_commit.specs.Group.{after_groups}

-- none of the puts is at one of these entries
abbrev pub NonePut : (ℕ → Bool) → List Put → Type 0
NonePut gone puts = (i : ℕ) → IsTrue (gone i) → is_put_at i puts ≡ false

NonePut-parts : (gone : ℕ → Bool) (a b : List Put) → NonePut gone (a ++ b) → NonePut gone a × NonePut gone b
NonePut-parts gone a b none =
    let parts : (i : ℕ) → IsTrue (gone i) → (is_put_at i a ≡ false) × (is_put_at i b ≡ false) =
    λ i is. or_parts (is_put_at i a) (is_put_at i b) (sym (is_put_at-append i a b) ∙ none i is) in
    (λ i is. (parts i is).0, λ i is. (parts i is).1)

-- ---- what has ended stays so, where nothing is put

ended_still : (change : Change) (old : Option Version) → IsTrue (is_ended_version old) → IsTrue (is_ended_version (ended_where_begun change old))
ended_still change None ended = ended
ended_still change (Some version) ended = or_left version.is_ended (ends_record change version.id) ended

ended_beside : (here : Bool) (made old : Option Version) → here ≡ false → IsTrue (is_ended_version old) → IsTrue (is_ended_version (cond here made old))
ended_beside true made old none ended = absurd (both_ways true none refl)
ended_beside false made old none ended = ended

AllEnded-change : (gone : ℕ → Bool) (position : ℕ) (versions : Versions) (change : PlacedChange) → AllEnded gone versions → NonePut gone (put_of change)
    → AllEnded gone (change_versions position versions change)
AllEnded-change gone position versions (placed.Put put) ended none i is =
    let change : Change = change_of (placed.Put put) in
    ended_beside (nat_eq i put.entry.0) (Some (version_of_put position put)) (ended_where_begun change (versions i))
    (or_parts (nat_eq i put.entry.0) false (none i is)).0 (ended_still change (versions i) (ended i is))
AllEnded-change gone position versions (placed.Drop id) ended none i is = ended_still (change_of (placed.Drop id)) (versions i) (ended i is)
AllEnded-change gone position versions (placed.DropKey key) ended none i is = ended_still (change_of (placed.DropKey key)) (versions i) (ended i is)
AllEnded-change gone position versions placed.Clear ended none i is = ended_still (change_of placed.Clear) (versions i) (ended i is)

AllEnded-changes : (gone : ℕ → Bool) (position : ℕ) (versions : Versions) (changes : List PlacedChange) → AllEnded gone versions
    → NonePut gone (flat_map put_of changes) → AllEnded gone (changes_versions position versions changes)
AllEnded-changes gone position versions [] ended none = ended
AllEnded-changes gone position versions (change ∷ changes) ended none =
    let puts = NonePut-parts gone (put_of change) (flat_map put_of changes) none in
    AllEnded-changes gone position (change_versions position versions change) changes (AllEnded-change gone position versions change ended puts.0) puts.1

pub AllEnded-part : (gone : ℕ → Bool) (versions : Versions) (part : Part) → AllEnded gone versions → NonePut gone (puts_of_part part)
    → AllEnded gone (part_versions versions part)
AllEnded-part gone versions part ended none = AllEnded-changes gone part.position versions part.changes.items ended none

pub AllEnded-parts : (gone : ℕ → Bool) (versions : Versions) (parts : List Part) → AllEnded gone versions → NonePut gone (flat_map puts_of_part parts)
    → AllEnded gone (parts_versions versions parts)
AllEnded-parts gone versions [] ended none = ended
AllEnded-parts gone versions (part ∷ parts) ended none =
    let puts = NonePut-parts gone (puts_of_part part) (flat_map puts_of_part parts) none in
    AllEnded-parts gone (part_versions versions part) parts (AllEnded-part gone versions part ended puts.0) puts.1

-- ---- the versions after a group, without those of some entries where it puts nothing

ended_without : (change : Change) (gone : Bool) (old : Option Version) → ended_where_begun change (cond gone None old) ≡ cond gone None (ended_where_begun change old)
ended_without change true old = refl
ended_without change false old = refl

put_without : (change : Change) (gone here : Bool) (made old : Option Version) → (gone ≡ true → here ≡ false)
    → cond here made (ended_where_begun change (cond gone None old)) ≡ cond gone None (cond here made (ended_where_begun change old))
put_without change true true made old none = absurd (both_ways true (none refl) refl)
put_without change true false made old none = refl
put_without change false here made old none = refl

change-without : (gone : ℕ → Bool) (position : ℕ) (versions : Versions) (change : PlacedChange) → NonePut gone (put_of change)
    → change_versions position (versions_without gone versions) change ≡ versions_without gone (change_versions position versions change)
change-without gone position versions (placed.Put put) none =
    fun_ext (λ i. put_without (change_of (placed.Put put)) (gone i) (nat_eq i put.entry.0) (Some (version_of_put position put)) (versions i)
    (λ is. (or_parts (nat_eq i put.entry.0) false (none i is)).0))
change-without gone position versions (placed.Drop id) none = fun_ext (λ i. ended_without (change_of (placed.Drop id)) (gone i) (versions i))
change-without gone position versions (placed.DropKey key) none = fun_ext (λ i. ended_without (change_of (placed.DropKey key)) (gone i) (versions i))
change-without gone position versions placed.Clear none = fun_ext (λ i. ended_without (change_of placed.Clear) (gone i) (versions i))

changes-without : (gone : ℕ → Bool) (position : ℕ) (versions : Versions) (changes : List PlacedChange) → NonePut gone (flat_map put_of changes)
    → changes_versions position (versions_without gone versions) changes ≡ versions_without gone (changes_versions position versions changes)
changes-without gone position versions [] none = refl
changes-without gone position versions (change ∷ changes) none =
    let puts = NonePut-parts gone (put_of change) (flat_map put_of changes) none in
    ap (λ (others : Versions). changes_versions position others changes) (change-without gone position versions change puts.0)
    ∙ changes-without gone position (change_versions position versions change) changes puts.1

pub part-without : (gone : ℕ → Bool) (versions : Versions) (part : Part) → NonePut gone (puts_of_part part)
    → part_versions (versions_without gone versions) part ≡ versions_without gone (part_versions versions part)
part-without gone versions part none = changes-without gone part.position versions part.changes.items none

pub parts-without : (gone : ℕ → Bool) (versions : Versions) (parts : List Part) → NonePut gone (flat_map puts_of_part parts)
    → parts_versions (versions_without gone versions) parts ≡ versions_without gone (parts_versions versions parts)
parts-without gone versions [] none = refl
parts-without gone versions (part ∷ parts) none =
    let puts = NonePut-parts gone (puts_of_part part) (flat_map puts_of_part parts) none in
    ap (λ (others : Versions). parts_versions others parts) (part-without gone versions part puts.0)
    ∙ parts-without gone (part_versions versions part) parts puts.1

-- ---- the parts of a group

not_live : (old : Option Version) → IsTrue (is_ended_version old) → is_live_version old ≡ false
not_live None ended = refl
not_live (Some version) ended = ap not ended

-- a part names no entry of a version that had ended before it
-- what a part names at one entry
names_at : (Named : Type 0) (gone put : Bool) (old new : Option Version) → (gone ≡ true → (is_live_version old ≡ false) × (put ≡ false))
    → Named ↔ (IsTrue (is_live_version old || put) × IsTrue (is_ended_version new))
    → Named ↔ (IsTrue (is_live_version (cond gone None old) || put) × IsTrue (is_ended_version (cond gone None new)))
names_at Named true put old new none was =
    let beside = none refl in (
      λ named. absurd (both_ways (is_live_version old || put) (or_from (is_live_version old) put beside.0 beside.1) (was.0 named).0),
      λ now. absurd (both_ways false refl now.1),
    )
names_at Named false put old new none was = was

pub NamesEnded-without : (gone : ℕ → Bool) (versions : Versions) (part : Part) → AllEnded gone versions → NonePut gone (puts_of_part part)
    → NamesEnded versions part → NamesEnded (versions_without gone versions) part
NamesEnded-without gone versions part ended none names i =
    let Named : Type 0 = Contains (map (λ (entry : EntryNo). entry.0) part.ended.items) i in
    let put : Bool = is_put_at i (puts_of_part part) in
    subst
    (λ (after : Versions).
    Named ↔ (IsTrue (is_live_version (versions_without gone versions i) || put) × IsTrue (is_ended_version (after i))))
    (sym (part-without gone versions part none))
    (names_at Named (gone i) put (versions i) (part_versions versions part i) (λ is. (not_live (versions i) (ended i is), none i is)) (names i))

pub AreParts-without : (gone : ℕ → Bool) (before : ℕ) (versions : Versions) (parts : List Part) → AllEnded gone versions
    → NonePut gone (flat_map puts_of_part parts) → AreParts before versions parts → AreParts before (versions_without gone versions) parts
AreParts-without gone before versions [] ended none are = tt
AreParts-without gone before versions (part ∷ parts) ended none are =
    let puts = NonePut-parts gone (puts_of_part part) (flat_map puts_of_part parts) none in (
      are.0,
      NamesEnded-without gone versions part ended puts.0 are.1,
      subst (λ (after : Versions). AreParts part.position after parts) (sym (part-without gone versions part puts.0))
          (AreParts-without gone part.position (part_versions versions part) parts (AllEnded-part gone versions part ended puts.0) puts.1 are.2),
    )

-- ---- groups after the versions of these entries were freed

-- the entry of an ended version is not free, so no put is there
pub NonePut-unused : (gone : ℕ → Bool) (contents : Contents) (puts : List Put) → IsConsistent contents → AllEnded gone contents.versions
    → AllByRecursion (IsUnused contents.versions contents.is_free) puts → NonePut gone puts
NonePut-unused gone contents [] consistent ended unused i is = refl
NonePut-unused gone contents (put ∷ puts) consistent ended unused i is =
    or_from (nat_eq i put.entry.0) (is_put_at i puts) (ne_eqb i put.entry.0 elsewhere)
    (NonePut-unused gone contents puts consistent ended unused.1 i is)
  where
    elsewhere : i ≡ put.entry.0 → ⊥
    elsewhere e =
        let none : contents.versions i ≡ None = ap contents.versions e ∙ consistent.free put.entry.0 unused.0.entry in
        both_ways false refl (sym (ap is_ended_version none) ∙ ended i is)

pub unused_without : (gone : ℕ → Bool) (contents : Contents) (puts : List Put) → AllByRecursion (IsUnused contents.versions contents.is_free) puts
    → AllByRecursion (IsUnused (without gone contents).versions (without gone contents).is_free) puts
unused_without gone contents [] unused = tt
unused_without gone contents (put ∷ puts) unused = (
  record {
    entry = or_left (contents.is_free put.entry.0) (gone put.entry.0) unused.0.entry;
    lines = λ i version is. unused.0.lines i version (was_there (gone i) (contents.versions i) version is);
  },
  unused_without gone contents puts unused.1,
)

pub IsGroup-without : (gone : ℕ → Bool) (contents : Contents) (group : Group) → IsConsistent contents → AllEnded gone contents.versions
    → IsGroup contents group → IsGroup (without gone contents) group
IsGroup-without gone contents group consistent ended is =
    let none : NonePut gone (puts_of_group group) = NonePut-unused gone contents (puts_of_group group) consistent ended is.unused in
    search (rules, AreParts-without gone group.before contents.versions group.parts.items ended none is.parts, unused_without gone contents (puts_of_group group) is.unused)

pub free_without : (free gone put : Bool) → (gone ≡ true → put ≡ false) → ((free || gone) && not put) ≡ ((free && not put) || gone)
free_without free true true none = absurd (both_ways true (none refl) refl)
free_without true true false none = refl
free_without false true false none = refl
free_without true false true none = refl
free_without true false false none = refl
free_without false false true none = refl
free_without false false false none = refl

-- it makes no difference whether they are freed before the group or after it
pub after_group-without : (gone : ℕ → Bool) (contents : Contents) (group : Group) → IsConsistent contents → AllEnded gone contents.versions
    → IsGroup contents group → after_group (without gone contents) group ≡ without gone (after_group contents group)
after_group-without gone contents group consistent ended is =
    let none : NonePut gone (puts_of_group group) = NonePut-unused gone contents (puts_of_group group) consistent ended is.unused in
    let after : Contents = after_group contents group in
    let with_versions : Versions → Contents = λ others. record (after_group (without gone contents) group) { versions = others } in
    let with_free : (ℕ → Bool) → Contents = λ free. record (without gone after) { is_free = free } in
    ap with_versions (parts-without gone contents.versions group.parts.items none)
    ∙ ap with_free (fun_ext (λ i. free_without (contents.is_free i) (gone i) (is_put_at i (puts_of_group group)) (none i)))

pub AllEnded-after_group : (gone : ℕ → Bool) (contents : Contents) (group : Group) → IsConsistent contents → AllEnded gone contents.versions
    → IsGroup contents group → AllEnded gone (after_group contents group).versions
AllEnded-after_group gone contents group consistent ended is =
    AllEnded-parts gone contents.versions group.parts.items ended
    (NonePut-unused gone contents (puts_of_group group) consistent ended is.unused)

pub after_groups-without : (gone : ℕ → Bool) (contents : Contents) (groups : List Group) → IsConsistent contents → AllEnded gone contents.versions
    → AreGroups contents groups → after_groups (without gone contents) groups ≡ without gone (after_groups contents groups)
after_groups-without gone contents [] consistent ended are = refl
after_groups-without gone contents (group ∷ groups) consistent ended are =
    ap (λ (after : Contents). after_groups after groups) (after_group-without gone contents group consistent ended are.0)
    ∙ after_groups-without gone (after_group contents group) groups (IsConsistent-after_group contents group consistent are.0)
    (AllEnded-after_group gone contents group consistent ended are.0) are.1

pub IsConsistent-after_groups : (contents : Contents) (groups : List Group) → IsConsistent contents → AreGroups contents groups
    → IsConsistent (after_groups contents groups)
IsConsistent-after_groups contents [] consistent are = consistent
IsConsistent-after_groups contents (group ∷ groups) consistent are =
    IsConsistent-after_groups (after_group contents group) groups (IsConsistent-after_group contents group consistent are.0) are.1

-- ---- lists of entries whose versions have ended

pub AllEnded-listed : (contents : Contents) (entries : List EntryNo) → AreEnded contents entries
    → AllEnded (λ i. is_listed i entries) contents.versions
AllEnded-listed contents entries ended i listed = (ended_within contents entries i ended listed).1

-- contents of the same layout and as many lines, where they have ended too
pub AreEnded-moved : (old new : Contents) (entries : List EntryNo) → new.current.layout ≡ old.current.layout → new.lines ≡ old.lines → AllEnded (λ i. is_listed i entries) new.versions
    → AreEnded old entries → AreEnded new entries
AreEnded-moved old new [] layout lines still ended = tt
AreEnded-moved old new (entry ∷ entries) layout lines still ended = (
  subst (λ (n : ℕ). entry.0 < n) (sym (entries_same old new layout lines)) ended.0,
  still entry.0 (or_left (nat_eq entry.0 entry.0) (is_listed entry.0 entries) (eq-eqb entry.0 entry.0 refl)),
  ended.2,
  AreEnded-moved old new entries layout lines (λ i listed. still i (or_right (nat_eq i entry.0) (is_listed i entries) listed)) ended.3,
)

pub AreEnded-after_group : (contents : Contents) (group : Group) (entries : List EntryNo) → IsConsistent contents → IsGroup contents group
    → AreEnded contents entries → AreEnded (after_group contents group) entries
AreEnded-after_group contents group entries consistent is ended =
    AreEnded-moved contents (after_group contents group) entries refl refl
    (AllEnded-after_group (λ i. is_listed i entries) contents group consistent (AllEnded-listed contents entries ended) is) ended

pub AreEnded-after_groups : (contents : Contents) (groups : List Group) (entries : List EntryNo) → IsConsistent contents → AreGroups contents groups
    → AreEnded contents entries → AreEnded (after_groups contents groups) entries
AreEnded-after_groups contents [] entries consistent are ended = ended
AreEnded-after_groups contents (group ∷ groups) entries consistent are ended =
    AreEnded-after_groups (after_group contents group) groups entries (IsConsistent-after_group contents group consistent are.0) are.1
    (AreEnded-after_group contents group entries consistent are.0 ended)

pub IsGroup-freed : (contents : Contents) (entries : List EntryNo) (group : Group) → IsConsistent contents → AreEnded contents entries
    → IsGroup contents group → IsGroup (after_free entries contents) group
IsGroup-freed contents entries group consistent ended is =
    IsGroup-without (λ i. is_listed i entries) contents group consistent (AllEnded-listed contents entries ended) is

pub after_groups-freed : (contents : Contents) (entries : List EntryNo) (groups : List Group) → IsConsistent contents → AreEnded contents entries
    → AreGroups contents groups → after_free entries (after_groups contents groups) ≡ after_groups (after_free entries contents) groups
after_groups-freed contents entries groups consistent ended are =
    sym (after_groups-without (λ i. is_listed i entries) contents groups consistent (AllEnded-listed contents entries ended) are)

-- ---- two lists

not_listed : (i : ℕ) (a b : List EntryNo) → is_listed i (a ++ b) ≡ false → (is_listed i a ≡ false) × (is_listed i b ≡ false)
not_listed i a b none = or_parts (is_listed i a) (is_listed i b) (sym (list_any-append (λ (entry : EntryNo). nat_eq i entry.0) a b) ∙ none)

pub AreEnded-first : (contents : Contents) (a b : List EntryNo) → AreEnded contents (a ++ b) → AreEnded contents a
AreEnded-first contents [] b ended = tt
AreEnded-first contents (entry ∷ a) b ended =
    (ended.0, ended.1, (not_listed entry.0 a b ended.2).0, AreEnded-first contents a b ended.3)

pub AreEnded-rest : (contents : Contents) (a b : List EntryNo) → AreEnded contents (a ++ b) → AreEnded contents b
AreEnded-rest contents [] b ended = ended
AreEnded-rest contents (entry ∷ a) b ended = AreEnded-rest contents a b ended.3

-- no entry of the first list is in the second
pub AreEnded-apart : (contents : Contents) (a b : List EntryNo) → AreEnded contents (a ++ b) → (i : ℕ) → IsTrue (is_listed i a)
    → is_listed i b ≡ false
AreEnded-apart contents [] b ended i listed = absurd (both_ways false refl listed)
AreEnded-apart contents (entry ∷ a) b ended i listed =
    elim (or_cases (nat_eq i entry.0) (is_listed i a) listed) [
      | inl here ↦ ap (λ (n : ℕ). is_listed n b) (eqb-true i entry.0 here) ∙ (not_listed entry.0 a b ended.2).1
      | inr later ↦ AreEnded-apart contents a b ended.3 i later
    ]

-- those that are not freed stay ended
pub AreEnded-without : (gone : ℕ → Bool) (contents : Contents) (entries : List EntryNo)
    → ((i : ℕ) → IsTrue (is_listed i entries) → gone i ≡ false) → AreEnded contents entries → AreEnded (without gone contents) entries
AreEnded-without gone contents entries apart ended =
    AreEnded-moved contents (without gone contents) entries refl refl
    (λ i listed.
    ap is_ended_version (cond-false (gone i) None (contents.versions i) (apart i listed)) ∙ AllEnded-listed contents entries ended i listed) ended

-- once the first list is freed
pub AreEnded-freed : (contents : Contents) (a b : List EntryNo) → AreEnded contents (a ++ b) → AreEnded (after_free a contents) b
AreEnded-freed contents a b ended =
    AreEnded-without (λ i. is_listed i a) contents b (λ i listed. other_way i listed) (AreEnded-rest contents a b ended)
  where
    other_way : (i : ℕ) → IsTrue (is_listed i b) → is_listed i a ≡ false
    other_way i listed =
        elim (cases_Bool (is_listed i a)) [
          | inl also ↦ absurd (both_ways (is_listed i b) (AreEnded-apart contents a b ended i also) listed)
          | inr none ↦ none
        ]
