-- What parts ended is behind what was listed, and the list has entries of ended versions alone, each once.
use Rattle.std.proofs.Common.{◌≡◌, ℕ, ◌<◌, ◌≤◌, inl, inr, Bool, true, false, not, ◌||◌, IsTrue, List, [], ◌∷◌, ◌++◌, Option, None, Some, nat_eq, refl, sym, ap, ap₂, subst, ◌∙◌, arith, append_assoc, append-nil, eq-eqb, eqb-true, ne_eqb}
use Rattle.std.proofs.lemmas.Bool.{cases_lt, false_from_ne_true, or_left, or_right}
use Rattle.std.proofs.lemmas.Map.Keys.{IsDistinct-head, IsDistinct-tail}
use Rattle.std.specs.List.{AllByRecursion, IsDistinct}
use Rattle.kv_types.specs.declared.place.EntryNo.{EntryNo}
use Rattle.model.specs.declared.group.Part.{Part}
use Rattle.model.specs.declared.group.Put.{Put}
use Rattle.model.specs.Image.{Version}
use Rattle.model.specs.Group.{AreAllApart, AreEnded, AreParts, Contents, IsPlaced, NamesEnded, Versions, is_ended_version, is_listed, is_live_version, is_put_at, part_versions, parts_versions, puts_of_part, entries_of}
use Rattle.model.proofs.DirectoryLemmas.{entries_same}
use Rattle.model.proofs.GroupsLemmas.{AreAllApart-rest, changes_versions-none}
use Rattle.mv_keyspace.specs.Row.{numbers_of}
use Rattle.placing.proofs.BackLemmas.{listed-append}
use Rattle.placing.proofs.TakenLemmas.{All-both, All-prefix, All-rest}
use Rattle.redis_core.specs.Sequencing.{NamesOnce, ended_by_parts, puts_of_parts}
use Rattle.redis_core.proofs.BegunLemmas.{none_earlier, still-changes, still-same}
use Rattle.placing.proofs.MemberLemmas.{member-from_listed, unlisted}

-- ---- entries that have no version

-- the entry of the put has no version
abbrev pub IsEmptyIn : Versions → Put → Type 0
IsEmptyIn versions put = versions put.entry.0 ≡ None

empty_at : (versions : Versions) (puts : List Put) (i : ℕ) → AllByRecursion (IsEmptyIn versions) puts → IsTrue (is_put_at i puts) → versions i ≡ None
empty_at versions [] i empty at = cc
empty_at versions (put ∷ puts) i empty at = by (nat_eq i put.entry.0) refl at (empty_at versions puts i empty.1)
  where
    by : (b : Bool) → nat_eq i put.entry.0 ≡ b → IsTrue (b || is_put_at i puts) → (IsTrue (is_put_at i puts) → versions i ≡ None) → versions i ≡ None
    by true e t others = ap versions (eqb-true i put.entry.0 e) ∙ empty.0
    by false e t others = others t

not_ended_none : (o : Option Version) → o ≡ None → IsTrue (is_ended_version o) → ⊥
not_ended_none o none ended = let t = subst (λ (x : Option Version). IsTrue (is_ended_version x)) none ended in no_truth t
  where
    no_truth : IsTrue (is_ended_version None) → ⊥
    no_truth t = cc

-- no put is at the entry of a version
pub none_at_begun : (versions : Versions) (puts : List Put) (i : ℕ) (version : Version) → AllByRecursion (IsEmptyIn versions) puts → versions i ≡ Some version → is_put_at i puts ≡ false
none_at_begun versions puts i version empty begun = false_from_ne_true (is_put_at i puts) (λ at. let none = empty_at versions puts i empty at in not_both (versions i) begun none)
  where
    not_both : (o : Option Version) → o ≡ Some version → o ≡ None → ⊥
    not_both o some none = cc

abbrev IsBounded : Contents → Type 0
IsBounded contents = (i : ℕ) → entries_of contents ≤ i → contents.versions i ≡ None

not_beyond : (entries lines : ℕ) (puts : List Put) (i : ℕ) → AllByRecursion (IsPlaced entries lines) puts → entries ≤ i → is_put_at i puts ≡ false
not_beyond entries lines [] i placed le = refl
not_beyond entries lines (put ∷ puts) i placed le = ap (λ b. b || is_put_at i puts) (ne_eqb i put.entry.0 (too_low placed.0.entry)) ∙ not_beyond entries lines puts i placed.1 le
  where
    too_low : put.entry.0 < entries → i ≡ put.entry.0 → ⊥
    too_low lt e = omega arith

-- ---- one part

ended_behind : (contents after : Contents) → after.current.layout ≡ contents.current.layout → after.lines ≡ contents.lines
    → ((i : ℕ) → IsTrue (is_ended_version (contents.versions i)) → IsTrue (is_ended_version (after.versions i)))
    → (more : List EntryNo) → ((i : ℕ) → IsTrue (is_ended_version (contents.versions i)) → is_listed i more ≡ false) → AreEnded after more
    → (listed : List EntryNo) → AreEnded contents listed → AreEnded after (listed ++ more)
ended_behind contents after layout lines stay more fresh new [] are = new
ended_behind contents after layout lines stay more fresh new (entry ∷ listed) are = (
  subst (λ n. entry.0 < n) (sym (entries_same contents after layout lines)) are.0,
  stay entry.0 are.1,
  listed-append entry.0 listed more ∙ ap₂ (λ a b. a || b) are.2 (fresh entry.0 are.1),
  ended_behind contents after layout lines stay more fresh new listed are.3,
)

all_ended : (contents : Contents) (entries : List EntryNo) → IsDistinct nat_eq (numbers_of entries)
    → ((i : ℕ) → IsTrue (is_listed i entries) → (i < entries_of contents) × IsTrue (is_ended_version (contents.versions i))) → AreEnded contents entries
all_ended contents [] once told = tt
all_ended contents (x ∷ entries) once told =
    let first = told x.0 (or_left (nat_eq x.0 x.0) (is_listed x.0 entries) (eq-eqb x.0 x.0 refl)) in (
      first.0,
      first.1,
      unlisted x.0 entries (IsDistinct-head nat_eq x.0 (numbers_of entries) once),
      all_ended contents entries (IsDistinct-tail nat_eq x.0 (numbers_of entries) once) (λ i listed. told i (or_right (nat_eq i x.0) (is_listed i entries) listed)),
    )

-- the contents with the versions after this part
abbrev after_part : Contents → Part → Contents
after_part contents part = record contents { versions = part_versions contents.versions part }

module _ (contents : Contents) (part : Part) (bounded : IsBounded contents) (names : NamesEnded contents.versions part) (once : NamesOnce part)
    (placed : AllByRecursion (IsPlaced (entries_of contents) contents.lines) (puts_of_part part)) (empty : AllByRecursion (IsEmptyIn contents.versions) (puts_of_part part)) where
  abbrev puts : List Put
  puts = puts_of_part part

  bounded_after : IsBounded (after_part contents part)
  bounded_after i le = changes_versions-none part.position contents.versions part.changes.items i (bounded i le) (not_beyond (entries_of contents) contents.lines puts i placed le)

  stays_ended : (i : ℕ) → IsTrue (is_ended_version (contents.versions i)) → IsTrue (is_ended_version (part_versions contents.versions part i))
  stays_ended i ended = by (contents.versions i) refl ended
    where
      by : (o : Option Version) → contents.versions i ≡ o → IsTrue (is_ended_version o) → IsTrue (is_ended_version (part_versions contents.versions part i))
      by None e t = cc
      by (Some version) e t =
          let still = still-changes part.position contents.versions part.changes.items i version (still-same version (contents.versions i) e) (none_at_begun contents.versions puts i version empty e) in
          subst (λ (now : Option Version). IsTrue (is_ended_version now)) (sym still.is) (still.ended t)

  not_named : (i : ℕ) → IsTrue (is_ended_version (contents.versions i)) → is_listed i part.ended.items ≡ false
  not_named i ended = false_from_ne_true (is_listed i part.ended.items) (λ listed. by (contents.versions i) refl ended ((names i).0 (member-from_listed i part.ended.items listed)).0)
    where
      by : (o : Option Version) → contents.versions i ≡ o → IsTrue (is_ended_version o) → IsTrue (is_live_version (contents.versions i) || is_put_at i puts) → ⊥
      by None e t may = cc
      by (Some version) e t may =
          let live : IsTrue (is_live_version (Some version) || is_put_at i puts) = subst (λ (now : Option Version). IsTrue (is_live_version now || is_put_at i puts)) e may in
          let none : is_put_at i puts ≡ false = none_at_begun contents.versions puts i version empty e in
          neither_holds version.is_ended (is_put_at i puts) t none live
        where
          neither_holds : (b c : Bool) → IsTrue b → c ≡ false → IsTrue (not b || c) → ⊥
          neither_holds true false t none may = cc
          neither_holds true true t none may = cc
          neither_holds false c t none may = cc

  named_ended : (i : ℕ) → IsTrue (is_listed i part.ended.items) → (i < entries_of contents) × IsTrue (is_ended_version (part_versions contents.versions part i))
  named_ended i listed =
      let ended = ((names i).0 (member-from_listed i part.ended.items listed)).1 in
      elim (cases_lt i (entries_of contents)) [
        | inl low ↦ (low, ended)
        | inr high ↦ absurd (not_ended_none (part_versions contents.versions part i) (bounded_after i high) ended)
      ]

  ended_after : (listed : List EntryNo) → AreEnded contents listed → AreEnded (after_part contents part) (listed ++ part.ended.items)
  ended_after = ended_behind contents (after_part contents part) refl refl stays_ended part.ended.items not_named (all_ended (after_part contents part) part.ended.items once named_ended)

-- ---- all parts

-- after parts that follow one another, what they ended may be listed behind what was
pub ended-parts : (before : ℕ) (contents : Contents) (parts : List Part) → IsBounded contents → AreParts before contents.versions parts → AllByRecursion NamesOnce parts
    → AllByRecursion (IsPlaced (entries_of contents) contents.lines) (puts_of_parts parts) → AllByRecursion (IsEmptyIn contents.versions) (puts_of_parts parts) → AreAllApart (puts_of_parts parts)
    → (listed : List EntryNo) → AreEnded contents listed → AreEnded (record contents { versions = parts_versions contents.versions parts }) (listed ++ ended_by_parts parts)
ended-parts before contents [] bounded are once placed empty apart listed ended = subst (AreEnded contents) (sym (append-nil listed)) ended
ended-parts before contents (part ∷ parts) bounded are once placed empty apart listed ended =
    let first = puts_of_part part in
    let others = puts_of_parts parts in
    let after = after_part contents part in
    let placed_first = All-prefix (IsPlaced (entries_of contents) contents.lines) first others placed in
    let empty_first = All-prefix (IsEmptyIn contents.versions) first others empty in
    let empty_others = All-both (IsEmptyIn contents.versions) (λ put. is_put_at put.entry.0 first ≡ false) (IsEmptyIn after.versions)
    (λ put none beside. changes_versions-none part.position contents.versions part.changes.items put.entry.0 none beside) others
    (All-rest (IsEmptyIn contents.versions) first others empty) (none_earlier first others apart) in
    subst (AreEnded (record contents { versions = parts_versions after.versions parts })) (append_assoc listed part.ended.items (ended_by_parts parts))
    (ended-parts part.position after parts (bounded_after contents part bounded are.1 once.0 placed_first empty_first) are.2 once.1 (All-rest (IsPlaced (entries_of contents) contents.lines) first others placed) empty_others
    (AreAllApart-rest first others apart) (listed ++ part.ended.items) (ended_after contents part bounded are.1 once.0 placed_first empty_first listed ended))
