-- What a primary recalls of earlier keyspaces: nothing of it is lost while the standby goes on, while the past grows, and while free lists are made, wait and are
-- freed.
use mathlib.Core.Path.{fun_ext}
use Rattle.std.proofs.Common.{◌≡◌, ℕ, ◌<◌, ◌≤◌, ◌++◌, inl, inr, Bool, false, IsTrue, List, [], ◌∷◌, None, refl, sym, ap, subst, ◌∙◌, arith, append-nil, append_assoc}
use Rattle.std.proofs.lemmas.Bool.{both_ways, cond-false, false_from_ne_true}
use Rattle.std.specs.List.{AllByRecursion}
use Rattle.kv_types.specs.declared.place.EntryNo.{EntryNo}
use Rattle.kv_types.specs.declared.record_id.RecordId.{RecordId}
use Rattle.kv_types.specs.Keyspace.{Keyspace}
use Rattle.model.specs.declared.group.Group.{Group}
use Rattle.model.specs.declared.group.Part.{Part}
use Rattle.model.specs.declared.work.FreeList.{FreeList}
use Rattle.model.specs.declared.work.Work.{Work}
use Rattle.model.specs.declared.work.Work.TheVariants as work
use Rattle.model.specs.Group.{AreEnded, Contents, Versions, after_free, is_ended_version, is_listed, without}
use Rattle.model.specs.Image.{IsLive}
use Rattle.wbl_engine.proofs.WithoutLemmas.{AllEnded, was_there}
use Rattle.redis_core.specs.Sequencing.{HandsList, Sequencing}
use Rattle.wbl_engine.specs.CommittingAll.{AreGroups}
use Rattle.group_commit.specs.Group.{after_groups, groups_of, lists_of}
use Rattle.group_commit.proofs.FreedLemmas.{AllEnded-listed}
use Rattle.group_commit.proofs.WorkLemmas.{groups_of-append, lists_of-append}
use Rattle.standby_stream.specs.Delta.{IsGone, Recalls}
use Rattle.primary.specs.Recalling.{AgreeUpTo, HoldsEnded, IsHeld, IsRecalled, Past, RecallsEach, Remembers}
use Rattle.primary.proofs.RecallGroups.{recalled-more, rises-groups}
use Rattle.primary.proofs.RecallParts.{recalls-more}

-- ---- where more entries count

ended-wider : (Held Others : ℕ → ℕ → Type 0) (parts : List Part) → ((p i : ℕ) → Held p i → Others p i) → AllByRecursion (HoldsEnded Held) parts → AllByRecursion (HoldsEnded Others) parts
ended-wider Held Others [] wider held = tt
ended-wider Held Others (part ∷ parts) wider held = ((λ p i below named. wider p i (held.0 p i below named)), ended-wider Held Others parts wider held.1)

groups-wider : (Held Others : ℕ → ℕ → Type 0) (past : Past) (groups : List Group) → ((p i : ℕ) → Held p i → Others p i) → AllByRecursion (IsRecalled Held past) groups
    → AllByRecursion (IsRecalled Others past) groups
groups-wider Held Others past [] wider are = tt
groups-wider Held Others past (group ∷ groups) wider are =
    (record { parts = are.0.parts; ended = ended-wider Held Others group.parts.items wider are.0.ended }, groups-wider Held Others past groups wider are.1)

-- the same groups wait, and what was held is held
Remembers-held : (low position : ℕ) (past : Past) (contents : Contents) (items others : List Work) (aside beside : List FreeList) (old new : Sequencing) → groups_of items ≡ groups_of others
    → ((p i : ℕ) → IsHeld (aside ++ lists_of items) old.ended old.newest p i → IsHeld (beside ++ lists_of others) new.ended new.newest p i)
    → Remembers low position past contents items aside old → Remembers low position past contents others beside new
Remembers-held low position past contents items others aside beside old new groups held remembers =
    let Held : ℕ → ℕ → Type 0 = IsHeld (aside ++ lists_of items) old.ended old.newest in
    let Others : ℕ → ℕ → Type 0 = IsHeld (beside ++ lists_of others) new.ended new.newest in
    record {
      earlier = λ p from below.
          recalls-more contents.versions (Held p) (Others p) p (past p) (held p) (remembers.earlier p from below);
      groups = groups-wider Held Others past (groups_of others) held (subst (AllByRecursion (IsRecalled Held past)) groups remembers.groups);
    }

-- ---- the standby goes on, and the past grows

-- at first there is nothing to recall
pub remembers-new : (past : Past) (contents : Contents) (s : Sequencing) (low : ℕ) → Remembers low 0 past contents [] [] s
remembers-new past contents s low = record { earlier = λ p from below. absurd (omega (arith, below)); groups = tt }

-- the sequencer has listed what it had listed
pub remembers-on : (low low' position : ℕ) (past : Past) (contents : Contents) (items : List Work) (aside : List FreeList) (old new : Sequencing) → low ≤ low' → new.ended ≡ old.ended
    → new.newest ≡ old.newest → Remembers low position past contents items aside old → Remembers low' position past contents items aside new
remembers-on low low' position past contents items aside old new rises ended newest remembers =
    Remembers-held low' position past contents items items aside aside old new refl
    (λ p i held. record {
      lists_are = held.lists_are;
      ended_is = λ listed. subst (λ (n : ℕ). p < n) (sym newest) (held.ended_is (subst (λ (entries : List EntryNo). IsTrue (is_listed i entries)) ended listed));
    }) (record { earlier = λ p from below. remembers.earlier p (omega (arith, rises, from)) below; groups = remembers.groups })

-- and the past is the same up to where the groups end
pub remembers-later : (low position bound : ℕ) (past later : Past) (contents : Contents) (items : List Work) (aside : List FreeList) (s : Sequencing) → contents.current.position ≡ position
    → AreGroups contents (groups_of items) → (after_groups contents (groups_of items)).current.position ≤ bound → AgreeUpTo bound past later
    → Remembers low position past contents items aside s → Remembers low position later contents items aside s
remembers-later low position bound past later contents items aside s at are within agree remembers =
    let Held : ℕ → ℕ → Type 0 = IsHeld (aside ++ lists_of items) s.ended s.newest in
    record {
      earlier = λ p from below.
          subst (Recalls contents.versions (Held p) p) (sym (agree p (omega (arith, below, at, rises-groups contents (groups_of items) are, within)))) (remembers.earlier p from below);
      groups = recalled-more Held Held past later bound (λ p i lt held. held) agree contents (groups_of items) are within remembers.groups;
    }

-- ---- free lists

all-push : {X : Type 0} (P : X → Type 0) (xs : List X) (x : X) → AllByRecursion P xs → P x → AllByRecursion P (xs ++ x ∷ [])
all-push P [] x all is = (is, tt)
all-push P (first ∷ xs) x all is = (all.0, all-push P xs x all.1 is)

-- behind one free list more
pub remembers-listed : (low position : ℕ) (past : Past) (contents : Contents) (items : List Work) (aside : List FreeList) (old new : Sequencing) (list : FreeList)
    → HandsList old list new → Remembers low position past contents items aside old → Remembers low position past contents (items ++ work.Free list ∷ []) aside new
remembers-listed low position past contents items aside old new list hands remembers =
    let groups : groups_of items ≡ groups_of (items ++ work.Free list ∷ []) = sym (groups_of-append items (work.Free list ∷ []) ∙ append-nil (groups_of items)) in
    let lists : (aside ++ lists_of items) ++ list ∷ [] ≡ aside ++ lists_of (items ++ work.Free list ∷ []) =
    append_assoc aside (lists_of items) (list ∷ []) ∙ ap (λ (xs : List FreeList). aside ++ xs) (sym (lists_of-append items (work.Free list ∷ []))) in
    let none : new.ended ≡ [] = ap (λ (s : Sequencing). s.ended) hands.after in
    Remembers-held low position past contents items (items ++ work.Free list ∷ []) aside aside old new groups
    (λ p i held.
    let Passes : FreeList → Type 0 = λ one. IsTrue (is_listed i one.entries.items) → p < one.position in
    let own : Passes list = λ listed.
    subst (λ (n : ℕ). p < n) (sym hands.position) (held.ended_is (subst (λ (entries : List EntryNo). IsTrue (is_listed i entries)) hands.entries listed)) in
    record {
      lists_are = subst (AllByRecursion Passes) lists (all-push Passes (aside ++ lists_of items) list held.lists_are own);
      ended_is = λ listed. absurd (both_ways false refl (subst (λ (entries : List EntryNo). IsTrue (is_listed i entries)) none listed));
    }) remembers

-- all that waits are free lists, and they go aside
pub remembers-aside : (low position : ℕ) (past : Past) (contents : Contents) (items : List Work) (aside : List FreeList) (s : Sequencing) → groups_of items ≡ []
    → Remembers low position past contents items aside s → Remembers low position past contents [] (aside ++ lists_of items) s
remembers-aside low position past contents items aside s none remembers =
    Remembers-held low position past contents items [] aside (aside ++ lists_of items) s s none
    (λ p i held. subst (λ (lists : List FreeList). IsHeld lists s.ended s.newest p i) (sym (append-nil (aside ++ lists_of items))) held) remembers

-- ---- what has ended is freed

-- no version is lost but of entries that have ended and are not held for this position
Recalls-without : (contents : Contents) (gone : ℕ → Bool) (Counts Others : ℕ → Type 0) (p : ℕ) (s : Keyspace) → AllEnded gone contents.versions → ((i : ℕ) → IsTrue (gone i) → Counts i → ⊥)
    → ((i : ℕ) → Counts i → Others i) → Recalls contents.versions Counts p s → Recalls (without gone contents).versions Others p s
Recalls-without contents gone Counts Others p s ended unheld wider recalls = record {
  kept = λ id value is.
      elim (recalls.kept id value is) [
        | inl live ↦ inl (live.0, live.1, still_live live.0 id live.1 live.2)
        | inr lost ↦ inr (lost.0, still_gone lost.0 id lost.1 (false_from_ne_true (gone lost.0) (λ so. unheld lost.0 so lost.2)), wider lost.0 lost.2)
      ];
  stayed = λ i id value live at. recalls.stayed i id value (was_live i id value live) at;
}
  where
    beside : (i : ℕ) → gone i ≡ false → (without gone contents).versions i ≡ contents.versions i
    beside i none = cond-false (gone i) None (contents.versions i) none

    -- a live version has not ended
    stays : (i : ℕ) (id : RecordId) (value : List ℕ) → IsLive contents.versions i id value → gone i ≡ false
    stays i id value live = false_from_ne_true (gone i) (λ so. both_ways live.version.is_ended live.not_ended (ap is_ended_version (sym live.begun) ∙ ended i so))

    still_live : (i : ℕ) (id : RecordId) (value : List ℕ) → IsLive contents.versions i id value → IsLive (without gone contents).versions i id value
    still_live i id value live =
        record { version = live.version; begun = beside i (stays i id value live) ∙ live.begun; not_ended = live.not_ended; id_is = live.id_is; value_is = live.value_is }

    was_live : (i : ℕ) (id : RecordId) (value : List ℕ) → IsLive (without gone contents).versions i id value → IsLive contents.versions i id value
    was_live i id value live = record {
      version = live.version;
      begun = was_there (gone i) (contents.versions i) live.version live.begun;
      not_ended = live.not_ended;
      id_is = live.id_is;
      value_is = live.value_is;
    }

    still_gone : (i : ℕ) (id : RecordId) → IsGone contents.versions i id → gone i ≡ false → IsGone (without gone contents).versions i id
    still_gone i id lost none = record { version = lost.version; begun = beside i none ∙ lost.begun; has_ended = lost.has_ended; id_is = lost.id_is }

-- the oldest list aside, which the standby has passed
module _ (low position : ℕ) (past : Past) (contents : Contents) (items : List Work) (list : FreeList) (rest : List FreeList) (s : Sequencing) (passed : list.position ≤ low)
    (ended : AreEnded contents list.entries.items) (remembers : Remembers low position past contents items (list ∷ rest) s) where
  abbrev Before : ℕ → ℕ → Type 0
  Before = IsHeld (list ∷ rest ++ lists_of items) s.ended s.newest

  abbrev After : ℕ → ℕ → Type 0
  After = IsHeld (rest ++ lists_of items) s.ended s.newest

  wider : (p i : ℕ) → Before p i → After p i
  wider p i held = record { lists_are = held.lists_are.1; ended_is = held.ended_is }

  -- where some of its entries are freed
  pub recalls-without : (gone : ℕ → Bool) → ((i : ℕ) → IsTrue (gone i) → IsTrue (is_listed i list.entries.items)) → (p : ℕ) → low ≤ p → p < position
      → Recalls (without gone contents).versions (After p) p (past p)
  recalls-without gone listed p from below =
      Recalls-without contents gone (Before p) (After p) p (past p) (λ i so. AllEnded-listed contents list.entries.items ended i (listed i so))
      (λ i so held. omega (arith, held.lists_are.0 (listed i so), passed, from)) (wider p) (remembers.earlier p from below)

  -- and where all are
  pub remembers-freed : Remembers low position past (after_free list.entries.items contents) items rest s
  remembers-freed = record {
    earlier = recalls-without (λ i. is_listed i list.entries.items) (λ i listed. listed);
    groups = groups-wider Before After past (groups_of items) wider remembers.groups;
  }

-- ---- the versions stay where they are

-- contents with the same versions
pub remembers-same : (low position : ℕ) (past : Past) (contents new : Contents) (items : List Work) (aside : List FreeList) (s : Sequencing) → ((i : ℕ) → new.versions i ≡ contents.versions i)
    → Remembers low position past contents items aside s → Remembers low position past new items aside s
remembers-same low position past contents new items aside s same remembers =
    let all : contents.versions ≡ new.versions = sym (fun_ext same) in
    record {
      earlier = λ p from below.
          subst (λ (versions : Versions). Recalls versions (IsHeld (aside ++ lists_of items) s.ended s.newest p) p (past p)) all (remembers.earlier p from below);
      groups = remembers.groups;
    }

-- ---- an image

-- it recalls what was remembered of its contents
pub recalls-each : (low position : ℕ) (past : Past) (contents : Contents) (items : List Work) (aside : List FreeList) (s : Sequencing) → Remembers low position past contents items aside s
    → RecallsEach low position past contents
recalls-each low position past contents items aside s remembers p from below =
    recalls-more contents.versions (IsHeld (aside ++ lists_of items) s.ended s.newest p) (λ i. Unit {0}) p (past p) (λ i held. tt) (remembers.earlier p from below)

pub recalls-still : (low low' position : ℕ) (past : Past) (contents : Contents) → low ≤ low' → RecallsEach low position past contents → RecallsEach low' position past contents
recalls-still low low' position past contents rises recalls p from below = recalls p (omega (arith, rises, from)) below

-- it is opened again
pub remembers-opened : (low position : ℕ) (past : Past) (contents : Contents) (s : Sequencing) → s.newest ≡ position → RecallsEach low position past contents
    → Remembers low position past contents [] [] s
remembers-opened low position past contents s newest recalls = record {
  earlier = λ p from below.
      recalls-more contents.versions (λ i. Unit {0}) (IsHeld [] s.ended s.newest p) p (past p)
      (λ i any. record { lists_are = tt; ended_is = λ listed. subst (λ (n : ℕ). p < n) (sym newest) below }) (recalls p from below);
  groups = tt;
}
