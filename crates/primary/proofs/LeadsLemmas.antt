-- What is to be committed leads to the sequencer, where a group or a free list is closed, while calls are made, and once a group has committed.
use Rattle.std.proofs.Common.{rules, ◌≡◌, ℕ, List, Option, [], ◌∷◌, ◌++◌, map, nat_eq, refl, sym, ap, ap₂, subst, ◌∙◌, append-nil, append_assoc, inl, inr, true≢false}
use Rattle.std.proofs.lemmas.Bool.{or_cases}
use Rattle.std.proofs.lemmas.Grind.{flat_map-append}
use Rattle.std.proofs.lemmas.List.Folds.{list_any-append}
use Rattle.kv_types.specs.declared.place.EntryNo.{EntryNo}
use Rattle.kv_types.specs.declared.place.Extent.{Extent}
use Rattle.model.specs.declared.group.Group.{Group}
use Rattle.model.specs.declared.work.FreeList.{FreeList}
use Rattle.model.specs.declared.work.Work.{Work}
use Rattle.model.specs.declared.work.Work.TheVariants as work
use Rattle.model.specs.Group.{AreEnded, Contents, IsConsistent, after_group, is_listed}
use Rattle.wbl_engine.specs.declared.freeing.Freed.{Freed}
use Rattle.wbl_engine.proofs.WithoutLemmas.{AllEnded}
use Rattle.redis_core.specs.Copying.{CopyOf}
use Rattle.redis_core.specs.Sequencing.{Expects, HandsOut, IsAheadOf, LeadsOn, MovesCopy, Sequencing}
use Rattle.group_commit.specs.Group.{AreWork, after_groups, after_work, groups_of, lists_before, lists_of}
use Rattle.group_commit.specs.Working.{IsLawful, entries_of_lists}
use Rattle.group_commit.proofs.FreedLemmas.{AllEnded-listed, AreEnded-after_group, AreEnded-first, AreEnded-moved, AreEnded-rest, IsConsistent-after_groups}
use Rattle.group_commit.proofs.WorkLemmas.{AreGroups-of-work, AreWork-behind, AreWork-push-group, AreWork-push-list, after_work-push-group, after_work-push-list, groups_of-append, groups_of-lists, lawful, lists_before-lists, lists_of-append, lists_of-lists}
use Rattle.pipes.specs.Waiting.{Waiting}
use Rattle.primary.specs.Closing.{ClosesGroup, ClosesList}
use Rattle.primary.specs.Leading.{AreOfEpoch, KeepsLead, Leads, entries_told, extents_told}

-- ---- a group or a list is closed

-- groups of the record's epoch leave it as it is
epoch-after_work : (contents : Contents) (items : List Work) → AreOfEpoch contents.current.epoch (groups_of items) → (after_work contents items).current.epoch ≡ contents.current.epoch
epoch-after_work contents [] are = refl
epoch-after_work contents (work.Commit group ∷ items) are =
    epoch-after_work (after_group contents group) items (subst (λ epoch. AreOfEpoch epoch (groups_of items)) (sym are.0) are.1) ∙ are.0
epoch-after_work contents (work.Free list ∷ items) are = epoch-after_work contents items are

AreOfEpoch-push : (epoch : ℕ) (groups : List Group) (group : Group) → AreOfEpoch epoch groups → group.epoch ≡ epoch → AreOfEpoch epoch (groups ++ group ∷ [])
AreOfEpoch-push epoch [] group are is = (is, tt)
AreOfEpoch-push epoch (first ∷ groups) group are is = (are.0, AreOfEpoch-push epoch groups group are.1 is)

-- behind one group more
pub Leads-grouped : (contents : Contents) (items : List Work) (aside : List FreeList) (group : Group) (old new : Sequencing) (notices : List Freed) → IsConsistent contents
    → HandsOut old group new → LeadsOn old group new → Leads contents items aside old notices → Leads contents (items ++ work.Commit group ∷ []) aside new notices
Leads-grouped contents items aside group old new notices consistent hands on leads =
    let all = after_work contents items in
    let sound = IsConsistent-after_groups contents (groups_of items) consistent (AreGroups-of-work contents items leads.work_is) in
    let stands = on.stands all leads.stands in
    let moved = after_work-push-group contents items group in
    let lists : lists_of (items ++ work.Commit group ∷ []) ≡ lists_of items = lists_of-append items (work.Commit group ∷ []) ∙ append-nil (lists_of items) in
    let groups = groups_of-append items (work.Commit group ∷ []) in
    record {
      work_is = AreWork-push-group contents items group leads.work_is stands.0;
      epochs = subst (AreOfEpoch contents.current.epoch) (sym groups)
          (AreOfEpoch-push contents.current.epoch (groups_of items) group leads.epochs (hands.epoch ∙ leads.stands.epoch ∙ epoch-after_work contents items leads.epochs));
      stands = subst (IsAheadOf new) (sym moved) stands.1;
      expects = subst (λ (c : Contents). Expects new c (entries_told notices) (extents_told notices)) (sym moved)
          (on.expects all (entries_told notices) (extents_told notices) leads.stands leads.expects);
      aside_ended = leads.aside_ended;
      listed = subst (λ (c : Contents). AreEnded c (entries_of_lists (aside ++ lists_of (items ++ work.Commit group ∷ [])) ++ new.ended)) (sym moved)
          (subst (λ (xs : List FreeList). AreEnded (after_group all group) (entries_of_lists (aside ++ xs) ++ new.ended)) (sym lists)
          (on.lists all (entries_of_lists (aside ++ lists_of items)) leads.stands sound leads.listed));
    }

pub Leads-group : (contents : Contents) (before after : Waiting Work) (aside : List FreeList) (old new : Sequencing) (notices : List Freed) → IsConsistent contents
    → Leads contents before.items aside old notices → ClosesGroup old before new after → Leads contents after.items aside new notices
Leads-group contents before after aside old new notices consistent leads closes =
    subst (λ (xs : List Work). Leads contents xs aside new notices) (sym closes.last)
    (Leads-grouped contents before.items aside closes.group old new notices consistent closes.hands closes.leads leads)

-- behind one free list more
pub Leads-list : (contents : Contents) (before after : Waiting Work) (aside : List FreeList) (old new : Sequencing) (notices : List Freed)
    → Leads contents before.items aside old notices → ClosesList old before new after → Leads contents after.items aside new notices
Leads-list contents before after aside old new notices leads closes =
    let items = before.items in
    let list = closes.list in
    let all = after_work contents items in
    let moved = after_work-push-list contents items list in
    let groups : groups_of (items ++ work.Free list ∷ []) ≡ groups_of items = groups_of-append items (work.Free list ∷ []) ∙ append-nil (groups_of items) in
    let entries : List FreeList → List EntryNo = entries_of_lists in
    let lists : aside ++ lists_of (items ++ work.Free list ∷ []) ≡ (aside ++ lists_of items) ++ list ∷ [] =
    ap (λ (xs : List FreeList). aside ++ xs) (lists_of-append items (work.Free list ∷ [])) ∙ sym (append_assoc aside (lists_of items) (list ∷ [])) in
    let ended : new.ended ≡ [] = ap (λ (s : Sequencing). s.ended) closes.hands.after in
    let same : entries_of_lists (aside ++ lists_of (items ++ work.Free list ∷ [])) ++ new.ended ≡ entries_of_lists (aside ++ lists_of items) ++ old.ended =
    ap₂ (λ (xs ys : List EntryNo). xs ++ ys) (ap entries lists ∙ flat_map-append (λ (one : FreeList). one.entries.items) (aside ++ lists_of items) (list ∷ [])) ended
    ∙ append-nil (entries_of_lists (aside ++ lists_of items) ++ (list.entries.items ++ []))
    ∙ ap (λ (xs : List EntryNo). entries_of_lists (aside ++ lists_of items) ++ xs) (append-nil list.entries.items ∙ closes.hands.entries) in
    subst (λ (xs : List Work). Leads contents xs aside new notices) (sym closes.last) (record {
      work_is = AreWork-push-list contents items list leads.work_is
          (subst (AreEnded all) (sym closes.hands.entries) (AreEnded-rest all (entries_of_lists (aside ++ lists_of items)) old.ended leads.listed));
      epochs = subst (AreOfEpoch contents.current.epoch) (sym groups) leads.epochs;
      stands = subst (IsAheadOf new) (sym moved) (closes.stands all leads.stands);
      expects = subst (λ (c : Contents). Expects new c (entries_told notices) (extents_told notices)) (sym moved)
          (closes.expects all (entries_told notices) (extents_told notices) leads.expects);
      aside_ended = leads.aside_ended;
      listed = subst (λ (c : Contents). AreEnded c (entries_of_lists (aside ++ lists_of (items ++ work.Free list ∷ [])) ++ new.ended)) (sym moved)
          (subst (AreEnded all) (sym same) leads.listed);
    })

-- ---- calls are made

-- the sequencer is as far ahead, and ended what it had ended
pub Leads-still : (contents : Contents) (items : List Work) (aside : List FreeList) (old new : Sequencing) (notices : List Freed)
    → ((c : Contents) → IsAheadOf old c → IsAheadOf new c)
    → ((c : Contents) (e : List EntryNo) (x : List Extent) → IsAheadOf old c → Expects old c e x → Expects new c e x)
    → new.ended ≡ old.ended → Leads contents items aside old notices → Leads contents items aside new notices
Leads-still contents items aside old new notices stands expects ended leads =
    let last = after_work contents items in
    search (
      rules,
      stands last leads.stands,
      expects last (entries_told notices) (extents_told notices) leads.stands leads.expects,
      subst (λ (xs : List EntryNo). AreEnded last (entries_of_lists (aside ++ lists_of items) ++ xs)) (sym ended) leads.listed,
    )

-- whatever copy there is
pub KeepsLead-copied : (old : Sequencing) (copy : Option CopyOf) (new : Sequencing) → MovesCopy old copy new → ((c : Contents) → IsAheadOf old c → IsAheadOf new c)
    → ((c : Contents) (e : List EntryNo) (x : List Extent) → IsAheadOf old c → Expects old c e x → Expects new c e x) → KeepsLead old new
KeepsLead-copied old copy new moves stands expects contents items aside leads =
    Leads-still contents items aside old new [] stands expects (ap (λ (s : Sequencing). s.ended) moves) leads

-- ---- what a turn may take

-- each entry of the lists before the first group has ended by now
ended-before : (contents : Contents) (items : List Work) → AreWork contents items → AllEnded (λ i. is_listed i (entries_of_lists (lists_before items))) contents.versions
ended-before contents [] are = λ i listed. absurd (true≢false (sym listed))
ended-before contents (work.Commit group ∷ items) are = λ i listed. absurd (true≢false (sym listed))
ended-before contents (work.Free list ∷ items) are = λ i listed.
    elim (or_cases (is_listed i list.entries.items) (is_listed i (entries_of_lists (lists_before items)))
    (sym (list_any-append (λ (entry : EntryNo). nat_eq i entry.0) list.entries.items (entries_of_lists (lists_before items))) ∙ listed)) [
      | inl here ↦ AllEnded-listed contents list.entries.items are.0 i here
      | inr later ↦ ended-before contents items are.1 i later
    ]

layout-groups : (contents : Contents) (groups : List Group) → (after_groups contents groups).current.layout ≡ contents.current.layout
layout-groups contents [] = refl
layout-groups contents (group ∷ groups) = layout-groups (after_group contents group) groups

lines-groups : (contents : Contents) (groups : List Group) → (after_groups contents groups).lines ≡ contents.lines
lines-groups contents [] = refl
lines-groups contents (group ∷ groups) = lines-groups (after_group contents group) groups

-- the lists before the first group are the first ones
record ListsAfter (items : List Work) : Type 0 where
  others : List FreeList
  all : lists_of items ≡ lists_before items ++ others

lists-after : (items : List Work) → ListsAfter items
lists-after [] = record { others = []; all = refl }
lists-after (work.Commit group ∷ items) = record { others = lists_of items; all = refl }
lists-after (work.Free list ∷ items) = let after = lists-after items in record { others = after.others; all = ap (λ xs. list ∷ xs) after.all }

-- each entry of the lists aside, and of those before the first group, has ended, and none is in two of them
pub ended-reached : (contents : Contents) (items : List Work) (aside : List FreeList) (s : Sequencing) (notices : List Freed) → Leads contents items aside s notices
    → AreEnded contents (entries_of_lists (aside ++ lists_before items))
ended-reached contents items aside s notices leads =
    AreEnded-moved after contents entries (sym (layout-groups contents (groups_of items))) (sym (lines-groups contents (groups_of items))) all_ended (AreEnded-first after entries (entries_of_lists later.others ++ s.ended) once)
  where
    after : Contents
    after = after_work contents items

    entries : List EntryNo
    entries = entries_of_lists (aside ++ lists_before items)

    later : ListsAfter items
    later = lists-after items

    all : aside ++ lists_of items ≡ (aside ++ lists_before items) ++ later.others
    all = ap (λ xs. aside ++ xs) later.all ∙ sym (append_assoc aside (lists_before items) later.others)

    once : AreEnded after (entries ++ (entries_of_lists later.others ++ s.ended))
    once =
        subst (AreEnded after)
        (ap (λ (xs : List FreeList). entries_of_lists xs ++ s.ended) all
        ∙ ap (λ (xs : List EntryNo). xs ++ s.ended) (flat_map-append (λ (list : FreeList). list.entries.items) (aside ++ lists_before items) later.others)
        ∙ append_assoc entries (entries_of_lists later.others) s.ended) leads.listed

    all_ended : AllEnded (λ i. is_listed i entries) contents.versions
    all_ended = λ i listed.
        elim (or_cases (is_listed i (entries_of_lists aside)) (is_listed i (entries_of_lists (lists_before items)))
        (sym (ap (is_listed i) (flat_map-append (λ (list : FreeList). list.entries.items) aside (lists_before items))
        ∙ list_any-append (λ (entry : EntryNo). nat_eq i entry.0) (entries_of_lists aside) (entries_of_lists (lists_before items))) ∙ listed)) [
          | inl here ↦ AllEnded-listed contents (entries_of_lists aside) leads.aside_ended i here
          | inr later ↦ ended-before contents items leads.work_is i later
        ]

-- what a turn of the committer requires
pub gives-work : (contents : Contents) (items : List Work) (aside : List FreeList) (s : Sequencing) (notices : List Freed) → Leads contents items aside s notices → IsLawful contents aside items
gives-work contents items aside s notices leads = lawful contents aside items leads.work_is (ended-reached contents items aside s notices leads)

-- ---- a group has committed

-- what is left leads to the sequencer
pub leads-after : (contents : Contents) (lists : List FreeList) (group : Group) (rest : List Work) (aside : List FreeList) (s : Sequencing) (notices : List Freed) → IsConsistent contents
    → Leads contents (map work.Free lists ++ work.Commit group ∷ rest) aside s notices → Leads (after_group contents group) rest (aside ++ lists) s notices
leads-after contents lists group rest aside s notices consistent leads =
    record {
      work_is = behind.1;
      epochs = subst (λ epoch. AreOfEpoch epoch (groups_of rest)) (sym epochs.0) epochs.1;
      stands = subst (IsAheadOf s) same leads.stands;
      expects = subst (λ (c : Contents). Expects s c (entries_told notices) (extents_told notices)) same leads.expects;
      aside_ended = AreEnded-after_group contents group (entries_of_lists (aside ++ lists)) consistent behind.0
          (subst (λ (xs : List FreeList). AreEnded contents (entries_of_lists (aside ++ xs))) (lists_before-lists lists items ∙ append-nil lists)
          (ended-reached contents (map work.Free lists ++ items) aside s notices leads));
      listed = subst (λ (c : Contents). AreEnded c (entries_of_lists ((aside ++ lists) ++ lists_of rest) ++ s.ended)) same
          (subst (λ (xs : List FreeList). AreEnded (after_work contents (map work.Free lists ++ items)) (entries_of_lists xs ++ s.ended))
          (ap (λ (xs : List FreeList). aside ++ xs) (lists_of-lists lists items) ∙ sym (append_assoc aside lists (lists_of rest))) leads.listed);
    }
  where
    items : List Work
    items = work.Commit group ∷ rest

    behind : AreWork contents items
    behind = AreWork-behind contents lists items leads.work_is

    epochs : AreOfEpoch contents.current.epoch (groups_of items)
    epochs = subst (AreOfEpoch contents.current.epoch) (groups_of-lists lists items) leads.epochs

    same : after_work contents (map work.Free lists ++ items) ≡ after_work (after_group contents group) rest
    same = ap (after_groups contents) (groups_of-lists lists items)
