-- What waits for the committer stays lawful while what has ended is freed, gaps are cleared, and the sequencer is told.
use Rattle.std.proofs.Common.{rules, ◌≡◌, ℕ, false, IsTrue, List, [], ◌∷◌, ◌++◌, refl, sym, ap, subst, ◌∙◌, append-nil, append_assoc}
use Rattle.std.proofs.lemmas.Bool.{both_ways, false_from_ne_true, or_left, or_right}
use Rattle.std.proofs.lemmas.List.Concat.{flat_map-append}
use Rattle.kv_types.specs.declared.place.EntryNo.{EntryNo}
use Rattle.kv_types.specs.declared.place.Extent.{Extent}
use Rattle.model.specs.declared.record.Record.{Record}
use Rattle.model.specs.declared.work.FreeList.{FreeList}
use Rattle.model.specs.declared.work.Work.{Work}
use Rattle.model.specs.declared.work.Work.TheVariants as work
use Rattle.model.specs.Group.{AreEnded, Contents, IsConsistent, after_free, after_group, extents_of, is_ended_version, is_listed}
use Rattle.placing.proofs.BackLemmas.{listed-append}
use Rattle.wbl_engine.specs.declared.freeing.Freed.{Freed}
use Rattle.wbl_engine.specs.Freeing.{Clears}
use Rattle.redis_core.specs.Sequencing.{Expects, IsAheadOf, Sequencing, TakesBack}
use Rattle.wbl_engine.specs.CommittingAll.{AreGroups}
use Rattle.group_commit.specs.Group.{AreWork, after_groups, after_work, groups_of, lists_of}
use Rattle.group_commit.specs.Working.{entries_of_lists}
use Rattle.group_commit.proofs.FreedLemmas.{AllEnded-listed, AreEnded-after_groups, AreEnded-apart, AreEnded-first, AreEnded-freed, AreEnded-moved, AreEnded-without, IsConsistent-after_groups, IsGroup-freed, after_group-without, after_groups-freed, AreEnded-after_group}
use Rattle.group_commit.proofs.WorkLemmas.{AreGroups-of-work}
use Rattle.model.proofs.GroupsLemmas.{IsConsistent-after_group}
use Rattle.primary.specs.Leading.{AreLaid, Leads, entries_told, extents_told}
use Rattle.primary.proofs.AheadLemmas.{Expects-cleared, Expects-freed, IsAheadOf-cleared, IsAheadOf-freed, extents-after_groups, laid-groups}

-- ---- lists of entries

pub entries_of-append : (lists others : List FreeList) → entries_of_lists (lists ++ others) ≡ entries_of_lists lists ++ entries_of_lists others
entries_of-append lists others = flat_map-append (λ (list : FreeList). list.entries.items) lists others

told_last : (notices : List Freed) (freed : Freed) (entries : List EntryNo) → freed.entries.items ≡ entries → entries_told (notices ++ freed ∷ []) ≡ entries_told notices ++ entries
told_last notices freed entries is =
    flat_map-append (λ (notice : Freed). notice.entries.items) notices (freed ∷ []) ∙ ap (λ last. entries_told notices ++ last) (append-nil freed.entries.items ∙ is)

told_extents_last : (notices : List Freed) (freed : Freed) (extents : List Extent) → freed.extents.items ≡ extents → extents_told (notices ++ freed ∷ []) ≡ extents_told notices ++ extents
told_extents_last notices freed extents is =
    flat_map-append (λ (notice : Freed). notice.extents.items) notices (freed ∷ []) ∙ ap (λ last. extents_told notices ++ last) (append-nil freed.extents.items ∙ is)

-- ---- the lists that wait go aside

-- where no group waits, all that waits may stand aside
pub Leads-aside : (contents : Contents) (items : List Work) (aside : List FreeList) (s : Sequencing) (notices : List Freed) → groups_of items ≡ []
    → Leads contents items aside s notices → Leads contents [] (aside ++ lists_of items) s notices
Leads-aside contents items aside s notices none leads =
    let same : after_work contents items ≡ contents = ap (after_groups contents) none in
    let listed : AreEnded contents (entries_of_lists (aside ++ lists_of items) ++ s.ended) =
    subst (λ (c : Contents). AreEnded c (entries_of_lists (aside ++ lists_of items) ++ s.ended)) same leads.listed in
    record {
      work_is = tt;
      epochs = tt;
      stands = subst (IsAheadOf s) same leads.stands;
      expects = subst (λ (c : Contents). Expects s c (entries_told notices) (extents_told notices)) same leads.expects;
      aside_ended = AreEnded-first contents (entries_of_lists (aside ++ lists_of items)) s.ended listed;
      listed = subst (λ (lists : List FreeList). AreEnded contents (entries_of_lists lists ++ s.ended)) (sym (append-nil (aside ++ lists_of items))) listed;
    }

-- ---- the first list aside is freed

-- what waits is lawful without them, where the lists in it have none of them
AreWork-freed : (contents : Contents) (entries : List EntryNo) (items : List Work) → IsConsistent contents → AreEnded contents entries
    → ((i : ℕ) → IsTrue (is_listed i (entries_of_lists (lists_of items))) → is_listed i entries ≡ false) → AreWork contents items → AreWork (after_free entries contents) items
AreWork-freed contents entries [] consistent ended apart are = tt
AreWork-freed contents entries (work.Commit group ∷ items) consistent ended apart are = (
  IsGroup-freed contents entries group consistent ended are.0,
  subst (λ (c : Contents). AreWork c items) (sym (after_group-without (λ i. is_listed i entries) contents group consistent (AllEnded-listed contents entries ended) are.0))
      (AreWork-freed (after_group contents group) entries items (IsConsistent-after_group contents group consistent are.0)
      (AreEnded-after_group contents group entries consistent are.0 ended) apart are.1),
)
AreWork-freed contents entries (work.Free list ∷ items) consistent ended apart are = (
  AreEnded-without (λ i. is_listed i entries) contents list.entries.items (λ i listed. apart i (listed-front i list.entries.items (entries_of_lists (lists_of items)) listed)) are.0,
  AreWork-freed contents entries items consistent ended (λ i listed. apart i (listed-back i list.entries.items (entries_of_lists (lists_of items)) listed)) are.1,
)
  where
    listed-front : (i : ℕ) (a b : List EntryNo) → IsTrue (is_listed i a) → IsTrue (is_listed i (a ++ b))
    listed-front i a b listed = listed-append i a b ∙ or_left (is_listed i a) (is_listed i b) listed

    listed-back : (i : ℕ) (a b : List EntryNo) → IsTrue (is_listed i b) → IsTrue (is_listed i (a ++ b))
    listed-back i a b listed = listed-append i a b ∙ or_right (is_listed i a) (is_listed i b) listed

module _ (contents : Contents) (items : List Work) (list : FreeList) (rest : List FreeList) (s : Sequencing) (notices : List Freed) (freed : Freed)
    (consistent : IsConsistent contents) (laid : AreLaid contents) (leads : Leads contents items (list ∷ rest) s notices)
    (entries_are : freed.entries.items ≡ list.entries.items) (extents_are : freed.extents.items ≡ extents_of contents.versions list.entries.items) where
  abbrev entries : List EntryNo
  entries = list.entries.items

  abbrev others : List EntryNo
  others = entries_of_lists (rest ++ lists_of items) ++ s.ended

  abbrev last : Contents
  last = after_work contents items

  ended : AreEnded contents entries
  ended = AreEnded-first contents entries (entries_of_lists rest) leads.aside_ended

  groups : AreGroups contents (groups_of items)
  groups = AreGroups-of-work contents items leads.work_is

  ended_last : AreEnded last entries
  ended_last = AreEnded-after_groups contents (groups_of items) entries consistent groups ended

  consistent_last : IsConsistent last
  consistent_last = IsConsistent-after_groups contents (groups_of items) consistent groups

  after_is : after_free entries last ≡ after_work (after_free entries contents) items
  after_is = after_groups-freed contents entries (groups_of items) consistent ended groups

  -- each entry is listed once
  all_listed : AreEnded last (entries ++ others)
  all_listed = subst (AreEnded last) (append_assoc entries (entries_of_lists (rest ++ lists_of items)) s.ended) leads.listed

  in_others : (i : ℕ) → IsTrue (is_listed i (entries_of_lists (lists_of items))) → IsTrue (is_listed i others)
  in_others i listed =
      let back = listed-append i (entries_of_lists rest) (entries_of_lists (lists_of items))
      ∙ or_right (is_listed i (entries_of_lists rest)) (is_listed i (entries_of_lists (lists_of items))) listed in
      listed-append i (entries_of_lists (rest ++ lists_of items)) s.ended
      ∙ or_left (is_listed i (entries_of_lists (rest ++ lists_of items))) (is_listed i s.ended)
      (subst (λ (all : List EntryNo). IsTrue (is_listed i all)) (sym (entries_of-append rest (lists_of items))) back)

  beside : (i : ℕ) → IsTrue (is_listed i (entries_of_lists (lists_of items))) → is_listed i entries ≡ false
  beside i listed =
      false_from_ne_true (is_listed i entries) (λ also. both_ways (is_listed i others) (AreEnded-apart last entries others all_listed i also) (in_others i listed))

  expects_freed : Expects s (after_free entries last) (entries_told (notices ++ freed ∷ [])) (extents_told (notices ++ freed ∷ []))
  expects_freed =
      let extents : freed.extents.items ≡ extents_of last.versions entries = extents_are ∙ sym (extents-after_groups contents (groups_of items) entries consistent groups ended) in
      subst (λ (e : List EntryNo). Expects s (after_free entries last) e (extents_told (notices ++ freed ∷ []))) (sym (told_last notices freed entries entries_are))
      (subst (λ (x : List Extent). Expects s (after_free entries last) (entries_told notices ++ entries) x) (sym (told_extents_last notices freed (extents_of last.versions entries) extents))
      (Expects-freed s last entries consistent_last leads.stands ended_last (laid-groups contents (groups_of items) laid groups) (entries_told notices) (extents_told notices) leads.expects))

  pub Leads-freed : Leads (after_free entries contents) items rest s (notices ++ freed ∷ [])
  Leads-freed = record {
    work_is = AreWork-freed contents entries items consistent ended beside leads.work_is;
    epochs = leads.epochs;
    stands = subst (IsAheadOf s) after_is (IsAheadOf-freed s last entries consistent_last leads.stands ended_last);
    expects = subst (λ (c : Contents). Expects s c (entries_told (notices ++ freed ∷ [])) (extents_told (notices ++ freed ∷ []))) after_is expects_freed;
    aside_ended = AreEnded-freed contents entries (entries_of_lists rest) leads.aside_ended;
    listed = subst (λ (c : Contents). AreEnded c others) after_is (AreEnded-freed last entries others all_listed);
  }

-- ---- a gap is cleared

pub Leads-cleared : (contents new : Contents) (s : Sequencing) (notices : List Freed) (freed : Freed) → Leads contents [] [] s notices → Clears contents freed.entries.items new
    → freed.extents.items ≡ [] → Leads new [] [] s (notices ++ freed ∷ [])
Leads-cleared contents new s notices freed leads clears none =
    record {
      work_is = tt;
      epochs = tt;
      stands = IsAheadOf-cleared s contents new freed.entries.items leads.stands clears;
      expects =
          subst (λ (e : List EntryNo). Expects s new e (extents_told (notices ++ freed ∷ []))) (sym (told_last notices freed freed.entries.items refl))
          (subst (λ (x : List Extent). Expects s new (entries_told notices ++ freed.entries.items) x) (sym (told_extents_last notices freed [] none ∙ append-nil (extents_told notices)))
          (Expects-cleared s contents new freed.entries.items leads.stands clears (entries_told notices) (extents_told notices) leads.expects));
      aside_ended = tt;
      listed = AreEnded-moved contents new s.ended (ap (λ (r : Record). r.layout) clears.current) clears.lines_are (λ i listed. ap is_ended_version (clears.versions i) ∙ AllEnded-listed contents s.ended leads.listed i listed) leads.listed;
    }

-- ---- the sequencer is told

pub Leads-accepted : (contents : Contents) (items : List Work) (aside : List FreeList) (old new : Sequencing) (freed : Freed) (notices : List Freed) → Leads contents items aside old (freed ∷ notices)
    → TakesBack old freed.entries.items freed.extents.items new
    → ((c : Contents) (e : List EntryNo) (x : List Extent) → IsAheadOf old c → Expects old c (freed.entries.items ++ e) (freed.extents.items ++ x) → IsAheadOf new c × Expects new c e x)
    → Leads contents items aside new notices
Leads-accepted contents items aside old new freed notices leads takes stands =
    let last = after_work contents items in
    search (
      rules,
      stands last (entries_told notices) (extents_told notices) leads.stands leads.expects,
      subst (λ (ended : List EntryNo). AreEnded last (entries_of_lists (aside ++ lists_of items) ++ ended)) (sym (ap (λ (s : Sequencing). s.ended) takes.after)) leads.listed,
    )
