-- What is held behind one group more, and while the past grows.
use Rattle.std.proofs.Common.{◌≡◌, ◌⊎◌, ℕ, ◌+◌, ◌<◌, ◌≤◌, ◌++◌, inl, inr, Bool, true, false, cond, IsTrue, List, [], ◌∷◌, length, refl, sym, ap, subst, ◌∙◌, arith, add-zero, append-nil, le_refl}
use Rattle.std.proofs.lemmas.Bool.{both_ways, false_from_ne_true, or_cases, or_left, or_parts, or_right}
use Rattle.std.specs.List.{AllByRecursion}
use Rattle.kv_types.specs.declared.place.EntryNo.{EntryNo}
use Rattle.kv_types.specs.Keyspace.{Keyspace, play_all}
use Rattle.model.specs.declared.group.Group.{Group}
use Rattle.model.specs.declared.group.Part.{Part}
use Rattle.model.specs.declared.work.FreeList.{FreeList}
use Rattle.model.specs.declared.work.Work.{Work}
use Rattle.model.specs.declared.work.Work.TheVariants as work
use Rattle.model.specs.Call.{is_nonempty}
use Rattle.model.specs.Group.{AreEnded, Contents, IsGroup, after_group, changes_of_part, is_listed, last_position}
use Rattle.placing.proofs.BackLemmas.{listed-append}
use Rattle.placing.proofs.TakenLemmas.{All-append, All-map}
use Rattle.redis_core.specs.Sequencing.{HandsOut, Sequencing, ended_by_parts, newest_end}
use Rattle.standby_stream.specs.Delta.{Recalls}
use Rattle.wbl_engine.specs.CommittingAll.{AreGroups}
use Rattle.group_commit.specs.Group.{after_groups, groups_of, lists_of}
use Rattle.group_commit.specs.Working.{entries_of_lists}
use Rattle.group_commit.proofs.FreedLemmas.{AreEnded-apart}
use Rattle.group_commit.proofs.WorkLemmas.{groups_of-append, lists_of-append}
use Rattle.primary.specs.Recalling.{AgreeUpTo, HoldsEnded, IsHeld, IsRecalled, LeadAlong, Past, Remembers}
use Rattle.primary.proofs.RecallParts.{recalls-more}
use Rattle.primary.proofs.CommittedLemmas.{rises_within}

-- ---- parts along the past

-- they end where the last of them ends
pub last-along : (past : Past) (from : ℕ) (parts : List Part) → LeadAlong past from parts → last_position from parts ≡ from + length parts
last-along past from [] leads = sym (add-zero from)
last-along past from (part ∷ parts) leads =
    let rest = last-along past (from + 1) parts leads.2 in
    ap (λ n. last_position n parts) leads.0 ∙ rest ∙ omega arith

-- the newest end is above a position where it was so before, or where one of them ends something, if they begin no earlier
newest-above : (past : Past) (p from newest i : ℕ) (parts : List Part) → LeadAlong past from parts → p ≤ from → (p < newest) ⊎ IsTrue (is_listed i (ended_by_parts parts)) → p < newest_end newest parts
newest-above past p from newest i [] leads low (inl above) = above
newest-above past p from newest i [] leads low (inr listed) = cc
newest-above past p from newest i (part ∷ parts) leads low why =
    newest-above past p (from + 1) (cond (is_nonempty part.ended.items) part.position newest) i parts leads.2 (omega (arith, low)) (next part.ended.items why)
  where
    here : (ends : Bool) → p < newest → p < cond ends part.position newest
    here true above = omega (arith, leads.0, low)
    here false above = above

    next : (entries : List EntryNo) → (p < newest) ⊎ IsTrue (is_listed i (entries ++ ended_by_parts parts))
        → (p < cond (is_nonempty entries) part.position newest) ⊎ IsTrue (is_listed i (ended_by_parts parts))
    next entries (inl above) = inl (here (is_nonempty entries) above)
    next [] (inr listed) = inr listed
    next (entry ∷ entries) (inr listed) = inl (omega (arith, leads.0, low))

-- ---- groups along the past

rises-group : (contents : Contents) (group : Group) → IsGroup contents group → contents.current.position ≤ (after_group contents group).current.position
rises-group contents group is =
    subst (λ p. p ≤ last_position p group.parts.items) is.before (rises_within group.before contents.versions group.parts.items is.parts)

-- they lead on
pub rises-groups : (contents : Contents) (groups : List Group) → AreGroups contents groups → contents.current.position ≤ (after_groups contents groups).current.position
rises-groups contents [] are = le_refl contents.current.position
rises-groups contents (group ∷ groups) are = omega (arith, rises-group contents group are.0, rises-groups (after_group contents group) groups are.1)

-- what is held up to where the groups end, along a past that is the same up to there
module _ (Held More : ℕ → ℕ → Type 0) (past later : Past) (closed : ℕ) (more : (p i : ℕ) → p < closed → Held p i → More p i) (agree : AgreeUpTo closed past later) where
  pub along-more : (from : ℕ) (parts : List Part) → from + length parts ≤ closed → LeadAlong past from parts → LeadAlong later from parts
  along-more from [] within leads = tt
  along-more from (part ∷ parts) within leads = (
    leads.0,
    ap (λ (s : Keyspace). play_all s (changes_of_part part)) (agree from (omega (arith, within))) ∙ leads.1 ∙ sym (agree (from + 1) (omega (arith, within))),
    along-more (from + 1) parts (omega (arith, within)) leads.2,
  )

  holds-more : (from : ℕ) (parts : List Part) → from + length parts ≤ closed → LeadAlong past from parts → AllByRecursion (HoldsEnded Held) parts → AllByRecursion (HoldsEnded More) parts
  holds-more from [] within leads holds = tt
  holds-more from (part ∷ parts) within leads holds = (
    λ p i below listed. more p i (omega (arith, below, leads.0, within)) (holds.0 p i below listed),
    holds-more (from + 1) parts (omega (arith, within)) leads.2 holds.1,
  )

  pub recalled-more : (contents : Contents) (groups : List Group) → AreGroups contents groups → (after_groups contents groups).current.position ≤ closed → AllByRecursion (IsRecalled Held past) groups
      → AllByRecursion (IsRecalled More later) groups
  recalled-more contents [] are within recalled = tt
  recalled-more contents (group ∷ groups) are within recalled =
      let parts = group.parts.items in
      let ends = subst (λ p. last_position p parts ≡ group.before + length parts) are.0.before (last-along past group.before parts recalled.0.parts) in
      let fit : group.before + length parts ≤ closed = omega (arith, ends, rises-groups (after_group contents group) groups are.1, within) in (
        record { parts = along-more group.before parts fit recalled.0.parts; ended = holds-more group.before parts fit recalled.0.parts recalled.0.ended },
        recalled-more (after_group contents group) groups are.1 within recalled.1,
      )

-- ---- behind one group more

-- in none of the lists, as it is not among their entries
in_no_list : (p i : ℕ) (lists : List FreeList) → is_listed i (entries_of_lists lists) ≡ false → AllByRecursion (λ list. IsTrue (is_listed i list.entries.items) → p < list.position) lists
in_no_list p i [] none = tt
in_no_list p i (list ∷ lists) none =
    let parts = or_parts (is_listed i list.entries.items) (is_listed i (entries_of_lists lists)) (sym (listed-append i list.entries.items (entries_of_lists lists)) ∙ none) in
    (λ listed. absurd (both_ways (is_listed i list.entries.items) parts.0 listed), in_no_list p i lists parts.1)

-- What a part ends that is handed out: the newest end is then no earlier than the part.
abbrev IsHanded : ℕ → List EntryNo → Part → Type 0
IsHanded newest ended part = (p i : ℕ) → p < part.position → IsTrue (is_listed i part.ended.items) → (p < newest) × IsTrue (is_listed i ended)

handed-parts : (past : Past) (from newest : ℕ) (parts : List Part) → LeadAlong past from parts → AllByRecursion (IsHanded (newest_end newest parts) (ended_by_parts parts)) parts
handed-parts past from newest [] leads = tt
handed-parts past from newest (part ∷ parts) leads = (
  λ p i below listed.
      let among : IsTrue (is_listed i (part.ended.items ++ others)) = listed-append i part.ended.items others ∙ or_left (is_listed i part.ended.items) (is_listed i others) listed in
      (newest-above past p from newest i (part ∷ parts) leads (omega (arith, below, leads.0)) (inr among), among),
  All-map (IsHanded last others) (IsHanded last (part.ended.items ++ others)) later parts
      (handed-parts past (from + 1) (cond (is_nonempty part.ended.items) part.position newest) parts leads.2),
)
  where
    others : List EntryNo
    others = ended_by_parts parts

    last : ℕ
    last = newest_end newest (part ∷ parts)

    later : (other : Part) → IsHanded last others other → IsHanded last (part.ended.items ++ others) other
    later other handed p i below listed =
        let is = handed p i below listed in
        (is.0, listed-append i part.ended.items others ∙ or_right (is_listed i part.ended.items) (is_listed i others) is.1)

-- the parts that waited, along the past, left as one group, behind groups that lead to where they began
module _ (low position : ℕ) (past : Past) (contents after : Contents) (items : List Work) (aside : List FreeList) (group : Group) (old new : Sequencing) (at : contents.current.position ≡ position)
    (hands : HandsOut old group new) (waiting : LeadAlong past old.before old.waiting) (are : AreGroups contents (groups_of items))
    (before : old.before ≡ (after_groups contents (groups_of items)).current.position) (once : AreEnded after (entries_of_lists (aside ++ lists_of items) ++ new.ended))
    (remembers : Remembers low position past contents items aside old) where
  abbrev behind : List Work
  behind = items ++ work.Commit group ∷ []

  -- what was held before, and what is held now
  abbrev Held : ℕ → ℕ → Type 0
  Held = IsHeld (aside ++ lists_of items) old.ended old.newest

  abbrev More : ℕ → ℕ → Type 0
  More = IsHeld (aside ++ lists_of items) new.ended new.newest

  lists : lists_of behind ≡ lists_of items
  lists = lists_of-append items (work.Commit group ∷ []) ∙ append-nil (lists_of items)

  ended_now : new.ended ≡ old.ended ++ ended_by_parts old.waiting
  ended_now = ap (λ (s : Sequencing). s.ended) hands.after

  newest_now : new.newest ≡ newest_end old.newest old.waiting
  newest_now = ap (λ (s : Sequencing). s.newest) hands.after

  more : (p i : ℕ) → p < old.before → Held p i → More p i
  more p i below held = record {
    lists_are = held.lists_are;
    ended_is = λ listed.
        let among : IsTrue (is_listed i (old.ended ++ ended_by_parts old.waiting)) = subst (λ (entries : List EntryNo). IsTrue (is_listed i entries)) ended_now listed in
        let why : (p < old.newest) ⊎ IsTrue (is_listed i (ended_by_parts old.waiting)) =
        elim (or_cases (is_listed i old.ended) (is_listed i (ended_by_parts old.waiting)) (sym (listed-append i old.ended (ended_by_parts old.waiting)) ∙ among)) [
          | inl earlier ↦ inl (held.ended_is earlier)
          | inr now ↦ inr now
        ] in
        subst (λ n. p < n) (sym newest_now) (newest-above past p old.before old.newest i old.waiting waiting (omega (arith, below)) why);
  }

  -- what the group's own parts ended is listed now, and so in no free list
  handed_holds : (part : Part) → IsHanded (newest_end old.newest old.waiting) (ended_by_parts old.waiting) part → HoldsEnded More part
  handed_holds part handed p i below listed =
      let is = handed p i below listed in
      let there : IsTrue (is_listed i new.ended) =
      ap (is_listed i) ended_now ∙ listed-append i old.ended (ended_by_parts old.waiting) ∙ or_right (is_listed i old.ended) (is_listed i (ended_by_parts old.waiting)) is.1 in
      let all = entries_of_lists (aside ++ lists_of items) in
      record {
        lists_are = in_no_list p i (aside ++ lists_of items)
            (false_from_ne_true (is_listed i all) (λ among. both_ways (is_listed i new.ended) (AreEnded-apart after all new.ended once i among) there));
        ended_is = λ now. omega (arith, is.0, newest_now);
      }

  handed_out : IsRecalled More past group
  handed_out = record {
    parts = subst (λ n. LeadAlong past n group.parts.items) (sym hands.before) (subst (LeadAlong past old.before) (sym hands.all) waiting);
    ended = subst (AllByRecursion (HoldsEnded More)) (sym hands.all)
        (All-map (IsHanded (newest_end old.newest old.waiting) (ended_by_parts old.waiting)) (HoldsEnded More) handed_holds old.waiting (handed-parts past old.before old.newest old.waiting waiting));
  }

  pub remembers-grouped : Remembers low position past contents behind aside new
  remembers-grouped = record {
    earlier = subst (λ (xs : List FreeList). (p : ℕ) → low ≤ p → p < position → Recalls contents.versions (IsHeld (aside ++ xs) new.ended new.newest p) p (past p)) (sym lists)
        (λ p low_is below.
        recalls-more contents.versions (Held p) (More p) p (past p) (λ i. more p i (omega (arith, below, at, before, rises-groups contents (groups_of items) are))) (remembers.earlier p low_is below));
    groups = subst (λ (xs : List FreeList). AllByRecursion (IsRecalled (IsHeld (aside ++ xs) new.ended new.newest) past) (groups_of behind)) (sym lists)
        (subst (AllByRecursion (IsRecalled More past)) (sym (groups_of-append items (work.Commit group ∷ [])))
        (All-append (IsRecalled More past) (groups_of items) (group ∷ [])
        (recalled-more Held More past past old.before more (λ p le. refl) contents (groups_of items) are (omega (arith, before)) remembers.groups) (handed_out, tt)));
  }
