-- Groups that are committed one after another, one step at a time.
use Rattle.std.proofs.Common.{◌≡◌, ◌⊎◌, ℕ, zero, suc, ◌+◌, ◌<◌, ◌≤◌, List, [], ◌∷◌, ◌++◌, length, get_or, max, take, take_all, inl, inr, refl, sym, ap, subst, ◌∙◌, arith}
use Rattle.pmem.specs.Device.{State}
use Rattle.pmem.specs.Runs.{LeavesOnly}
use Rattle.pmem.proofs.Leaving.{LeavesOnly-then, LeavesOnly-weaken}
use Rattle.model.specs.declared.group.Group.{Group}
use Rattle.model.specs.declared.group.TheConstants.{MAX_PARTS}
use Rattle.model.specs.declared.image.TheConstants.{COUNTER_LIMIT}
use Rattle.model.specs.declared.record.Record.{Record}
use Rattle.model.specs.declared.record.Role.TheVariants.{Newcomer}
use Rattle.model.specs.Floor.{floored, with_floor}
use Rattle.model.specs.Group.{Contents, IsGroup, after_group, next_record}
use Rattle.model.specs.Image.{Image}
use Rattle.wbl_record.specs.Current.{IsLawful}
use Rattle.wbl_engine.specs.Committing.{under_floor}
use Rattle.wbl_engine.specs.CommittingAll.{AfterSome, AreGroups, CommitsEach, ExhaustsOne, KeepsSome, after_commits}
use Rattle.wbl_engine.specs.Contents.{Exhausts, IsDurable, Keeps, Same}
use Rattle.wbl_engine.proofs.CommitAndFree.{same_is}
use Rattle.wbl_engine.proofs.StagingLemmas.{take-item}

-- ---- the floor of the record is nothing to a group

group_under : (floor : ℕ) (contents : Contents) (group : Group) → IsGroup contents group → IsGroup (under_floor floor contents) group
group_under floor contents group asked =
    record {
      epoch = asked.epoch;
      before = asked.before;
      some = asked.some;
      few = asked.few;
      parts = asked.parts;
      placed = asked.placed;
      fitting = asked.fitting;
      unused = asked.unused;
      apart = asked.apart;
    }

pub groups_under : (floor : ℕ) (contents : Contents) (groups : List Group) → AreGroups contents groups → AreGroups (under_floor floor contents) groups
groups_under floor contents [] asked = tt
groups_under floor contents (group ∷ groups) asked = (
  group_under floor contents group asked.0,
  groups_under floor (after_group contents group) groups asked.1,
)

exhausts_under : (floor : ℕ) (contents : Contents) (groups : List Group) → ExhaustsOne (under_floor floor contents) groups → ExhaustsOne contents groups
exhausts_under floor contents [] one = one
exhausts_under floor contents (group ∷ groups) (inl this) = inl this
exhausts_under floor contents (group ∷ groups) (inr later) = inr (exhausts_under floor (after_group contents group) groups later)

under_exhausts : (floor : ℕ) (contents : Contents) (groups : List Group) → ExhaustsOne contents groups → ExhaustsOne (under_floor floor contents) groups
under_exhausts floor contents [] one = one
under_exhausts floor contents (group ∷ groups) (inl this) = inl this
under_exhausts floor contents (group ∷ groups) (inr later) = inr (under_exhausts floor (after_group contents group) groups later)

-- ---- one group after those before it

pub group_at : (floor : ℕ) (contents : Contents) (groups : List Group) (i : ℕ) (d : Group) → i < length groups → AreGroups contents groups
    → IsGroup (after_commits floor contents (take i groups)) (get_or groups i d)
group_at floor contents [] i d below asked = absurd (omega arith)
group_at floor contents (group ∷ groups) zero d below asked = asked.0
group_at floor contents (group ∷ groups) (suc i) d below asked =
    group_at floor (after_group (floored floor contents) group) groups i d (omega arith)
    (groups_under (max contents.current.floor floor) (after_group contents group) groups asked.1)

after_last : (floor : ℕ) (contents : Contents) (groups : List Group) (group : Group)
    → after_commits floor contents (groups ++ group ∷ []) ≡ after_group (floored floor (after_commits floor contents groups)) group
after_last floor contents [] group = refl
after_last floor contents (first ∷ groups) group = after_last floor (after_group (floored floor contents) first) groups group

pub after_more : (floor : ℕ) (contents : Contents) (groups : List Group) (i : ℕ) (group : Group) → i < length groups → group ≡ get_or groups i group
    → after_commits floor contents (take (i + 1) groups) ≡ after_group (floored floor (after_commits floor contents (take i groups))) group
after_more floor contents groups i group below is =
    ap (after_commits floor contents) (take-item groups i group below is) ∙ after_last floor contents (take i groups) group

-- one more commit
each_last : (floor : ℕ) (contents : Contents) (groups : List Group) (group : Group) (a b c : State) → CommitsEach floor contents groups a b
    → LeavesOnly b c (λ image. Keeps (after_commits floor contents groups) image ⊎ Keeps (after_group (floored floor (after_commits floor contents groups)) group) image)
    → IsDurable c (after_group (floored floor (after_commits floor contents groups)) group) → CommitsEach floor contents (groups ++ group ∷ []) a c
each_last floor contents [] group a b c first second durable =
    (c, subst (λ (d : State). LeavesOnly d c (λ image. Keeps contents image ⊎ Keeps (after_group (floored floor contents) group) image)) first second, durable, refl)
each_last floor contents (other ∷ groups) group a b c first second durable =
    let (between, leaves, durable', rest) = first in
    (between, leaves, durable', each_last floor (after_group (floored floor contents) other) groups group between b c rest second durable)

-- ---- counters

pub exhausts_at : (floor : ℕ) (contents : Contents) (groups : List Group) (i : ℕ) (d : Group) → i < length groups
    → Exhausts (after_commits floor contents (take i groups)) (get_or groups i d) → ExhaustsOne contents groups
exhausts_at floor contents [] i d below here = absurd (omega arith)
exhausts_at floor contents (group ∷ groups) zero d below here = inl here
exhausts_at floor contents (group ∷ groups) (suc i) d below here =
    inr (exhausts_under (max contents.current.floor floor) (after_group contents group) groups
    (exhausts_at floor (after_group (floored floor contents) group) groups i d (omega arith) here))

exhausts_last : (floor : ℕ) (contents : Contents) (groups : List Group) (group : Group) → ExhaustsOne contents (groups ++ group ∷ [])
    → ExhaustsOne contents groups ⊎ Exhausts (after_commits floor contents groups) group
exhausts_last floor contents [] group (inl here) = inr here
exhausts_last floor contents [] group (inr none) = absurd none
exhausts_last floor contents (first ∷ groups) group (inl here) = inl (inl here)
exhausts_last floor contents (first ∷ groups) group (inr later) =
    elim (exhausts_last floor (after_group (floored floor contents) first) groups group
    (under_exhausts (max contents.current.floor floor) (after_group contents first) (groups ++ group ∷ []) later)) [
      | inl before ↦ inl (inr (exhausts_under (max contents.current.floor floor) (after_group contents first) groups before))
      | inr here ↦ inr here
    ]

-- a record that obeys its rules has no counter at the limit
pub fits_lawful : (floor : ℕ) (contents : Contents) (group : Group) (next : Record) → next ≡ next_record (with_floor floor contents.current) group
    → IsLawful next → ¬ (contents.current.role ≡ Newcomer) → ¬ Exhausts contents group
fits_lawful floor contents group next is lawful other (inl room) = omega (arith, room, lawful.room, ap (λ (r : Record). r.cd) is)
fits_lawful floor contents group next is lawful other (inr (inl position)) = omega (arith, position, lawful.position, ap (λ (r : Record). r.position) is)
fits_lawful floor contents group next is lawful other (inr (inr (inl number))) = omega (arith, number, lawful.number, ap (λ (r : Record). r.number) is)
fits_lawful floor contents group next is lawful other (inr (inr (inr (inl epoch)))) = omega (arith, epoch.1, lawful.epoch, ap (λ (r : Record). r.epoch) is)
fits_lawful floor contents group next is lawful other (inr (inr (inr (inr newcomer)))) = other newcomer

pub fits_more : (floor : ℕ) (contents : Contents) (groups : List Group) (i : ℕ) (group : Group) → i < length groups → group ≡ get_or groups i group
    → ¬ ExhaustsOne contents (take i groups) → ¬ Exhausts (after_commits floor contents (take i groups)) group → ¬ ExhaustsOne contents (take (i + 1) groups)
fits_more floor contents groups i group below is before here one =
    elim (exhausts_last floor contents (take i groups) group (subst (ExhaustsOne contents) (take-item groups i group below is) one)) [
      | inl earlier ↦ before earlier
      | inr now ↦ here now
    ]

-- ---- the step of a loop: `now` is what is there before the group at index i

-- a counter of the record after the group would reach the limit
abbrev pub IsLast : Record → Group → Type 0
IsLast r group =
    let next = next_record r group in
    (COUNTER_LIMIT ≤ next.cd) ⊎ (COUNTER_LIMIT ≤ next.position) ⊎ (COUNTER_LIMIT ≤ next.number) ⊎ ((r.epoch < next.epoch) × (COUNTER_LIMIT ≤ next.epoch)) ⊎ (r.role ≡ Newcomer)

module _ (floor : ℕ) (contents : Contents) (groups : List Group) (i : ℕ) (group : Group) (below : i < length groups) (is : group ≡ get_or groups i group) where
  abbrev here : Contents
  here = after_commits floor contents (take i groups)

  asked_here : AreGroups contents groups → IsGroup here group
  asked_here asked = subst (IsGroup here) (sym is) (group_at floor contents groups i group below asked)

  exhausts_here : Exhausts here group → ExhaustsOne contents groups
  exhausts_here one = exhausts_at floor contents groups i group below (subst (Exhausts here) is one)

  -- by the record alone
  module _ (last : Record) (last_is : last ≡ here.current) where
    pub few_asked : AreGroups contents groups → length group.parts.items ≤ MAX_PARTS
    few_asked asked = (asked_here asked).few

    pub epoch_asked : AreGroups contents groups → last.epoch ≤ group.epoch
    epoch_asked asked =
        let e : last.epoch ≡ here.current.epoch = ap (λ (r : Record). r.epoch) last_is in
        elim (asked_here asked).epoch [
          | inl same ↦ omega (arith, e, same)
          | inr later ↦ omega (arith, e, later.1)
        ]

    pub last_exhausts : IsLast last group → ExhaustsOne contents groups
    last_exhausts one = exhausts_here (subst (λ (r : Record). IsLast r group) last_is one)

    pub last_more : (next : Record) → next ≡ next_record (with_floor floor last) group → next ≡ (after_commits floor contents (take (i + 1) groups)).current
    last_more next next_is =
        next_is ∙ ap (λ (r : Record). next_record (with_floor floor r) group) last_is
        ∙ sym (ap (λ (c : Contents). c.current) (after_more floor contents groups i group below is))

    pub last_fits : (next : Record) → next ≡ next_record (with_floor floor last) group → IsLawful next → ¬ (last.role ≡ Newcomer)
        → ¬ ExhaustsOne contents (take i groups) → ¬ ExhaustsOne contents (take (i + 1) groups)
    last_fits next next_is lawful other before =
        fits_more floor contents groups i group below is before
        (fits_lawful floor here group next (next_is ∙ ap (λ (r : Record). next_record (with_floor floor r) group) last_is) lawful
        (λ newcomer. other (ap (λ (r : Record). r.role) last_is ∙ newcomer)))

  -- by all that is there
  module _ (now : Contents) (now_is : now ≡ here) where
    pub now_asked : AreGroups contents groups → IsGroup now group
    now_asked asked = subst (λ (c : Contents). IsGroup c group) (sym now_is) (asked_here asked)

    module _ (f : ℕ) (floor_is : f ≡ max now.current.floor floor) where
      new_is : after_group (under_floor f now) group ≡ after_commits floor contents (take (i + 1) groups)
      new_is =
          ap (λ (l : ℕ). after_group (under_floor l now) group) floor_is ∙ ap (λ (c : Contents). after_group (floored floor c) group) now_is
          ∙ sym (after_more floor contents groups i group below is)

      pub moved_more : (new : Contents) → Same (after_group (under_floor f now) group) new → new ≡ after_commits floor contents (take (i + 1) groups)
      moved_more new same = same_is (after_group (under_floor f now) group) new same ∙ new_is

      pub each_more : (a b c : State) (new : Contents) → CommitsEach floor contents (take i groups) a b
          → LeavesOnly b c (λ image. Keeps now image ⊎ Keeps (after_group (under_floor f now) group) image)
          → Same (after_group (under_floor f now) group) new → IsDurable c new → CommitsEach floor contents (take (i + 1) groups) a c
      each_more a b c new first second same durable =
          let here_new : after_group (under_floor f now) group ≡ after_group (floored floor here) group =
          ap (λ (l : ℕ). after_group (under_floor l now) group) floor_is ∙ ap (λ (c : Contents). after_group (floored floor c) group) now_is in
          subst (λ (gs : List Group). CommitsEach floor contents gs a c) (sym (take-item groups i group below is))
          (each_last floor contents (take i groups) group a b c first
          (LeavesOnly-weaken (λ image. Keeps here image ⊎ Keeps (after_group (floored floor here) group) image) (λ image. either image here_new) second)
          (subst (IsDurable c) (same_is (after_group (under_floor f now) group) new same ∙ here_new) durable))
        where
          either : (image : Image) → after_group (under_floor f now) group ≡ after_group (floored floor here) group
              → Keeps now image ⊎ Keeps (after_group (under_floor f now) group) image → Keeps here image ⊎ Keeps (after_group (floored floor here) group) image
          either image here_new (inl keeps) = inl (subst (λ (c : Contents). Keeps c image) now_is keeps)
          either image here_new (inr keeps) = inr (subst (λ (c : Contents). Keeps c image) here_new keeps)

      pub moments_more : {a b c : State} → LeavesOnly a b (KeepsSome floor contents groups)
          → LeavesOnly b c (λ image. Keeps now image ⊎ Keeps (after_group (under_floor f now) group) image)
          → LeavesOnly a c (KeepsSome floor contents groups)
      moments_more first second = LeavesOnly-then first (LeavesOnly-weaken (KeepsSome floor contents groups) each second)
        where
          each : (image : Image) → Keeps now image ⊎ Keeps (after_group (under_floor f now) group) image → KeepsSome floor contents groups image
          each image (inl keeps) = (i, omega arith, subst (λ (c : Contents). Keeps c image) now_is keeps)
          each image (inr keeps) = (i + 1, omega arith, subst (λ (c : Contents). Keeps c image) new_is keeps)

-- ---- all of them

pub same_of : (old new : Contents) → new ≡ old → Same old new
same_of old new is = subst (λ (c : Contents). Same old c) (sym is) (record { current = refl; lines = refl; versions = λ i. refl; is_free = λ i. refl })

pub all_same : (floor : ℕ) (contents : Contents) (groups : List Group) (i : ℕ) (now : Contents) → length groups ≤ i
    → now ≡ after_commits floor contents (take i groups) → Same (after_commits floor contents groups) now
all_same floor contents groups i now all is =
    same_of (after_commits floor contents groups) now (is ∙ ap (after_commits floor contents) (take_all i groups all))

pub all_each : (floor : ℕ) (contents : Contents) (groups : List Group) (i : ℕ) (a b : State) → length groups ≤ i → CommitsEach floor contents (take i groups) a b
    → CommitsEach floor contents groups a b
all_each floor contents groups i a b all each = subst (λ (gs : List Group). CommitsEach floor contents gs a b) (take_all i groups all) each

pub all_some : (floor : ℕ) (contents : Contents) (groups : List Group) {now : Contents} → Same (after_commits floor contents groups) now
    → AfterSome floor contents groups (λ some. Same some now)
all_some floor contents groups {now} same = (
  length groups,
  omega arith,
  subst (λ (gs : List Group). Same (after_commits floor contents gs) now) (sym (take_all (length groups) groups (omega arith))) same,
)

-- a newcomer takes no groups
pub newcomer_exhausts : (contents : Contents) (groups : List Group) → ¬ (groups ≡ []) → contents.current.role ≡ Newcomer → ExhaustsOne contents groups
newcomer_exhausts contents [] some newcomer = absurd (some refl)
newcomer_exhausts contents (group ∷ groups) some newcomer = inl (inr (inr (inr (inr newcomer))))
