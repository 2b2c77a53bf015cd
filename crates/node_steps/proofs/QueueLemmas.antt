-- What waits for the committer stands for what waits for the machine's: the step that is due may happen there.
use Rattle.std.proofs.Common.{◌≡◌, ℕ, ◌≤◌, Bool, true, false, not, ◌&&◌, cond, nat_lt, nat_le, List, [], ◌∷◌, ◌++◌, refl, sym, ap, ap₂, ◌∙◌, arith, rules}
use Rattle.std.proofs.lemmas.Bool.{le-leb, leb-true}
use Rattle.std.proofs.lemmas.List.{map-append}
use Rattle.model.specs.declared.call.Call.{Call}
use Rattle.model.specs.declared.work.FreeList.{FreeList}
use Rattle.model.specs.declared.work.Work.{Work}
use Rattle.model.specs.declared.work.Work.TheVariants as work
use Rattle.model.specs.Call.{is_nonempty}
use Rattle.group_commit.specs.Due.{due_beside, due_of, has_group, reached_by}
use Rattle.group_commit.specs.Group.{lists_of}
use Rattle.group_commit.specs.declared.due.Due.{Due}
use Rattle.group_commit.specs.declared.due.Due.TheVariants as due
use Rattle.group_commit.specs.declared.stage.Stage.TheVariants as committer_stage
use Rattle.machine.specs.declared.event.Event.TheVariants.{ClearGap, Commit, Free}
use Rattle.machine.specs.Event.{Commits, Frees, Stage as MachineStage, Work as MachineWork, World, first_is_within, from_group, has_room, is_ready, may_happen, reached_lists}
use Rattle.machine.specs.Event as machine
use Rattle.machine.specs.World as machine_stage
use Rattle.node_steps.specs.Committing.{Committing, CommittingRefines, Durable, Ready, Shown, Stage, StageRefines}
use Rattle.node_steps.specs.GroupSpan.{AreWorkOf, IsWorkOf, positions_of_lists}
use Rattle.node_steps.proofs.GroupSpanLemmas.{IsGroupOf-grows}

-- ---- while the list grows

IsWorkOf-grows : (calls more : List Call) (item : Work) (work : MachineWork) → IsWorkOf calls item work → IsWorkOf (calls ++ more) item work
IsWorkOf-grows calls more (work.Commit group) (Commits span) is = IsGroupOf-grows calls more group span is
IsWorkOf-grows calls more (work.Free list) (Frees position) is = is
IsWorkOf-grows calls more item work is = absurd is

pub AreWorkOf-grows : (calls more : List Call) (items : List Work) (works : List MachineWork) → AreWorkOf calls items works → AreWorkOf (calls ++ more) items works
AreWorkOf-grows calls more [] [] are = tt
AreWorkOf-grows calls more (item ∷ items) (work ∷ works) are = (IsWorkOf-grows calls more item work are.0, AreWorkOf-grows calls more items works are.1)
AreWorkOf-grows calls more items works are = absurd are

pub AreWorkOf-append : (calls : List Call) (items : List Work) (works : List MachineWork) (others : List Work) (more : List MachineWork) → AreWorkOf calls items works → AreWorkOf calls others more
    → AreWorkOf calls (items ++ others) (works ++ more)
AreWorkOf-append calls [] [] others more are are' = are'
AreWorkOf-append calls (item ∷ items) (work ∷ works) others more are are' = (are.0, AreWorkOf-append calls items works others more are.1 are')
AreWorkOf-append calls items works others more are are' = absurd are

-- ---- what is in it

pub nonempty-work : (calls : List Call) (items : List Work) (works : List MachineWork) → AreWorkOf calls items works → is_nonempty items ≡ is_nonempty works
nonempty-work calls [] [] are = refl
nonempty-work calls (item ∷ items) (work ∷ works) are = refl
nonempty-work calls items works are = absurd are

pub lists-work : (calls : List Call) (items : List Work) (works : List MachineWork) → AreWorkOf calls items works → positions_of_lists (lists_of items) ≡ machine.lists_of works
lists-work calls [] [] are = refl
lists-work calls (work.Commit group ∷ items) (Commits span ∷ works) are = lists-work calls items works are.1
lists-work calls (work.Free list ∷ items) (Frees position ∷ works) are = ap₂ (λ (p : ℕ) (ps : List ℕ). p ∷ ps) are.0 (lists-work calls items works are.1)
lists-work calls items works are = absurd (search (rules, are))

pub has_group-work : (calls : List Call) (items : List Work) (works : List MachineWork) → AreWorkOf calls items works → has_group items ≡ is_nonempty (from_group works)
has_group-work calls [] [] are = refl
has_group-work calls (work.Commit group ∷ items) (Commits span ∷ works) are = refl
has_group-work calls (work.Free list ∷ items) (Frees position ∷ works) are = has_group-work calls items works are.1
has_group-work calls items works are = absurd (search (rules, are))

-- ---- what is due

is_commit : Due → Bool
is_commit due.Commit = true
is_commit step = false

is_free : Due → Bool
is_free due.Free = true
is_free step = false

is_clear : Due → Bool
is_clear due.Clear = true
is_clear step = false

-- where no group may be taken
beside-commit : (lists : List FreeList) (room gap : Bool) (remote : ℕ) → is_commit (due_beside lists room gap remote) ≡ false
unfolding is_commit
beside-commit [] room gap remote = elim (room && gap) as (λ b. is_commit (cond b due.Clear due.Nothing) ≡ false) [ true ↦ refl | false ↦ refl ]
beside-commit (list ∷ lists) room gap remote = elim (nat_le list.position remote) as (λ b. is_commit (cond b due.Free due.Nothing) ≡ false) [ true ↦ refl | false ↦ refl ]

beside-free : (lists : List FreeList) (room gap : Bool) (remote : ℕ) → is_free (due_beside lists room gap remote) ≡ first_is_within remote (positions_of_lists lists)
unfolding is_free
beside-free [] room gap remote = elim (room && gap) as (λ b. is_free (cond b due.Clear due.Nothing) ≡ false) [ true ↦ refl | false ↦ refl ]
beside-free (list ∷ lists) room gap remote = elim (nat_le list.position remote) as (λ b. is_free (cond b due.Free due.Nothing) ≡ b) [ true ↦ refl | false ↦ refl ]

beside-clear : (gap : Bool) (remote : ℕ) → is_clear (due_beside [] true gap remote) ≡ gap
unfolding is_clear
beside-clear true remote = refl
beside-clear false remote = refl

beside-none : (lists : List FreeList) (list : FreeList) (rest : List FreeList) (room gap : Bool) (remote : ℕ) → is_clear (due_beside (lists ++ list ∷ rest) room gap remote) ≡ false
unfolding is_clear
beside-none [] list rest room gap remote = elim (nat_le list.position remote) as (λ b. is_clear (cond b due.Free due.Nothing) ≡ false) [ true ↦ refl | false ↦ refl ]
beside-none (first ∷ lists) list rest room gap remote = elim (nat_le first.position remote) as (λ b. is_clear (cond b due.Free due.Nothing) ≡ false) [ true ↦ refl | false ↦ refl ]

-- a group that waits, with room for it, is taken first
commit-first : (room some : Bool) (step : Due) → is_commit step ≡ false → is_commit (cond (room && some) due.Commit step) ≡ (some && room)
unfolding is_commit
commit-first true true step never = refl
commit-first true false step never = never
commit-first false true step never = never
commit-first false false step never = never

free-second : (room some : Bool) (step : Due) → is_free (cond (room && some) due.Commit step) ≡ (not (some && room) && is_free step)
unfolding is_free
free-second true true step = refl
free-second true false step = refl
free-second false true step = refl
free-second false false step = refl

clear-last : (aside : List FreeList) (items : List Work) (room gap : Bool) (remote : ℕ) → is_clear (due_of committer_stage.Ready aside items room gap remote)
    ≡ (room && not (is_nonempty items) && not (is_nonempty aside) && gap)
unfolding is_clear
clear-last [] items false gap remote = refl
clear-last (list ∷ aside) items false gap remote = beside-none [] list aside false gap remote
clear-last aside (work.Commit group ∷ items) true gap remote = refl
clear-last aside (work.Free list ∷ items) true gap remote =
    elim (has_group items) as (λ b. is_clear (cond b due.Commit (due_beside (aside ++ list ∷ lists_of items) true gap remote)) ≡ false) [
      | true ↦ refl
      | false ↦ beside-none aside list (lists_of items) true gap remote
    ]
clear-last [] [] true gap remote = beside-clear gap remote
clear-last (list ∷ aside) [] true gap remote = beside-none [] list (aside ++ []) true gap remote

-- ---- a mark that is as high

within-later : (low high : ℕ) (positions : List ℕ) → low ≤ high → first_is_within low positions ≡ true → first_is_within high positions ≡ true
within-later low high [] le is = is
within-later low high (position ∷ positions) le is = le-leb position high (omega (arith, le, leb-true position low is))

still-free : (commits : Bool) (low high : ℕ) (positions : List ℕ) → low ≤ high → (not commits && first_is_within low positions) ≡ true
    → (not commits && first_is_within high positions) ≡ true
still-free true low high positions le is = is
still-free false low high positions le is = within-later low high positions le is

-- ---- what is due may happen

-- the step that is due where the committer is so far with one group
abbrev pub due_at : Stage → List FreeList → List Work → Bool → Bool → ℕ → Due
due_at Ready aside items room gap remote = due_of committer_stage.Ready aside items room gap remote
due_at (Durable group) aside items room gap remote = due.Raise
due_at (Shown group) aside items room gap remote = due.Hand

reached-by : (room : Bool) (aside waits : List FreeList) → positions_of_lists (cond room (aside ++ waits) aside) ≡ cond room (positions_of_lists aside ++ positions_of_lists waits) (positions_of_lists aside)
reached-by true aside waits = map-append (λ (list : FreeList). list.position) aside waits
reached-by false aside waits = refl

nonempty-positions : (lists : List FreeList) → is_nonempty lists ≡ is_nonempty (positions_of_lists lists)
nonempty-positions [] = refl
nonempty-positions (list ∷ lists) = refl

module _ (w : World) (code : Committing) (room : Bool) (refines : CommittingRefines w.primary.calls code w.primary.committer) (room-is : room ≡ has_room w.primary.link.waiting) where
  abbrev calls : List Call
  calls = w.primary.calls

  -- the free lists that it has reached
  pub reached-positions : positions_of_lists (reached_by room code.aside code.waiting.items) ≡ reached_lists w
  reached-positions =
      let committer = w.primary.committer in
      reached-by room code.aside (lists_of code.waiting.items)
      ∙ ap₂ (λ (room : Bool) (aside : List ℕ). cond room (aside ++ positions_of_lists (lists_of code.waiting.items)) aside) room-is refines.aside
      ∙ ap (λ (waits : List ℕ). cond (has_room w.primary.link.waiting) (committer.aside ++ waits) committer.aside) (lists-work calls code.waiting.items committer.waiting refines.work)

  module _ (remote gaps : ℕ) where
    abbrev now : Due
    now = due_at code.stage code.aside code.waiting.items room (nat_lt 0 gaps) remote

    may-commit : (has_group code.waiting.items && room) ≡ (is_nonempty (from_group w.primary.committer.waiting) && has_room w.primary.link.waiting)
    may-commit = ap₂ (λ (some room : Bool). some && room) (has_group-work calls code.waiting.items w.primary.committer.waiting refines.work) room-is

    commit-is : is_commit now ≡ may_happen w Commit
    unfolding is_commit
    commit-is = by code.stage w.primary.committer.stage refines.stage_is
      where
        by : (stage : Stage) (stage' : MachineStage) → StageRefines calls stage stage'
            → is_commit (due_at stage code.aside code.waiting.items room (nat_lt 0 gaps) remote)
            ≡ (is_ready stage' && is_nonempty (from_group w.primary.committer.waiting) && has_room w.primary.link.waiting)
        by Ready machine_stage.Ready is =
            commit-first room (has_group code.waiting.items) (due_beside (reached_by room code.aside code.waiting.items) room (nat_lt 0 gaps) remote)
            (beside-commit (reached_by room code.aside code.waiting.items) room (nat_lt 0 gaps) remote) ∙ may-commit
        by (Durable group) (machine_stage.Durable span) is = refl
        by (Shown group) (machine_stage.Shown span) is = refl
        by stage stage' is = absurd is

    -- where a free list is due by a mark, it is covered by each that is as high
    free-is : (stage : Stage) (stage' : MachineStage) → StageRefines calls stage stage' → remote ≤ w.primary.link.remote
        → is_free (due_at stage code.aside code.waiting.items room (nat_lt 0 gaps) remote) ≡ true
        → (is_ready stage' && not (is_ready stage' && is_nonempty (from_group w.primary.committer.waiting) && has_room w.primary.link.waiting)
        && first_is_within w.primary.link.remote (reached_lists w)) ≡ true
    unfolding is_free
    free-is Ready machine_stage.Ready is reaches due_is =
        still-free (is_nonempty (from_group w.primary.committer.waiting) && has_room w.primary.link.waiting) remote w.primary.link.remote (reached_lists w) reaches
        (sym (free-second room (has_group code.waiting.items) (due_beside (reached_by room code.aside code.waiting.items) room (nat_lt 0 gaps) remote)
        ∙ ap₂ (λ (some first : Bool). not some && first) may-commit
        (beside-free (reached_by room code.aside code.waiting.items) room (nat_lt 0 gaps) remote ∙ ap (first_is_within remote) reached-positions)) ∙ due_is)
    free-is (Durable group) (machine_stage.Durable span) is reaches due_is = due_is
    free-is (Shown group) (machine_stage.Shown span) is reaches due_is = due_is
    free-is stage stage' is reaches due_is = absurd is

    clear-is : gaps ≡ w.primary.gaps → is_clear now ≡ may_happen w ClearGap
    unfolding is_clear
    clear-is same = by code.stage w.primary.committer.stage refines.stage_is
      where
        by : (stage : Stage) (stage' : MachineStage) → StageRefines calls stage stage'
            → is_clear (due_at stage code.aside code.waiting.items room (nat_lt 0 gaps) remote)
            ≡ (is_ready stage' && has_room w.primary.link.waiting && not (is_nonempty w.primary.committer.waiting) && not (is_nonempty w.primary.committer.aside) && nat_lt 0 w.primary.gaps)
        by Ready machine_stage.Ready is =
            clear-last code.aside code.waiting.items room (nat_lt 0 gaps) remote
            ∙ rw (room-is, nonempty-work calls code.waiting.items w.primary.committer.waiting refines.work, nonempty-positions code.aside, refines.aside, same) refl
        by (Durable group) (machine_stage.Durable span) is = refl
        by (Shown group) (machine_stage.Shown span) is = refl
        by stage stage' is = absurd is

    pub commit-enabled : now ≡ due.Commit → may_happen w Commit ≡ true
    unfolding is_commit
    commit-enabled is = sym commit-is ∙ ap is_commit is

    pub free-enabled : remote ≤ w.primary.link.remote → now ≡ due.Free → may_happen w Free ≡ true
    unfolding is_free
    free-enabled reaches is = free-is code.stage w.primary.committer.stage refines.stage_is reaches (ap is_free is)

    pub clear-enabled : gaps ≡ w.primary.gaps → now ≡ due.Clear → may_happen w ClearGap ≡ true
    unfolding is_clear
    clear-enabled same is = sym (clear-is same) ∙ ap is_clear is
