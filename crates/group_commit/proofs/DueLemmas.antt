-- What is known where a step is due.
use Rattle.std.proofs.Common.{◌≡◌, ◌≤◌, ℕ, Bool, true, false, cond, ◌&&◌, List, [], ◌∷◌, ◌++◌, map, refl, sym, ap, nat_lt, length, Global, ◌∙◌, true≢false}
use Rattle.std.specs.declared.collections.VecDeque.{VecDeque}
use Rattle.std.proofs.lemmas.Bool.{leb-true}
use Rattle.model.specs.declared.group.Group.{Group}
use Rattle.model.specs.declared.work.FreeList.{FreeList}
use Rattle.model.specs.declared.work.Work.{Work}
use Rattle.model.specs.declared.work.Work.TheVariants as work
use Rattle.model.specs.Group.{Contents}
use Rattle.pipes.specs.Waiting.{Waiting}
use Rattle.group_commit.specs.Due.{due_beside, due_now, due_of, has_group, reached_by}
use Rattle.group_commit.specs.Group.{groups_of, lists_of}
use Rattle.group_commit.specs.declared.committer.Committer.{Committer}
use Rattle.group_commit.specs.declared.due.Due.{Due}
use Rattle.group_commit.specs.declared.due.Due.TheVariants as due
use Rattle.group_commit.specs.declared.stage.Stage.{Stage}
use Rattle.group_commit.specs.declared.stage.Stage.TheVariants.{Ready, Durable, Shown}

-- ---- what waits

pub group-behind : (lists : List FreeList) (group : Group) (rest : List Work) → has_group (map work.Free lists ++ work.Commit group ∷ rest) ≡ true
group-behind [] group rest = refl
group-behind (list ∷ lists) group rest = group-behind lists group rest

nothing-waits : (items : List Work) → has_group items ≡ false → lists_of items ≡ [] → items ≡ []
nothing-waits [] none empty = refl
nothing-waits (work.Commit group ∷ items) none empty = absurd (true≢false none)
nothing-waits (work.Free list ∷ items) none empty = cc

pub no-groups : (items : List Work) → has_group items ≡ false → groups_of items ≡ []
no-groups [] none = refl
no-groups (work.Commit group ∷ items) none = absurd (true≢false none)
no-groups (work.Free list ∷ items) none = no-groups items none

neither : (aside lists : List FreeList) → aside ++ lists ≡ [] → (aside ≡ []) × (lists ≡ [])
neither [] lists none = (refl, none)
neither (list ∷ aside) lists none = cc

-- ---- of two steps

if-true : (b : Bool) (step : Due) → cond b step due.Nothing ≡ step → (step ≡ due.Nothing → ⊥) → b ≡ true
if-true true step is not = refl
if-true false step is not = absurd (not (sym is))

if-one : (b : Bool) (step other : Due) → cond b step due.Nothing ≡ other → (step ≡ other → ⊥) → other ≡ due.Nothing
if-one true step other is not = absurd (not is)
if-one false step other is not = sym is

both : (a b : Bool) → (a && b) ≡ true → (a ≡ true) × (b ≡ true)
both true true is = (refl, refl)
both true false is = absurd (true≢false (sym is))
both false b is = absurd (true≢false (sym is))

not-taken : (room some : Bool) (step other : Due) → cond (room && some) due.Commit step ≡ other → (due.Commit ≡ other → ⊥) → (room ≡ true → some ≡ false) × (step ≡ other)
not-taken true true step other is not = absurd (not is)
not-taken true false step other is not = (λ e. refl, is)
not-taken false some step other is not = (λ e. absurd (true≢false (sym e)), is)

-- ---- beside groups

beside-free : (lists : List FreeList) (has_room has_gap : Bool) (remote : ℕ) → due_beside lists has_room has_gap remote ≡ due.Free
    → (list : FreeList) × (rest : List FreeList) × (lists ≡ list ∷ rest) × (list.position ≤ remote)
beside-free [] has_room has_gap remote is = absurd (let nothing = if-one (has_room && has_gap) due.Clear due.Free is (λ e. cc) in cc)
beside-free (list ∷ rest) has_room has_gap remote is = (list, rest, refl, leb-true list.position remote (if-true _ due.Free is (λ e. cc)))

beside-clear : (lists : List FreeList) (has_room has_gap : Bool) (remote : ℕ) → due_beside lists has_room has_gap remote ≡ due.Clear
    → (lists ≡ []) × (has_room ≡ true) × (has_gap ≡ true)
beside-clear [] has_room has_gap remote is = let parts = both has_room has_gap (if-true (has_room && has_gap) due.Clear is (λ e. cc)) in (refl, parts.0, parts.1)
beside-clear (list ∷ rest) has_room has_gap remote is = absurd (let nothing = if-one _ due.Free due.Clear is (λ e. cc) in cc)

-- ---- a committer

-- nothing is in hand, no group may be taken, and the standby has passed the first list that is reached
pub record FreeIsDue (stage : Stage) (aside : List FreeList) (items : List Work) (has_room : Bool) (remote : ℕ) : Type 0 where
  pub ready : stage ≡ Ready
  pub none : has_room ≡ true → has_group items ≡ false
  pub list : FreeList
  pub rest : List FreeList
  pub reached : reached_by has_room aside items ≡ list ∷ rest
  pub passed : list.position ≤ remote

free-due : (stage : Stage) (aside : List FreeList) (items : List Work) (has_room has_gap : Bool) (remote : ℕ) → due_of stage aside items has_room has_gap remote ≡ due.Free
    → FreeIsDue stage aside items has_room remote
free-due Ready aside items has_room has_gap remote is =
    let parts = not-taken has_room (has_group items) (due_beside (reached_by has_room aside items) has_room has_gap remote) due.Free is (λ e. cc) in
    let first = beside-free (reached_by has_room aside items) has_room has_gap remote parts.1 in
    record { ready = refl; none = parts.0; list = first.0; rest = first.1; reached = first.2; passed = first.3 }
free-due (Durable groups) aside items has_room has_gap remote is = cc
free-due (Shown groups) aside items has_room has_gap remote is = cc

-- nothing is in hand, nothing waits or stands aside, the link has room, and the record has a gap
pub record ClearIsDue (stage : Stage) (aside : List FreeList) (items : List Work) (has_room has_gap : Bool) : Type 0 where
  pub ready : stage ≡ Ready
  pub room : has_room ≡ true
  pub no_work : items ≡ []
  pub no_aside : aside ≡ []
  pub gap : has_gap ≡ true

clear-due : (stage : Stage) (aside : List FreeList) (items : List Work) (has_room has_gap : Bool) (remote : ℕ) → due_of stage aside items has_room has_gap remote ≡ due.Clear
    → ClearIsDue stage aside items has_room has_gap
clear-due Ready aside items has_room has_gap remote is =
    let parts = not-taken has_room (has_group items) (due_beside (reached_by has_room aside items) has_room has_gap remote) due.Clear is (λ e. cc) in
    let so = beside-clear (reached_by has_room aside items) has_room has_gap remote parts.1 in
    let none = neither aside (lists_of items) (sym (ap (λ (room : Bool). reached_by room aside items) so.1) ∙ so.0) in
    record { ready = refl; room = so.1; no_work = nothing-waits items (parts.0 so.1) none.1; no_aside = none.0; gap = so.2 }
clear-due (Durable groups) aside items has_room has_gap remote is = cc
clear-due (Shown groups) aside items has_room has_gap remote is = cc

-- ---- a committer's own

module _ {E : Type 0} (contents : E → Contents) (committer : Committer E) (waiting : Waiting Work) (has_room : Bool) (remote : ℕ) where
  abbrev now : Due
  now = due_now contents committer waiting has_room remote

  abbrev has_gap : Bool
  has_gap = nat_lt 0 (length (contents committer.engine).current.gaps.items)

  pub free-now : now ≡ due.Free → FreeIsDue committer.stage committer.aside.items waiting.items has_room remote
  free-now is = free-due committer.stage committer.aside.items waiting.items has_room has_gap remote is

  pub clear-now : now ≡ due.Clear → ClearIsDue committer.stage committer.aside.items waiting.items has_room has_gap
  clear-now is = clear-due committer.stage committer.aside.items waiting.items has_room has_gap remote is

  pub raise-now : (groups : VecDeque Group Global) → committer.stage ≡ Durable groups → now ≡ due.Raise
  raise-now groups is = ap (λ (stage : Stage). due_of stage committer.aside.items waiting.items has_room has_gap remote) is

  pub hand-now : (groups : VecDeque Group Global) → committer.stage ≡ Shown groups → now ≡ due.Hand
  hand-now groups is = ap (λ (stage : Stage). due_of stage committer.aside.items waiting.items has_room has_gap remote) is
