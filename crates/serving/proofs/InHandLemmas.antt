-- Where a step is due that commits groups, tells of one or hands one on.
use Rattle.std.proofs.Common.{◌≡◌, ◌≤◌, ℕ, Bool, true, false, true≢false, cond, ◌&&◌, nat_le, nat_lt, length, List, [], ◌∷◌, inl, inr, Result, refl, sym, ap, ◌∙◌, arith, not, lt-ltb}
use Rattle.std.proofs.lemmas.Bool.{cases_Bool, ltb-true}
use Rattle.pmem.specs.Device.{State}
use Rattle.kv_types.specs.declared.refusal.Refusal.{Refusal}
use Rattle.model.specs.declared.group.Group.{Group}
use Rattle.model.specs.declared.work.FreeList.{FreeList}
use Rattle.model.specs.declared.work.Work.{Work}
use Rattle.model.specs.Group.{Contents}
use Rattle.pipes.specs.Waiting.{Waiting}
use Rattle.group_commit.specs.Due.{due_beside, due_now, due_of, reached_by}
use Rattle.group_commit.specs.Working.{Takes}
use Rattle.group_commit.specs.declared.committer.Committer.{Committer}
use Rattle.group_commit.specs.declared.due.Due.{Due}
use Rattle.group_commit.specs.declared.due.Due.TheVariants as due
use Rattle.group_commit.specs.declared.stage.Done.{Done}
use Rattle.group_commit.specs.declared.stage.Stage.{Stage}
use Rattle.group_commit.specs.declared.stage.Stage.TheVariants.{Durable, Ready, Shown}
use Rattle.primary.specs.Ahead.{is_of_commit}

-- of two steps, neither is of a commit
neither : (b : Bool) (step : Due) → is_of_commit step ≡ false → is_of_commit (cond b step due.Nothing) ≡ false
neither true step is = is
neither false step is = refl

beside-other : (lists : List FreeList) (room gap : Bool) (remote : ℕ) → is_of_commit (due_beside lists room gap remote) ≡ false
beside-other [] room gap remote = neither (room && gap) due.Clear refl
beside-other (list ∷ lists) room gap remote = neither (nat_le list.position remote) due.Free refl

-- without room it is one of what is in hand, and so it is with any
in-hand : (stage : Stage) (aside : List FreeList) (items : List Work) (gap : Bool) (remote : ℕ) → is_of_commit (due_of stage aside items false gap remote) ≡ true
    → (room : Bool) → is_of_commit (due_of stage aside items room gap remote) ≡ true
in-hand Ready aside items gap remote is room = absurd (true≢false (sym is ∙ beside-other (reached_by false aside items) false gap remote))
in-hand (Durable groups) aside items gap remote is room = refl
in-hand (Shown groups) aside items gap remote is room = refl

module _ {E : Type 0} (contents : E → Contents) (committer : Committer E) (waiting : Waiting Work) (remote : ℕ) where
  pub in-hand-now : is_of_commit (due_now contents committer waiting false remote) ≡ true → (room : Bool) → is_of_commit (due_now contents committer waiting room remote) ≡ true
  in-hand-now = in-hand committer.stage committer.aside.items waiting.items (nat_lt 0 (length (contents committer.engine).current.gaps.items)) remote

-- No room was lost by then: what was due is.
module _ {E O : Type 0} (device : E → State) (contents : E → Contents) (is_faulted : E → Bool) (offered : O → List Group) (known_room : O → ℕ) (old new : Committer E) (before after : Waiting Work)
    (link link' : O) (remote : ℕ) (result : Result Done Refusal) where
  abbrev room : Bool
  room = nat_lt 0 (known_room link)

  abbrev room' : Bool
  room' = nat_lt 0 (known_room link')

  abbrev Took : Due → Type 0
  Took step = Takes device contents is_faulted offered known_room step room' remote old before link result new after link'

  later : (step : Due) → due_now contents old before room' remote ≡ step → is_of_commit step ≡ false → known_room link ≤ known_room link'
      → is_of_commit (due_now contents old before room remote) ≡ true → is_of_commit step ≡ true
  later step at is rises was = elim (cases_Bool room) [
    | inl some ↦
        let more : room' ≡ true = lt-ltb 0 (known_room link') (omega (arith, ltb-true 0 (known_room link) some, rises)) in
        ap is_of_commit (sym at) ∙ ap (λ (b : Bool). is_of_commit (due_now contents old before b remote)) (more ∙ sym some) ∙ was
    | inr none ↦
        ap is_of_commit (sym at)
        ∙ in-hand-now contents old before remote (ap (λ (b : Bool). is_of_commit (due_now contents old before b remote)) (sym none) ∙ was) room'
  ]

  by : (step : Due) → due_now contents old before room' remote ≡ step → Took step → is_of_commit (due_now contents old before room remote) ≡ true → is_of_commit step ≡ true
  by due.Commit at took was = refl
  by due.Raise at took was = refl
  by due.Hand at took was = refl
  by due.Free at (none, took) was = later due.Free at refl none.room was
  by due.Clear at (none, queue, clears) was = later due.Clear at refl none.room was
  by due.Nothing at (none, queue, answer, same) was = later due.Nothing at refl none.room was

  pub suits-then : Took (due_now contents old before room' remote) → is_of_commit (due_now contents old before room remote) ≡ true → is_of_commit (due_now contents old before room' remote) ≡ true
  suits-then took was = by (due_now contents old before room' remote) refl took was

-- where it goes on only with something in hand, something is
pub goes-with : (only more : Bool) → (only && not more) ≡ false → only ≡ true → more ≡ true
goes-with true true ends is = refl
goes-with true false ends is = absurd (true≢false ends)
goes-with false more ends is = absurd (true≢false (sym is))

-- it ends so only where steps are taken for commits alone
pub only-then : (only more : Bool) → (only && not more) ≡ true → only ≡ true
only-then true more is = refl
only-then false more is = absurd (true≢false (sym is))
