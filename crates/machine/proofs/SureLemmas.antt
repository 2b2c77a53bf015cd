-- What an event leaves of the nodes: but for a promotion, or one that is cut or shows that it failed late, each has the device that it had, and the epoch stays.
pub use Rattle.machine.proofs.StandingLemmas.{KeepsNodes}
use Rattle.std.proofs.Common.{◌≡◌, ℕ, ◌⊎◌, Bool, true, false, ◌&&◌, ◌||◌, [], ◌++◌, refl, sym, ap, subst, ◌∙◌, inl, inr, true≢false}
use Rattle.std.specs.Prelude.{All, Contains}
use Rattle.std.proofs.lemmas.List.Elements.{All-append, All-cons, All-contains, All-nil, All-weaker}
use Rattle.machine.specs.declared.event.Cut.{Cut}
use Rattle.machine.specs.declared.event.Cut.TheVariants as cut
use Rattle.machine.specs.declared.event.Event.{Event}
use Rattle.machine.specs.declared.event.Event.TheVariants.{Apply, FailFence, Crash, Reopen, Promote}
use Rattle.machine.specs.declared.event.Node.{Node}
use Rattle.machine.specs.declared.event.Node.TheVariants as nodes
use Rattle.machine.specs.Event.{Life, Running, Stopped, Crashed, Retired, Remains, At, AsPrimary, AsFollower, World, Fails, Step, is_between, is_crashed, is_enabled, is_follower, is_retired, is_running, is_stopped, left_by, life_of, may_cut, may_happen, may_remain, next_primary, torn}
use Rattle.machine.specs.Row.{touches}
use Rattle.machine.specs.Sound.{IsPrimaryLeft, Sound}
use Rattle.model.specs.Call.{is_nonempty, position_of}
use Rattle.machine.proofs.EventLaws.{owed-step}
use Rattle.machine.proofs.StandingLemmas.{Stays, keeps-itself}

-- a node in which a fence failed stops
stops : (w : World) (node : Node) (call : Cut) (new : World) → Fails w node call new → is_stopped (life_of new node) ≡ true
stops w nodes.Primary call new fails = ap (λ (x : World). is_stopped x.primary.life) fails.now
stops w nodes.Standby call new fails = ap (λ (x : World). is_stopped x.standby.life) fails.now

-- so none failed in one that goes on
pub unfailed : {P : Type 0} (w : World) (node : Node) (call : Cut) (new : World) → is_stopped (life_of new node) ≡ false → P ⊎ Fails w node call new → P
unfailed w node call new on happens = elim happens [
  | inl did ↦ did
  | inr fails ↦ absurd (true≢false (sym (stops w node call new fails) ∙ on))
]

-- the image of such a node as it was
abbrev pub IsAt : Remains → Type 0
IsAt (At position) = Unit {0}
IsAt AsPrimary = ⊥
IsAt (AsFollower position) = ⊥

left-primary : (w : World) (call : Cut) → All IsAt (left_by w nodes.Primary call)
left-primary w cut.Commit = All-cons IsAt (At (next_primary w)) [] tt (All-nil IsAt)
left-primary w call = All-nil IsAt

at-left : (low high : ℕ) (remain : Remains) → IsPrimaryLeft low high remain → IsAt remain
at-left low high (At position) left = tt
at-left low high AsPrimary left = absurd left
at-left low high (AsFollower position) left = absurd left

-- a crash leaves a primary's image of a primary
pub remains-primary : (w : World) (call : Cut) (remain : Remains) → Sound w → Contains (may_remain w nodes.Primary call) remain → IsAt remain
remains-primary w call remain sound one =
    All-contains IsAt (may_remain w nodes.Primary call) remain
    (All-cons IsAt (At w.primary.committer.position) (torn w.primary.life ++ left_by w nodes.Primary call) tt
    (All-append IsAt (torn w.primary.life) (left_by w nodes.Primary call) (All-weaker (IsPrimaryLeft w.primary.committer.position (position_of w.primary.calls)) IsAt (at-left w.primary.committer.position (position_of w.primary.calls)) (torn w.primary.life) sound.primary_left) (left-primary w call))) one

-- ---- an event

pub stays-step : (w : World) (event : Event) (did : Bool) (new : World) → Step w event did new → Stays w new
stays-step w event true new step = (owed-step w event new step).nodes
stays-step w event false new step = subst (Stays w) (sym (step.stands refl)) (inl (keeps-itself w))

-- ---- a standby that was promoted

dead : (a b : Bool) → b ≡ false → (a && b) ≡ false
dead true b e = e
dead false b e = refl

-- it does not run, it cannot crash, and it is not opened again
idle : (life : Life) → is_retired life ≡ true → (is_running life ≡ false) × ((is_running life || is_stopped life) ≡ false) × (is_crashed life ≡ false)
idle Running retired = absurd (true≢false (sym retired))
idle (Stopped remains) retired = absurd (true≢false (sym retired))
idle Crashed retired = absurd (true≢false (sym retired))
idle (Retired remains) retired = (refl, refl, refl)

-- nothing happens to it
pub retired-still : (w : World) (event : Event) → is_retired w.standby.life ≡ true → touches nodes.Standby event ≡ true → is_enabled w event ≡ false
retired-still w Apply retired touched = ap (λ b. b && may_happen w Apply) (idle w.standby.life retired).0
retired-still w (FailFence nodes.Standby n) retired touched = ap (λ b. b && may_happen w (FailFence nodes.Standby n)) (idle w.standby.life retired).0
retired-still w (Crash nodes.Standby call k picks) retired touched = dead w.allowed.restarts _ (dead (is_between call || w.allowed.cuts) _ (uncut-standby call))
  where
    uncut-standby : (call : Cut) → may_cut w nodes.Standby call ≡ false
    uncut-standby cut.Between = (idle w.standby.life retired).1
    uncut-standby cut.Commit = refl
    uncut-standby cut.Apply = ap (λ b. b && is_nonempty w.standby.waiting) (idle w.standby.life retired).0
    uncut-standby cut.Free = refl
    uncut-standby cut.ClearGap = refl
    uncut-standby cut.Reopen = (idle w.standby.life retired).2
    uncut-standby cut.Promote = ap (λ b. b && (is_follower w.standby.role && is_retired w.primary.life)) (idle w.standby.life retired).0
retired-still w (Reopen nodes.Standby) retired touched = dead w.allowed.restarts _ (idle w.standby.life retired).2
retired-still w Promote retired touched = ap (λ b. b && may_happen w Promote) (idle w.standby.life retired).0
retired-still w event retired touched = absurd (true≢false (sym touched))
