-- Steps one after the other, and one more behind them.
use Rattle.std.proofs.Common.{ℕ, Bool, List, [], ◌∷◌, ◌++◌, Result, Ok, Err, IfOk, OnOk, refl, subst}
use Rattle.pmem.specs.Device.{State}
use Rattle.kv_types.specs.declared.refusal.Refusal.{Refusal}
use Rattle.model.specs.declared.group.Group.{Group}
use Rattle.model.specs.Group.{Contents}
use Rattle.marks.specs.declared.view.MarkView.{MarkView}
use Rattle.pipes.specs.declared.ring_pipe.RingOutlet.{RingOutlet}
use Rattle.redis_core.specs.Sequencing.{Sequencing}
use Rattle.group_commit.specs.declared.stage.Done.{Done}
use Rattle.primary.specs.declared.back.Back.{Back}
use Rattle.primary.specs.Standing.{BackStands, notices_of}
use Rattle.serving.specs.declared.committing.Stepped.{Stepped}
use Rattle.serving.specs.CommitJob.{AreSteps, IsShown, IsShownAfter, IsStep, StandsAfter, Suits}

module _ {E P : Type 0} (device : E → State) (contents : E → Contents) (is_faulted : E → Bool) (is_for_commits : Bool) (remote : ℕ) where
  pub steps-more : (old between new : Back E) (link at link' : RingOutlet Group P) (all : List (Result Done Refusal)) (came : Result Done Refusal)
      → AreSteps device contents is_faulted is_for_commits remote old link all between at → IsStep device contents is_faulted remote between at came new link'
      → Suits device contents is_faulted is_for_commits remote between link' → AreSteps device contents is_faulted is_for_commits remote old link (all ++ came ∷ []) new link'
  steps-more old between new link at link' [] came are step suits = (
    new,
    link',
    subst (λ (back : Back E). IsStep device contents is_faulted remote back link came new link') are.0
        (subst (λ (end : RingOutlet Group P). IsStep device contents is_faulted remote between end came new link') are.1 step),
    subst (λ (back : Back E). Suits device contents is_faulted is_for_commits remote back link') are.0 suits,
    (refl, refl),
  )
  steps-more old between new link at link' (first ∷ all) came are step suits =
      (are.0, are.1, are.2, are.3, steps-more are.0 between new are.1 at link' all came are.4 step suits)

module _ {E : Type 0} (device : E → State) (contents : E → Contents) where
  pub stands-after : (old new : Back E) (came : Result Stepped Refusal)
      → IfOk came (λ stepped. (s : Sequencing) → BackStands device contents old s [] → BackStands device contents new s (notices_of stepped.last))
      → (s : Sequencing) → BackStands device contents old s [] → StandsAfter device contents new s came
  stands-after old new (Ok stepped) stands s over = stands s over
  stands-after old new (Err refusal) stands s over = tt

  pub shown-after : (back : Back E) (knows : MarkView) (came : Result Stepped Refusal) → OnOk came (IsShown device contents back knows) → IsShownAfter device contents back knows came
  shown-after back knows (Ok stepped) shown = shown
  shown-after back knows (Err refusal) shown = tt
