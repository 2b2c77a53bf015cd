-- An engine is sound after a turn of the committer that answered, and as it was where memory was refused.
use Rattle.std.proofs.Common.{◌≡◌, ℕ, Bool, false, List, Result, Ok, Err, IsErrOf, OnOk, refl, sym, ap, subst, ◌∙◌, inl, inr}
use Rattle.pmem.specs.Device.{State}
use Rattle.kv_types.specs.declared.refusal.Refusal.{Refusal}
use Rattle.kv_types.specs.declared.refusal.Refusal.TheVariants.{Memory}
use Rattle.model.specs.declared.group.Group.{Group}
use Rattle.model.specs.declared.work.Work.{Work}
use Rattle.model.specs.Group.{Contents}
use Rattle.group_commit.specs.Due.{due_now}
use Rattle.group_commit.specs.Working.{Takes}
use Rattle.group_commit.specs.declared.committer.Committer.{Committer}
use Rattle.group_commit.specs.declared.due.Due.{Due}
use Rattle.group_commit.specs.declared.due.Due.TheVariants as due
use Rattle.group_commit.specs.declared.stage.Done.{Done}
use Rattle.group_commit.specs.declared.stage.Done.TheVariants as done
use Rattle.group_commit.proofs.TurnLemmas.{hands-beside}
use Rattle.pipes.specs.Waiting.{Waiting}
use Rattle.primary.proofs.TurnedLemmas.{ok_not_err}

module _ {E : Type 0} (device : E → State) (contents : E → Contents) (is_faulted : E → Bool) {O : Type 0} (offered : O → List Group) (known_room : O → ℕ) (old new : Committer E) (before after : Waiting Work)
    (link link' : O) (has_room : Bool) (remote : ℕ) where
  abbrev Took : Due → Result Done Refusal → Type 0
  Took step result = Takes device contents is_faulted offered known_room step has_room remote old before link result new after link'

  abbrev now : Due
  now = due_now contents old before has_room remote

  sound-by : (step : Due) (came : Done) → Took step (Ok came) → is_faulted old.engine ≡ false → is_faulted new.engine ≡ false
  sound-by due.Commit came (none, inl took) sound = took.commits.sound.0
  sound-by due.Commit came (none, inr lacks) sound = absurd (ok_not_err came lacks.answer)
  sound-by due.Free came (none, inl it) sound = it.frees.sound.0
  sound-by due.Free came (none, inr lacks) sound = absurd (ok_not_err came lacks.answer)
  sound-by due.Clear came (none, queue, clears) sound = clears.sound.0
  sound-by due.Raise came (same, queue, raises) sound = ap (λ (c : Committer E). is_faulted c.engine) raises.now ∙ sound
  sound-by due.Hand came (queue, hands) sound = ap is_faulted (hands-beside device contents is_faulted offered known_room old new link link' (Ok came) hands).engine ∙ sound
  sound-by due.Nothing came (none, queue, answer, same) sound = ap (λ (c : Committer E). is_faulted c.engine) same ∙ sound

  pub turn-sound : (result : Result Done Refusal) → Took now result → OnOk result (is_faulted old.engine ≡ false → is_faulted new.engine ≡ false)
  turn-sound (Ok came) took = sound-by now came took
  turn-sound (Err refusal) took = tt

  unmoved-by : (step : Due) → Took step (Err Memory) → new.engine ≡ old.engine
  unmoved-by due.Commit (none, inl took) = absurd (elim took.commits.causes [ inl e ↦ cc | inr e ↦ cc ])
  unmoved-by due.Commit (none, inr lacks) = lacks.engine
  unmoved-by due.Free (none, inl it) = it.frees.memory refl
  unmoved-by due.Free (none, inr lacks) = lacks.engine
  unmoved-by due.Clear (none, queue, clears) = clears.memory refl
  unmoved-by due.Raise (same, queue, raises) = absurd (ok_not_err done.Raised (sym raises.answer))
  unmoved-by due.Hand (queue, hands) = (hands-beside device contents is_faulted offered known_room old new link link' (Err Memory) hands).engine
  unmoved-by due.Nothing (none, queue, answer, same) = absurd (ok_not_err done.Idle (sym answer))

  pub turn-unmoved : (result : Result Done Refusal) → Took now result → IsErrOf result Memory → new.engine ≡ old.engine
  turn-unmoved result took refused = unmoved-by now (subst (Took now) refused took)
