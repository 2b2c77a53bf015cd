use Rattle.std.proofs.Common.{◌≡◌, ◌⊎◌, ◌∷◌, ℕ, List, [], length, Err, inl, refl, sym, ap, subst, ◌∙◌}
use Rattle.std.proofs.lemmas.Result.{err_from_is_err_and}
use Rattle.kv_types.specs.declared.place.EntryNo.{EntryNo}
use Rattle.kv_types.specs.declared.refusal.Refusal.TheVariants.{Exhausted, Fault, Memory}
use Rattle.pmem.specs.Crash.{image_of}
use Rattle.pmem.specs.Runs.{LeavesOnly}
use Rattle.model.specs.declared.group.Part.{Part}
use Rattle.model.specs.Group.{Contents}
use Rattle.wbl_engine.specs.Contents.{Keeps, Same}
use Rattle.wbl_engine.specs.Freeing.{AreEnded, KeepsWithoutSome, after_free}
use Rattle.wbl_engine.specs.Relocating.{ExhaustsRelocation, IsRelocation, after_relocation}
use Rattle.wbl_migrate.specs.Moving.{MovesLive}
use Rattle.wbl_migrate.proofs.GapSteps.{failed_now}
use Rattle.wbl_migrate.proofs.MovedLemmas.{IsMove, relocates}
use Rattle.wbl_migrate.proofs.MoveSteps.{mid_ended, moved_has, moved_step, moves_same, moves_then, unfreed_step, unmoved_step}
use Rattle.wbl_migrate.proofs.StepLemmas.{no_step, ok_no_error}
use Rattle.wbl_migrate.proofs.moving.move_version.Given.{Over}
use Rattle.wbl_migrate.proofs.moving.move_version.Goals as goal
use Rattle.wbl_migrate.proofs.moving.move_version.Goals.{After-deref, After-relocate}

pub returns-in_err-part-clause-step : goal.returns-in_err-part-clause-step
returns-in_err-part-clause-step g c =
    let exit = err_from_is_err_and c.from_residual.result c.from_residual.ensures.1 in
    let refused = c.in_err-part.ensures.cause in
    let memory : c.in_err-part.field-0.0 ≡ Memory = cc in
    rw (exit.1 ∙ ap Err (exit.2 ∙ memory))
    (no_step g.E.Durable.device g.E.Durable.contents g.E.Durable.is_faulted MovesLive moves_same moves_then c.args.engine.now (Err Memory) (λ is. cc) c.requires.ready)

move : (g : Over) (c : After-relocate g) → IsMove (g.E.Durable.contents c.args.engine.now) c.args.from c.args.version.now c.args.place c.in_ok-part.part
move g c = record {
  consistent = c.requires.ready.consistent;
  lawful = c.requires.ready.lawful;
  held = c.requires.held;
  live = c.requires.live;
  room = c.requires.room;
  position = c.in_ok-part.ensures.position;
  changes = c.in_ok-part.ensures.changes;
  ended = c.in_ok-part.ensures.ended;
}

pub relocate-requires : goal.relocate-requires
relocate-requires g c =
    subst (IsRelocation (g.E.Durable.contents c.args.engine.now)) (sym c.from_ref.ensures.value)
    (relocates
    (record {
      consistent = c.requires.ready.consistent;
      lawful = c.requires.ready.lawful;
      held = c.requires.held;
      live = c.requires.live;
      room = c.requires.room;
      position = c.in_ok-part.ensures.position;
      changes = c.in_ok-part.ensures.changes;
      ended = c.in_ok-part.ensures.ended;
    })
    (image_of (g.E.Durable.device c.args.engine.now).words) (c.requires.ready.durable (image_of (g.E.Durable.device c.args.engine.now).words) (λ word. inl refl)))

-- what the engine tells, of the one part
module _ (g : Over) (c : After-relocate g) where
  abbrev old : Contents
  old = g.E.Durable.contents c.args.engine.now

  one : c.from_ref.result.now ≡ c.in_ok-part.part ∷ []
  one = c.from_ref.ensures.value

  asked : IsRelocation old (c.in_ok-part.part ∷ [])
  asked =
      relocates (move g c) (image_of (g.E.Durable.device c.args.engine.now).words) (c.requires.ready.durable (image_of (g.E.Durable.device c.args.engine.now).words) (λ word. inl refl))

  moments : LeavesOnly (g.E.Durable.device c.args.engine.now) (g.E.Durable.device c.relocate.new.self) (λ image. Keeps old image ⊎ Keeps (after_relocation old (c.in_ok-part.part ∷ [])) image)
  moments =
      subst (λ (parts : List Part). LeavesOnly (g.E.Durable.device c.args.engine.now) (g.E.Durable.device c.relocate.new.self) (λ image. Keeps old image ⊎ Keeps (after_relocation old parts) image)) one
      (c.relocate.ensures.moments c.requires.ready.sound)

  limit : ExhaustsRelocation 1 old.current → ExhaustsRelocation (length c.from_ref.result.now) old.current
  limit exhausts = subst (λ (n : ℕ). ExhaustsRelocation n old.current) (sym (ap length one)) exhausts

pub returns-in_err-relocate-clause-step : goal.returns-in_err-relocate-clause-step
returns-in_err-relocate-clause-step g c =
    let exit = err_from_is_err_and c.from_residual-in_err-relocate.result c.from_residual-in_err-relocate.ensures.1 in
    let at = (goal.at.returns-in_err-relocate-clause-step g c).After-relocate in
    let told = c.in_err-relocate.ensures in
    let ready = c.requires.ready in
    rw (exit.1 ∙ ap Err exit.2)
    (unmoved_step g.E.Durable.device g.E.Durable.contents g.E.Durable.is_faulted c.args.engine.now ready (move g at) (asked g at) c.relocate.new.self c.in_err-relocate.field-0.0 told.causes
    (λ fault exhausts. let is = told.exhausts ready.sound (limit g at exhausts) in let both : Fault ≡ Exhausted = cc in cc) (λ exhausted. (told.exhausted (ap Err exhausted)).1) told.stays
    (λ fault. (told.fences.stopped (ap Err fault), failed_now (g.E.Durable.is_faulted c.args.engine.now) (told.fences.fault (ap Err fault)) ready.sound)) told.fences.asked_moment (moments g at))

room : (g : Over) (c : After-deref g) → ¬ ExhaustsRelocation 1 (g.E.Durable.contents c.args.engine.now).current
room g c = λ exhausts. ok_no_error c.in_ok-relocate.field-0 Exhausted (c.in_ok-relocate.ensures.exhausts c.requires.ready.sound
    (subst (λ (n : ℕ). ExhaustsRelocation n (g.E.Durable.contents c.args.engine.now).current) (sym (ap length c.from_ref.ensures.value)) exhausts))

moved : (g : Over) (c : After-deref g) → Same (after_relocation (g.E.Durable.contents c.args.engine.now) (c.in_ok-part.part ∷ [])) (g.E.Durable.contents c.relocate.new.self)
moved g c =
    subst (λ (parts : List Part). Same (after_relocation (g.E.Durable.contents c.args.engine.now) parts) (g.E.Durable.contents c.relocate.new.self)) c.from_ref.ensures.value
    c.in_ok-relocate.ensures.moved

pub free_unraised-requires : goal.free_unraised-requires
free_unraised-requires g c =
    let at = goal.at.free_unraised-requires g c in
    let told = c.in_ok-relocate.ensures in
    subst (AreEnded (g.E.Durable.contents c.relocate.new.self)) (sym (c.deref.ensures.value ∙ c.in_ok-part.ensures.ended))
    (mid_ended g.E.Durable.device g.E.Durable.contents g.E.Durable.is_faulted c.args.engine.now c.requires.ready (move g at.After-relocate) (asked g at.After-relocate) c.relocate.new.self (room g at.After-deref)
    (moved g at.After-deref) told.durable told.fences.sound told.fences.asked_moment (moments g at.After-relocate))

pub returns-in_err-free_unraised-clause-step : goal.returns-in_err-free_unraised-clause-step
returns-in_err-free_unraised-clause-step g c =
    let exit = err_from_is_err_and c.from_residual-in_err-free_unraised.result c.from_residual-in_err-free_unraised.ensures.1 in
    let at = goal.at.returns-in_err-free_unraised-clause-step g c in
    let ready = c.requires.ready in
    let told = c.in_ok-relocate.ensures in
    let last = c.in_err-free_unraised.ensures in
    let entries : c.deref.result.now ≡ c.args.from ∷ [] = c.deref.ensures.value ∙ c.in_ok-part.ensures.ended in
    rw (exit.1 ∙ ap Err exit.2)
    (unfreed_step g.E.Durable.device g.E.Durable.contents g.E.Durable.is_faulted c.args.engine.now ready (move g at.After-relocate) (asked g at.After-relocate) c.relocate.new.self (room g at.After-deref)
    (moved g at.After-deref) told.durable told.fences.sound told.fences.asked_moment (moments g at.After-relocate) c.free_unraised.new.engine last.fences.asked_moment
    (subst (λ (xs : List EntryNo). LeavesOnly (g.E.Durable.device c.relocate.new.self) (g.E.Durable.device c.free_unraised.new.engine) (KeepsWithoutSome xs (g.E.Durable.contents c.relocate.new.self))) entries
    (last.moments told.fences.sound.0))
    c.in_err-free_unraised.field-0.0 last.causes (λ memory. last.memory (ap Err memory))
    (λ fault. subst (λ (xs : List EntryNo). Same (after_free xs (g.E.Durable.contents c.relocate.new.self)) (g.E.Durable.contents c.free_unraised.new.engine)) entries (last.stays (ap Err fault) told.fences.sound.0))
    (λ fault. (last.fences.stopped (ap Err fault), failed_now (g.E.Durable.is_faulted c.relocate.new.self) (last.fences.fault (ap Err fault)) told.fences.sound.0)))

pub returns-clause-moved : goal.returns-clause-moved
returns-clause-moved g c =
    let at = goal.at.returns-clause-moved g c in
    let ready = c.requires.ready in
    let told = c.in_ok-relocate.ensures in
    let last = c.in_ok-free_unraised.ensures in
    let entries : c.deref.result.now ≡ c.args.from ∷ [] = c.deref.ensures.value ∙ c.in_ok-part.ensures.ended in
    moved_has g.E.Durable.device g.E.Durable.contents g.E.Durable.is_faulted c.args.engine.now ready (move g at.After-relocate) (asked g at.After-relocate) c.relocate.new.self (room g at.After-deref)
    (moved g at.After-deref) told.durable told.fences.sound told.fences.asked_moment (moments g at.After-relocate) c.free_unraised.new.engine last.fences.asked_moment
    (subst (λ (xs : List EntryNo). LeavesOnly (g.E.Durable.device c.relocate.new.self) (g.E.Durable.device c.free_unraised.new.engine) (KeepsWithoutSome xs (g.E.Durable.contents c.relocate.new.self))) entries
    (last.moments told.fences.sound.0))
    (subst (λ (xs : List EntryNo). Same (after_free xs (g.E.Durable.contents c.relocate.new.self)) (g.E.Durable.contents c.free_unraised.new.engine)) entries last.moved)

pub returns-clause-step : goal.returns-clause-step
returns-clause-step g c =
    let at = goal.at.returns-clause-step g c in
    let ready = c.requires.ready in
    let told = c.in_ok-relocate.ensures in
    let last = c.in_ok-free_unraised.ensures in
    let entries : c.deref.result.now ≡ c.args.from ∷ [] = c.deref.ensures.value ∙ c.in_ok-part.ensures.ended in
    moved_step g.E.Durable.device g.E.Durable.contents g.E.Durable.is_faulted c.args.engine.now ready (move g at.After-relocate) (asked g at.After-relocate) c.relocate.new.self (room g at.After-deref)
    (moved g at.After-deref) told.durable told.fences.sound told.fences.asked_moment (moments g at.After-relocate) c.free_unraised.new.engine last.fences.asked_moment
    (subst (λ (xs : List EntryNo). LeavesOnly (g.E.Durable.device c.relocate.new.self) (g.E.Durable.device c.free_unraised.new.engine) (KeepsWithoutSome xs (g.E.Durable.contents c.relocate.new.self))) entries
    (last.moments told.fences.sound.0))
    (subst (λ (xs : List EntryNo). Same (after_free xs (g.E.Durable.contents c.relocate.new.self)) (g.E.Durable.contents c.free_unraised.new.engine)) entries last.moved) last.durable last.fences.sound
