use Rattle.std.proofs.Common.{◌≡◌, ◌||◌, ◌+◌, ◌<◌, ◌++◌, Bool, Ok, Err, List, length, inl, inr, sym, ap, subst, ◌∙◌}
use Rattle.std.proofs.Math.Bool.{or-false, or_assoc}
use Rattle.std.proofs.lemmas.Bool.{cases_lt}
use Rattle.std.proofs.lemmas.List.Folds.{list_any-append}
use Rattle.std.proofs.lemmas.Result.{err_from_is_err_and}
use Rattle.kv_types.specs.declared.place.EntryNo.{EntryNo}
use Rattle.kv_types.specs.declared.refusal.Refusal.TheVariants.{Exhausted, Fault, Memory}
use Rattle.model.specs.declared.image.TheConstants.{COUNTER_LIMIT}
use Rattle.wbl_engine.specs.Freeing.{is_listed}
use Rattle.wbl_migrate.specs.Moving.{IsReady, IsStep, KeepsAllVersions}
use Rattle.wbl_migrate.proofs.GapSteps.{cleared_step, failed_now, keeps_same, keeps_then, uncleared_step}
use Rattle.wbl_migrate.proofs.StepLemmas.{no_step, ok_no_error, step-answers, step-then}
use Rattle.wbl_migrate.proofs.clearing.clear_gaps.Given.{Over}
use Rattle.wbl_migrate.proofs.clearing.clear_gaps.Goals as goal
use Rattle.wbl_migrate.proofs.clearing.clear_gaps.Goals.{After-clear_gap, After-deref}

pub loop-alloc-init : goal.loop-alloc-init
loop-alloc-init g c = record {
  so_far = no_step g.E.Durable.device g.E.Durable.contents g.E.Durable.is_faulted KeepsAllVersions keeps_same keeps_then c.args.engine.now (Ok tt) (ok_no_error tt Fault) c.requires;
  free = λ i. rw c.new-cleared.ensures.items (sym (or-false ((g.E.Durable.contents c.args.engine.now).is_free i)));
}

ready : (g : Over) (c : After-clear_gap g) → IsReady g.E.Durable.device g.E.Durable.contents g.E.Durable.is_faulted c.loop-alloc.engine
ready g c = c.loop-alloc.invariant.so_far.ready (ok_no_error tt Fault)

some : (g : Over) (c : After-clear_gap g) → 0 < length (g.E.Durable.contents c.loop-alloc.engine).current.gaps.items
some g c = subst (λ r. 0 < length r.gaps.items) c.record.ensures (c.has_gap.ensures.0 c.loop-alloc-test.true)

pub returns-in_err-freed-clause-step : goal.returns-in_err-freed-clause-step
returns-in_err-freed-clause-step g c =
    let exit = err_from_is_err_and c.from_residual.result c.from_residual.ensures.1 in
    let at = (goal.at.returns-in_err-freed-clause-step g c).After-clear_gap in
    let told = c.in_err-freed.ensures in
    let stands = ready g at in
    rw (exit.1 ∙ ap Err exit.2)
    (step-then g.E.Durable.device g.E.Durable.contents g.E.Durable.is_faulted KeepsAllVersions keeps_same keeps_then c.args.engine.now c.loop-alloc.engine c.clear_gap.new.self tt
    (Err c.in_err-freed.field-0.0) c.loop-alloc.invariant.so_far
    (uncleared_step g.E.Durable.device g.E.Durable.contents g.E.Durable.is_faulted c.loop-alloc.engine c.clear_gap.new.self stands told.fences.asked_moment (told.moments stands.sound)
    c.in_err-freed.field-0.0 told.causes
    (λ fault. elim (cases_lt ((g.E.Durable.contents c.loop-alloc.engine).current.number + 1) COUNTER_LIMIT) [
      | inl below ↦ below
      | inr reached ↦ let is = told.exhausts stands.sound (some g at) reached in absurd (cc)
    ])
    (λ exhausted. (told.exhausted (ap Err exhausted)).2) (λ memory. told.memory (ap Err memory)) (λ fault. told.stays (ap Err fault))
    (λ fault. (told.fences.stopped (ap Err fault), failed_now (g.E.Durable.is_faulted c.loop-alloc.engine) (told.fences.fault (ap Err fault)) stands.sound))))

-- the gap was cleared
now : (g : Over) (c : After-deref g) → IsReady g.E.Durable.device g.E.Durable.contents g.E.Durable.is_faulted c.loop-alloc.engine
    → 0 < length (g.E.Durable.contents c.loop-alloc.engine).current.gaps.items
    → IsStep g.E.Durable.device g.E.Durable.contents g.E.Durable.is_faulted {X = Unit {0}} KeepsAllVersions c.args.engine.now (Ok tt) c.clear_gap.new.self
now g c stands has =
    let told = c.in_ok-freed.ensures in
    step-then g.E.Durable.device g.E.Durable.contents g.E.Durable.is_faulted KeepsAllVersions keeps_same keeps_then c.args.engine.now c.loop-alloc.engine c.clear_gap.new.self tt
    (Ok tt) c.loop-alloc.invariant.so_far
    (cleared_step g.E.Durable.device g.E.Durable.contents g.E.Durable.is_faulted c.loop-alloc.engine c.clear_gap.new.self stands told.fences.asked_moment (told.moments stands.sound)
    c.in_ok-freed.freed.entries.items
    (elim (cases_lt ((g.E.Durable.contents c.loop-alloc.engine).current.number + 1) COUNTER_LIMIT) [
      | inl below ↦ below
      | inr reached ↦ absurd (ok_no_error c.in_ok-freed.freed Exhausted (told.exhausts stands.sound has reached))
    ])
    (told.clears has) told.durable told.fences.sound)

pub returns-in_err-extend_from_slice-clause-step : goal.returns-in_err-extend_from_slice-clause-step
returns-in_err-extend_from_slice-clause-step g c =
    let exit = err_from_is_err_and c.from_residual-in_err-extend_from_slice.result c.from_residual-in_err-extend_from_slice.ensures.1 in
    let at = goal.at.returns-in_err-extend_from_slice-clause-step g c in
    let before = at.After-clear_gap in
    rw (exit.1 ∙ ap Err exit.2)
    (step-answers g.E.Durable.device g.E.Durable.contents g.E.Durable.is_faulted KeepsAllVersions keeps_same keeps_then c.args.engine.now c.clear_gap.new.self tt (Err Memory) (λ is. cc)
    (now g at.After-deref (ready g before) (some g before)))

pub loop-alloc-preserved : goal.loop-alloc-preserved
loop-alloc-preserved g c =
    let at = goal.at.loop-alloc-preserved g c in
    let before = at.After-clear_gap in
    let told = c.in_ok-freed.ensures.clears (some g before) in
    let items : c.extend_from_slice.new.self.items ≡ c.loop-alloc.cleared.items ++ c.in_ok-freed.freed.entries.items =
    c.in_ok-extend_from_slice.ensures.items ∙ ap (λ (xs : List EntryNo). c.loop-alloc.cleared.items ++ xs) c.deref.ensures.value in
    record {
      so_far = now g at.After-deref (ready g before) (some g before);
      free = λ i.
          told.is_free i ∙ ap (λ (b : Bool). b || is_listed i c.in_ok-freed.freed.entries.items) (c.loop-alloc.invariant.free i)
          ∙ or_assoc ((g.E.Durable.contents c.args.engine.now).is_free i) (is_listed i c.loop-alloc.cleared.items) (is_listed i c.in_ok-freed.freed.entries.items)
          ∙ ap (λ (b : Bool). (g.E.Durable.contents c.args.engine.now).is_free i || b)
          (sym (ap (is_listed i) items ∙ list_any-append _ c.loop-alloc.cleared.items c.in_ok-freed.freed.entries.items));
    }
