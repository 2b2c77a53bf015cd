use Rattle.std.proofs.Common.{Ok, Err, ap, ◌∙◌}
use Rattle.std.proofs.lemmas.Result.{err_from_is_err_and}
use Rattle.kv_types.specs.declared.refusal.Refusal.TheVariants.{Fault}
use Rattle.wbl_migrate.specs.Moving.{KeepsAllVersions, MovesLive}
use Rattle.wbl_migrate.specs.Vacating.{Vacates}
use Rattle.wbl_migrate.proofs.StepLemmas.{ok_no_error, step-answers, step-refuses, step-then}
use Rattle.wbl_migrate.proofs.VacatingSteps.{clearing_vacates, moving_vacates, step_as, vacates_same, vacates_then}
use Rattle.wbl_migrate.proofs.vacating.vacate_live.Goals as goal

pub returns-in_err-cleared-clause-step : goal.returns-in_err-cleared-clause-step
returns-in_err-cleared-clause-step g c =
    let exit = err_from_is_err_and c.from_residual.result c.from_residual.ensures.1 in
    let refusal = c.in_err-cleared.field-0.0 in
    rw (exit.1 ∙ ap Err exit.2)
    (step-refuses g.E.Durable.device g.E.Durable.contents g.E.Durable.is_faulted Vacates vacates_same vacates_then c.args.engine.now c.clear_gaps.new.engine
    refusal
    (step_as KeepsAllVersions Vacates clearing_vacates g.E.Durable.device g.E.Durable.contents g.E.Durable.is_faulted c.args.engine.now c.clear_gaps.new.engine
    (Err refusal) c.in_err-cleared.ensures.step))

pub returns-in_err-places-clause-step : goal.returns-in_err-places-clause-step
returns-in_err-places-clause-step g c =
    let exit = err_from_is_err_and c.from_residual-in_err-places.result c.from_residual-in_err-places.ensures.1 in
    let refusal = c.in_err-places.field-0.0 in
    rw (exit.1 ∙ ap Err exit.2)
    (step-refuses g.E.Durable.device g.E.Durable.contents g.E.Durable.is_faulted Vacates vacates_same vacates_then c.args.engine.now c.move_live.new.engine
    refusal
    (step-then g.E.Durable.device g.E.Durable.contents g.E.Durable.is_faulted Vacates vacates_same vacates_then c.args.engine.now c.clear_gaps.new.engine
    c.move_live.new.engine c.in_ok-cleared.cleared (Err refusal)
    (step_as KeepsAllVersions Vacates clearing_vacates g.E.Durable.device g.E.Durable.contents g.E.Durable.is_faulted c.args.engine.now c.clear_gaps.new.engine
    (Ok c.in_ok-cleared.cleared) c.in_ok-cleared.ensures.step)
    (step_as MovesLive Vacates moving_vacates g.E.Durable.device g.E.Durable.contents g.E.Durable.is_faulted c.clear_gaps.new.engine c.move_live.new.engine
    (Err refusal) c.in_err-places.ensures.step)))

pub returns-clause-step : goal.returns-clause-step
returns-clause-step g c =
    step-answers g.E.Durable.device g.E.Durable.contents g.E.Durable.is_faulted Vacates vacates_same vacates_then c.args.engine.now c.move_live.new.engine
    c.in_ok-places.places (Ok _) (ok_no_error _ Fault)
    (step-then g.E.Durable.device g.E.Durable.contents g.E.Durable.is_faulted Vacates vacates_same vacates_then c.args.engine.now c.clear_gaps.new.engine
    c.move_live.new.engine c.in_ok-cleared.cleared (Ok c.in_ok-places.places)
    (step_as KeepsAllVersions Vacates clearing_vacates g.E.Durable.device g.E.Durable.contents g.E.Durable.is_faulted c.args.engine.now c.clear_gaps.new.engine
    (Ok c.in_ok-cleared.cleared) c.in_ok-cleared.ensures.step)
    (step_as MovesLive Vacates moving_vacates g.E.Durable.device g.E.Durable.contents g.E.Durable.is_faulted c.clear_gaps.new.engine c.move_live.new.engine
    (Ok c.in_ok-places.places) c.in_ok-places.ensures.step))
