use Rattle.std.proofs.Common.{List, map, Ok, Err, sym, ap, subst, ◌∙◌, arith}
use Rattle.std.proofs.lemmas.Result.{err_from_is_err_and}
use Rattle.kv_types.specs.declared.refusal.Refusal.TheVariants.{Fault, Memory}
use Rattle.wbl_migrate.specs.declared.moving.Place.{Place}
use Rattle.wbl_migrate.specs.Moving.{AreMoved, MovesLive, place_read}
use Rattle.wbl_migrate.proofs.LoopLemmas.{all_live, none_left, none_moved}
use Rattle.wbl_migrate.proofs.MoveSteps.{moves_same, moves_then}
use Rattle.wbl_migrate.proofs.StepLemmas.{no_step, ok_no_error, step-answers, step-refuses, step-then}
use Rattle.wbl_migrate.proofs.moving.move_live.Goals as goal

pub returns-in_err-places-clause-step : goal.returns-in_err-places-clause-step
returns-in_err-places-clause-step g c =
    let exit = err_from_is_err_and c.from_residual.result c.from_residual.ensures.1 in
    rw (exit.1 ∙ ap Err exit.2)
    (no_step g.E.Durable.device g.E.Durable.contents g.E.Durable.is_faulted MovesLive moves_same moves_then c.args.engine.now (Err Memory) (λ is. cc) c.requires.ready)

pub loop-index-init : goal.loop-index-init
loop-index-init g c = record {
  so_far = no_step g.E.Durable.device g.E.Durable.contents g.E.Durable.is_faulted MovesLive moves_same moves_then c.args.engine.now (Ok tt) (ok_no_error tt Fault) c.requires.ready;
  moved =
      subst (λ (places : List Place). AreMoved (g.E.Durable.contents c.args.engine.now) c.args.versions.now.counted.items c.args.versions.now.gapped.items c.args.cleared.now places 0)
      (sym (c.in_ok-places.ensures ∙ ap (map place_read) c.deref.ensures.value))
      (none_moved (g.E.Durable.contents c.args.engine.now) c.args.versions.now.counted.items c.args.versions.now.gapped.items c.args.cleared.now c.requires.known);
}

pub returns-in_err-move_next-clause-step : goal.returns-in_err-move_next-clause-step
returns-in_err-move_next-clause-step g c =
    let exit = err_from_is_err_and c.from_residual-in_err-move_next.result c.from_residual-in_err-move_next.ensures.1 in
    rw (exit.1 ∙ ap Err exit.2)
    (step-refuses g.E.Durable.device g.E.Durable.contents g.E.Durable.is_faulted MovesLive moves_same moves_then c.args.engine.now c.move_next.new.engine c.in_err-move_next.field-0.0
    (step-then g.E.Durable.device g.E.Durable.contents g.E.Durable.is_faulted MovesLive moves_same moves_then c.args.engine.now c.loop-index.engine c.move_next.new.engine tt
    (Err c.in_err-move_next.field-0.0) c.loop-index.invariant.so_far c.in_err-move_next.ensures.step))

pub loop-index-preserved : goal.loop-index-preserved
loop-index-preserved g c = record {
  so_far = step-then g.E.Durable.device g.E.Durable.contents g.E.Durable.is_faulted MovesLive moves_same moves_then c.args.engine.now c.loop-index.engine c.move_next.new.engine tt
      (Ok tt) c.loop-index.invariant.so_far c.in_ok-move_next.ensures.step;
  moved = c.in_ok-move_next.ensures.moved;
}

pub returns-clause-emptied : goal.returns-clause-emptied
returns-clause-emptied g c =
    let off = c.loop-index-test.false in
    let count = c.len-index-end.ensures in
    none_left c.loop-index.invariant.moved (omega (arith, off, count, c.args.versions.now.counted.ok.0))

pub returns-clause-leaving : goal.returns-clause-leaving
returns-clause-leaving g c =
    let off = c.loop-index-test.false in
    let count = c.len-index-end.ensures in
    all_live c.loop-index.invariant.moved (omega (arith, off, count, c.args.versions.now.counted.ok.0))

pub returns-clause-step : goal.returns-clause-step
returns-clause-step g c =
    step-answers g.E.Durable.device g.E.Durable.contents g.E.Durable.is_faulted MovesLive moves_same moves_then c.args.engine.now c.loop-index.engine tt
    (Ok c.loop-index.places) (ok_no_error c.loop-index.places Fault) c.loop-index.invariant.so_far
