use Rattle.std.proofs.Common.{rules, Bool, Result, Err, arith, refl, sym, ap, subst, ◌∙◌}
use Rattle.std.proofs.lemmas.Result.{err_from_is_err_and}
use Rattle.kv_types.specs.declared.refusal.Refusal.{Refusal}
use Rattle.serving.specs.Closing.{ClosesAhead}
use Rattle.serving.proofs.ClosingLemmas.{due-ahead, goes-same, not-due-ahead}
use Rattle.serving.proofs.closing.close_due_ahead.Goals as goal

pub returns-then-ahead-eq0-clause-closes : goal.returns-then-ahead-eq0-clause-closes
returns-then-ahead-eq0-clause-closes g c = ((λ due. absurd (let some = due.room in omega (arith, some, c.if-ahead-eq0.true))), refl, refl, refl)

pub returns-then-ahead-eq0-clause-goes : goal.returns-then-ahead-eq0-clause-goes
returns-then-ahead-eq0-clause-goes g c = goes-same c.args.front.now.sequencer c.args.ahead.now.groups.items

pub returns-then-not-is_ahead_due-clause-closes : goal.returns-then-not-is_ahead_due-clause-closes
returns-then-not-is_ahead_due-clause-closes g c = (
  not-due-ahead c.args.gathering.now c.args.remote c.position-served.result c.args.front.now.sequencer c.args.ahead.now c.is_ahead_due.result c.position-served.ensures c.is_ahead_due.ensures (search rules),
  refl,
  refl,
  refl,
)

pub returns-then-not-is_ahead_due-clause-goes : goal.returns-then-not-is_ahead_due-clause-goes
returns-then-not-is_ahead_due-clause-goes g c = goes-same c.args.front.now.sequencer c.args.ahead.now.groups.items

-- memory was refused
pub returns-in_err-is_closed-clause-closes : goal.returns-in_err-is_closed-clause-closes
returns-in_err-is_closed-clause-closes g c =
    let exit = err_from_is_err_and c.from_residual.result c.from_residual.ensures.1 in
    let refused = c.in_err-is_closed.ensures.refused in
    subst (λ (answer : Result Bool Refusal). ClosesAhead c.args.gathering.now c.args.remote c.args.front.now.sequencer c.args.ahead.now c.close_ahead.new.front.sequencer
    (record c.args.ahead.now { groups = c.close_ahead.new.ahead }) c.args.gathering.now answer) (sym (exit.1 ∙ ap Err exit.2)) (
      c.in_err-is_closed.ensures.cause,
      due-ahead c.args.gathering.now c.args.remote c.position-served.result c.args.front.now.sequencer c.args.ahead.now c.is_ahead_due.result c.position-served.ensures c.is_ahead_due.ensures (search rules)
          (omega (arith, c.if-ahead-eq0.false)) refused.0,
      refused.1,
      refused.2,
      refl,
      refl,
    )

pub returns-in_err-is_closed-clause-goes : goal.returns-in_err-is_closed-clause-goes
returns-in_err-is_closed-clause-goes g c = c.close_ahead.ensures.goes

-- nothing could be closed
pub returns-then-not-is_closed-clause-closes : goal.returns-then-not-is_closed-clause-closes
returns-then-not-is_closed-clause-closes g c =
    let none = c.in_ok-is_closed.ensures.none (search rules) in ((λ due. none.0 due.may), none.1, ap (λ groups. record c.args.ahead.now { groups = groups }) none.2, refl)

pub returns-then-not-is_closed-clause-goes : goal.returns-then-not-is_closed-clause-goes
returns-then-not-is_closed-clause-goes g c = c.close_ahead.ensures.goes

pub returns-clause-closes : goal.returns-clause-closes
returns-clause-closes g c =
    let closed = c.in_ok-is_closed.ensures.closed (search rules) in (
      due-ahead c.args.gathering.now c.args.remote c.position-served.result c.args.front.now.sequencer c.args.ahead.now c.is_ahead_due.result c.position-served.ensures c.is_ahead_due.ensures (search rules)
          (omega (arith, c.if-ahead-eq0.false)) closed.0,
      closed.1,
      omega (arith, c.if-ahead-eq0.false),
      ap (λ n. record c.args.gathering.now { closed = n }) c.position-served.ensures,
    )

pub returns-clause-goes : goal.returns-clause-goes
returns-clause-goes g c = c.close_ahead.ensures.goes
