use Rattle.std.proofs.Common.{[], ◌∷◌, sym, append-nil}
use Rattle.std.proofs.lemmas.Result.{err_from_is_err_and}
use Rattle.links.proofs.SentRounds.{OnOk-err, Step-none, Step-sent, Step-stays, Waits-none, one_put}
use Rattle.links.proofs.sending.put_next.Goals as goal

pub returns-clause-put : goal.returns-clause-put
returns-clause-put g c = (c.frame.result.now, c.frame.ensures, c.in_ok-put_frame.ensures.put)

pub returns-in_err-index-clause-step : goal.returns-in_err-index-clause-step
returns-in_err-index-clause-step g c =
    let refused = c.in_err-index.ensures.refused in
    let exit = err_from_is_err_and c.from_residual.result c.from_residual.ensures.1 in
    ([], Step-stays g.I.Inlet.take_gives _ _ _ _ refused.2.0 refused.1 refused.2.1 refused.2.2, OnOk-err _ _ exit.0 exit.1)

pub returns-in_default-clause-step : goal.returns-in_default-clause-step
returns-in_default-clause-step g c =
    let told = c.in_ok-index.ensures in
    ([], Step-none g.I.Inlet.take_gives c.in_ok-index.field-0 _ _ _ _ c.args.outgoing.now.within c.in_default.is (record { rests = told.rests; kept = told.again; none = told.full; next = told.next; sends = told.sends }), sym (append-nil _))

pub returns-in_err-put_frame-clause-step : goal.returns-in_err-put_frame-clause-step
returns-in_err-put_frame-clause-step g c =
    let told = c.in_ok-index.ensures in
    let exit = err_from_is_err_and c.from_residual-in_err-put_frame.result c.from_residual-in_err-put_frame.ensures.1 in (
      c.frame.result.now ∷ [],
      Step-sent g.I.Inlet.take_gives c.in_ok-index.field-0 c.in-Some.index _ _ _ _ c.frame.result.now c.in-Some.is
          (record { rests = told.rests; kept = told.again; none = told.full; next = told.next; sends = told.sends }) c.frame.ensures,
      OnOk-err _ _ exit.0 exit.1,
    )

pub returns-clause-step : goal.returns-clause-step
returns-clause-step g c =
    let told = c.in_ok-index.ensures in
    let frame = c.frame.result.now in (
      frame ∷ [],
      Step-sent g.I.Inlet.take_gives c.in_ok-index.field-0 c.in-Some.index _ _ _ _ frame c.in-Some.is
          (record { rests = told.rests; kept = told.again; none = told.full; next = told.next; sends = told.sends }) c.frame.ensures,
      one_put _ _ frame c.in_ok-put_frame.ensures.put,
    )

pub returns-in_default-clause-rests : goal.returns-in_default-clause-rests
returns-in_default-clause-rests g c = λ _.
    let told = c.in_ok-index.ensures in
    Waits-none g.I.Inlet.take_gives c.in_ok-index.field-0 _ _ _ _ c.args.outgoing.now.within c.in_default.is (record { rests = told.rests; kept = told.again; none = told.full; next = told.next; sends = told.sends })
