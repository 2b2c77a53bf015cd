use Rattle.std.proofs.Common.{◌≡◌, ◌++◌, List, rules, false, true, inl, inr, sym, ap, ◌∙◌, append-nil, arith}
use Rattle.std.specs.Prelude.{is_none}
use Rattle.std.proofs.lemmas.Result.{err_from_is_err_and}
use Rattle.frames.specs.declared.frame.Frame.{Frame}
use Rattle.links.specs.Sending.{frames_text, more}
use Rattle.links.proofs.SentFrames.{Grows-none, after-one, none-between}
use Rattle.links.proofs.SentRounds.{HasNone-there, OnOk-err, Put-begun, Put-more}
use Rattle.links.proofs.sending.put_frames.Goals as goal

pub loop-init : goal.loop-init
loop-init g c = record {
  put = sym (append-nil c.args.out.now.items) ∙ ap (λ (frames : List Frame). c.args.out.now.items ++ frames_text frames) (sym (none-between c.args.outgoing.now.link.next c.args.outgoing.now.link.kept));
  many = search rules;
  rises = search rules;
  grows = Grows-none _;
  sends = Put-begun g.I.Inlet.take_gives _ _ _;
}

pub loop-preserved : goal.loop-preserved
loop-preserved g c =
    let some : is_none c.in_ok-put_next.field-0 ≡ false = search rules in
    let put = after-one c.in_ok-put_next.field-0 c.args.out.now.items c.loop.out.items c.put_next.new.out.items c.args.outgoing.now.link c.loop.outgoing.link c.put_next.new.outgoing.link some
    c.loop.invariant.put c.loop.invariant.rises c.loop.invariant.grows c.in_ok-put_next.ensures.sends c.in_ok-put_next.ensures.put in
    let step = c.in_ok-put_next.ensures.step in
    record { put = put.0; many = search (rules, c.loop.invariant.many); rises = put.1; grows = put.2; sends = Put-more g.I.Inlet.take_gives _ _ _ _ _ _ _ _ _ step.0 c.loop.invariant.sends step.1 step.2 }

pub returns-in_err-put_next-clause-sends : goal.returns-in_err-put_next-clause-sends
returns-in_err-put_next-clause-sends g c =
    let step = c.in_err-put_next.ensures.step in
    let so_far = c.loop.invariant.sends in
    let exit = err_from_is_err_and c.from_residual.result c.from_residual.ensures.1 in
    (so_far.frames ++ step.0, more _ _ _ _ _ _ _ _ so_far.steps step.1, OnOk-err _ _ exit.0 exit.1)

pub returns-then-is_none-clause-sends : goal.returns-then-is_none-clause-sends
returns-then-is_none-clause-sends g c =
    let step = c.in_ok-put_next.ensures.step in
    let put = Put-more g.I.Inlet.take_gives _ _ _ _ _ _ _ _ _ step.0 c.loop.invariant.sends step.1 step.2 in
    (put.frames, put.steps, put.put)

pub returns-clause-sends : goal.returns-clause-sends
returns-clause-sends g c = let so_far = c.loop.invariant.sends in (so_far.frames, so_far.steps, so_far.put)

-- none was left
pub returns-then-is_none-clause-works_off : goal.returns-then-is_none-clause-works_off
returns-then-is_none-clause-works_off g c =
    let none : is_none c.in_ok-put_next.field-0 ≡ true = search rules in
    inr (HasNone-there g.I.Inlet.take_gives c.in_ok-put_next.field-0 c.loop.outgoing.link c.put_next.new.outgoing.link c.loop.groups c.put_next.new.groups none
    c.in_ok-put_next.ensures.rests c.in_ok-put_next.ensures.sends)

-- as many were put as may be
pub returns-clause-works_off : goal.returns-clause-works_off
returns-clause-works_off g c = inl (omega (arith, c.loop.invariant.many, c.loop-test.false, c.loop.auto.counter-end))
