use Rattle.std.proofs.Common.{Err, [], ap, refl, subst, sym, ◌∙◌}
use Rattle.std.proofs.lemmas.Result.{err_from_is_err_and}
use Rattle.std.specs.Io.KnownBytes.{Appends}
use Rattle.frames.specs.declared.ack.Ack.{Ack}
use Rattle.links.specs.Serving.{ack_text, cut_off, then_said}
use Rattle.links.proofs.Says.{LinkSays-err, LinkSays-nothing}
use Rattle.links.proofs.Serving.{OnErr-into, OnOk-into, same_end}
use Rattle.links.proofs.following.serve_link.Goals as goal

pub returns-clause-served : goal.returns-clause-served
returns-clause-served g c =
    OnOk-into c.answer_until_closed.result
    (λ served. (
      g.O.Write.contents c.say.new.to,
      served.0,
      subst (λ (ack : Ack). Appends (g.O.Write.contents c.args.to.now) (g.O.Write.contents c.say.new.to) (ack_text ack)) c.ack.ensures c.in_ok-say.ensures.said,
      served.1,
    )) c.answer_until_closed.ensures.served

-- ---- what was written

pub returns-in_err-block-clause-said : goal.returns-in_err-block-clause-said
returns-in_err-block-clause-said g c = LinkSays-err _ [] (LinkSays-nothing _ _ _ _) (λ _. refl)

pub returns-in_err-say-clause-said : goal.returns-in_err-say-clause-said
returns-in_err-say-clause-said g c =
    let exit = err_from_is_err_and c.from_residual-in_err-say.result c.from_residual-in_err-say.ensures.1 in
    let begun = c.in_err-say.ensures.begun in
    LinkSays-err _ begun.0 (cut_off _ _ _ _ begun.0 begun.1 (sym (ap ack_text c.ack.ensures) ∙ begun.2) begun.3)
    (λ unclosed. begun.4 (λ is. unclosed (exit.1 ∙ ap Err (exit.2 ∙ same_end _ _ is))))

pub returns-clause-said : goal.returns-clause-said
returns-clause-said g c =
    let opened = subst (λ (ack : Ack). Appends (g.O.Write.contents c.args.to.now) (g.O.Write.contents c.say.new.to) (ack_text ack)) c.ack.ensures c.in_ok-say.ensures.said in
    OnErr-into c.answer_until_closed.result (λ said. (said.0, then_said _ _ _ _ _ _ _ said.0 opened said.1, said.2)) c.answer_until_closed.ensures.said
