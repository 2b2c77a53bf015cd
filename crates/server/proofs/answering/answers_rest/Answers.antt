use Rattle.std.proofs.Common.{Ok, Option, Some, None, sym, ap, subst, ◌∙◌}
use Rattle.kv_types.specs.declared.item.Item.{Item}
use Rattle.resp_codec.specs.Parsing.{Advances, ahead}
use Rattle.resp_codec.specs.ReplyParsing.{replies_ahead}
use Rattle.server.proofs.AnsweringLemmas.{gives, fewer, step-open, step-last, step-none}
use Rattle.server.proofs.answering.answers_rest.Goals as goal

pub returns-then-closes : goal.returns-then-closes
returns-then-closes c = λ yes.
    let given = gives c.loop-item.asking c.next.new.self (Some c.in-Some.item) (subst (λ (o : Option Item). Advances c.loop-item.asking o c.next.new.self) c.in-Some.is c.in_ok-item.ensures.given) in
    let answered = c.has_reply.ensures (c.in_ok-has_reply.was ∙ ap Ok c.if-not-branch.false) in
    c.loop-item.invariant
    (step-last (ahead c.loop-item.asking) (ahead c.next.new.self) (replies_ahead c.loop-item.answering) (replies_ahead c.has_reply.new.answering) c.in-Some.item answered.0 given answered.1
    (sym c.closes.ensures ∙ c.if-closes.true))

pub loop-item-smaller-else-closes : goal.loop-item-smaller-else-closes
loop-item-smaller-else-closes c =
    let given = gives c.loop-item.asking c.next.new.self (Some c.in-Some.item) (subst (λ (o : Option Item). Advances c.loop-item.asking o c.next.new.self) c.in-Some.is c.in_ok-item.ensures.given) in
    fewer (ahead c.loop-item.asking) (ahead c.next.new.self) c.in-Some.item given

pub loop-item-preserved-else-closes : goal.loop-item-preserved-else-closes
loop-item-preserved-else-closes c = λ rest.
    let given = gives c.loop-item.asking c.next.new.self (Some c.in-Some.item) (subst (λ (o : Option Item). Advances c.loop-item.asking o c.next.new.self) c.in-Some.is c.in_ok-item.ensures.given) in
    let answered = c.has_reply.ensures (c.in_ok-has_reply.was ∙ ap Ok c.if-not-branch.false) in
    c.loop-item.invariant
    (step-open (ahead c.loop-item.asking) (ahead c.next.new.self) (replies_ahead c.loop-item.answering) (replies_ahead c.has_reply.new.answering) c.in-Some.item answered.0 given answered.1
    (sym c.closes.ensures ∙ c.if-closes.false) rest)

pub returns : goal.returns
returns c = λ yes.
    let given = gives c.loop-item.asking c.next.new.self None (subst (λ (o : Option Item). Advances c.loop-item.asking o c.next.new.self) c.in_default.is c.in_ok-item.ensures.given) in
    let none = c.next.ensures.none (c.in_ok-item.was ∙ ap Ok c.in_default.is) in
    c.loop-item.invariant (step-none (ahead c.loop-item.asking) (replies_ahead c.loop-item.answering) (given ∙ none))
