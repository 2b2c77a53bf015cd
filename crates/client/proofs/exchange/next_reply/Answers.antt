use Rattle.std.proofs.Common.{◌≡◌, [], Option, Some, Ok, sym, ap, subst, ◌∙◌}
use Rattle.std.proofs.lemmas.Bool.{eqb-true}
use Rattle.std.proofs.lemmas.List.{nil_from_length}
use Rattle.kv_types.specs.declared.reply.Reply.{Reply}
use Rattle.resp_codec.specs.declared.reply_item.ReplyItem.{ReplyItem}
use Rattle.resp_codec.specs.ReplyParsing.{AdvancesReplies}
use Rattle.client.specs.Exchange.{Takes}
use Rattle.client.proofs.ExchangeLemmas.{HasRead, ends_short, has_read-more, has_read-nothing, no_reply, taken}
use Rattle.client.proofs.exchange.next_reply.Goals as goal

pub loop-piece-init : goal.loop-piece-init
loop-piece-init g c = has_read-nothing _ _

pub returns-in-Some-Reply-clause-answered : goal.returns-in-Some-Reply-clause-answered
returns-in-Some-Reply-clause-answered g c =
    subst (λ (reply : Reply). Takes (g.R.Read.remaining c.args.reader.now) (g.R.Read.remaining c.loop-piece.reader) c.args.parser.now c.next.new.self reply) (sym c.in-Some-Reply.reply-is)
    (taken _ _ _ _ _ c.in-Some-Reply.reply c.loop-piece.invariant
    (subst (λ (it : Option ReplyItem). AdvancesReplies c.loop-piece.parser it c.next.new.self) (c.in-Some-Reply.is ∙ ap Some c.in-Some-Reply.field-0-is) c.in_ok-reply.ensures.given))

pub returns-in-Some-Fault-clause-cause : goal.returns-in-Some-Fault-clause-cause
returns-in-Some-Fault-clause-cause g c =
    let is = c.in-Some-Fault.is ∙ ap Some c.in-Some-Fault.field-0-is in
    no_reply _ _ _ _ c.next.new.self c.loop-piece.invariant (subst (λ (it : Option ReplyItem). AdvancesReplies c.loop-piece.parser it c.next.new.self) is c.in_ok-reply.ensures.given)
    (c.next.ensures.fault (c.in_ok-reply.was ∙ ap Ok is))

pub returns-then-is_empty-clause-cause : goal.returns-then-is_empty-clause-cause
returns-then-is_empty-clause-cause g c =
    let empty : c.in_ok-piece.piece ≡ [] = nil_from_length c.in_ok-piece.piece (eqb-true _ _ (sym c.is_empty.ensures ∙ c.if-is_empty.true)) in
    ends_short _ _ _ _ _ c.next.new.self c.in_ok-piece.piece c.loop-piece.invariant (subst (λ (it : Option ReplyItem). AdvancesReplies c.loop-piece.parser it c.next.new.self) c.in-None.is c.in_ok-reply.ensures.given)
    (c.next.ensures.none (c.in_ok-reply.was ∙ ap Ok c.in-None.is)) c.in_ok-piece.ensures.read empty (c.in_ok-piece.ensures.end empty)

pub loop-piece-preserved : goal.loop-piece-preserved
loop-piece-preserved g c =
    subst (HasRead (g.R.Read.remaining c.args.reader.now) (g.R.Read.remaining c.read_piece.new.reader) c.args.parser.now) (sym c.in_ok-feed.ensures.ok)
    (has_read-more _ _ _ _ _ c.next.new.self c.in_ok-piece.piece c.loop-piece.invariant (subst (λ (it : Option ReplyItem). AdvancesReplies c.loop-piece.parser it c.next.new.self) c.in-None.is c.in_ok-reply.ensures.given)
    (c.next.ensures.none (c.in_ok-reply.was ∙ ap Ok c.in-None.is)) c.in_ok-piece.ensures.read)
