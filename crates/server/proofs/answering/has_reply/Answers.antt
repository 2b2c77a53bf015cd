use Rattle.std.proofs.Common.{Option, Some, ap, subst, ◌∙◌}
use Rattle.resp_codec.specs.declared.reply_item.ReplyItem.{ReplyItem}
use Rattle.resp_codec.specs.declared.reply_item.ReplyItem.TheVariants.{Reply}
use Rattle.resp_codec.specs.ReplyParsing.{AdvancesReplies}
use Rattle.server.proofs.AnsweringLemmas.{gives-reply}
use Rattle.server.proofs.answering.has_reply.Goals as goal

pub returns-in-Some-Reply : goal.returns-in-Some-Reply
returns-in-Some-Reply c = λ yes.
    let found = c.in-Some-Reply.is ∙ ap Some c.in-Some-Reply.field-0-is in (
      c.in-Some-Reply.field-0-0,
      gives-reply c.args.answering.now c.next.new.self (Some (Reply c.in-Some-Reply.field-0-0)) (subst (λ (item : Option ReplyItem). AdvancesReplies c.args.answering.now item c.next.new.self) found c.in_ok-next.ensures.given),
    )
