use Rattle.std.proofs.Common.{sym, subst}
use Rattle.resp_codec.specs.declared.reply_limits.TheConstants.{REPLY_LIMITS}
use Rattle.resp_codec.specs.ReplyGrammar.{HoldsReplies}
use Rattle.resp_codec.proofs.ReplyHolds.{HoldsReplies-replies_at, HoldsReplies-only}
use Rattle.resp_codec.proofs.ReplyItems.{read_numbers}
use Rattle.resp_codec.proofs.reply_laws.replies_are_held.Goals as goal

pub returns : goal.returns
returns c =
    λ bytes items. (HoldsReplies-only REPLY_LIMITS read_numbers bytes items, λ same. subst (HoldsReplies REPLY_LIMITS bytes) (sym same) (HoldsReplies-replies_at REPLY_LIMITS read_numbers bytes))
