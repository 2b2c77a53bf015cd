use Rattle.std.proofs.Common.{◌++◌, ap, subst, ◌∙◌, append-nil}
use Rattle.resp_codec.specs.declared.reply_limits.TheConstants.{REPLY_LIMITS}
use Rattle.resp_codec.specs.ReplyGrammar.{HoldsReplies}
use Rattle.resp_codec.proofs.ReplyHolds.{HoldsReplies-replies_at}
use Rattle.resp_codec.proofs.ReplyItems.{read_numbers}
use Rattle.resp_codec.proofs.ReplyPieces.{given-Reaches}
use Rattle.resp_codec.proofs.reply_laws.replies_in_any_pieces.Goals as goal

pub returns-clause-begins : goal.returns-clause-begins
returns-clause-begins c = λ bytes given held r. subst (HoldsReplies REPLY_LIMITS bytes) (given-Reaches r) (HoldsReplies-replies_at REPLY_LIMITS read_numbers bytes)

pub returns-clause-all : goal.returns-clause-all
returns-clause-all c =
    λ bytes given held r none. subst (HoldsReplies REPLY_LIMITS bytes) (given-Reaches r ∙ ap (λ items. given ++ items) none ∙ append-nil given) (HoldsReplies-replies_at REPLY_LIMITS read_numbers bytes)
