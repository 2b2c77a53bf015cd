use Rattle.resp_codec.specs.declared.reply_limits.TheConstants.{REPLY_LIMITS}
use Rattle.resp_codec.proofs.ReplyItems.{read_numbers, replies_at-again}
use Rattle.resp_codec.proofs.reply_laws.replies_are_read_back.Goals as goal

pub returns : goal.returns
returns c = λ replies rest h. replies_at-again REPLY_LIMITS read_numbers replies rest h
