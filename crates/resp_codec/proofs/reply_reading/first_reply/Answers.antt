use Rattle.kv_types.specs.declared.stop.Stop.TheVariants.{Short, Broken}
use Rattle.resp_codec.specs.declared.reply_limits.TheConstants.{REPLY_LIMITS}
use Rattle.resp_codec.specs.ReplyReading.{reply_at}
use Rattle.resp_codec.proofs.ReplyItems.{IsFirstReply-read, IsFirstReply-short, IsFirstReply-broken}
use Rattle.resp_codec.proofs.ReplyParts.{none_copied, some_copied, copied-whole, read_in-ok, skipped-err}
use Rattle.resp_codec.proofs.reply_reading.first_reply.Goals as goal

pub unreachable-requires : goal.unreachable-requires
unreachable-requires c =
    copied-whole (reply_at REPLY_LIMITS REPLY_LIMITS.depth c.args.bytes.now) c.in-Ok.field-0.now c.in-Ok.ensures (none_copied _ _ _ c.in_ok-reply-in-Ok.ensures c.in-None.is)

pub returns-in-Some : goal.returns-in-Some
returns-in-Some c =
    IsFirstReply-read c.args.bytes.now c.in-Some.reply c.in-Some.rest.now
    (read_in-ok (reply_at REPLY_LIMITS REPLY_LIMITS.depth c.args.bytes.now) c.in-Some.reply c.in-Some.rest.now (some_copied _ _ _ _ c.in_ok-reply-in-Ok.ensures c.in-Some.is))

pub returns-in-Err-Short : goal.returns-in-Err-Short
returns-in-Err-Short c =
    IsFirstReply-short c.args.bytes.now (skipped-err (reply_at REPLY_LIMITS REPLY_LIMITS.depth c.args.bytes.now) Short (rw c.in-Err-Short.field-0-is at c.in-Err-Short.ensures))

pub returns-in-Err-Broken : goal.returns-in-Err-Broken
returns-in-Err-Broken c =
    IsFirstReply-broken c.args.bytes.now c.in-Err-Broken._fault (skipped-err (reply_at REPLY_LIMITS REPLY_LIMITS.depth c.args.bytes.now) (Broken c.in-Err-Broken._fault) (rw c.in-Err-Broken.field-0-is at c.in-Err-Broken.ensures))
