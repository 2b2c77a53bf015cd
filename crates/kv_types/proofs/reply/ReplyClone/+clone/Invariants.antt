use Rattle.std.proofs.Common.{◌≡◌, take}
use Rattle.kv_types.proofs.reply.ReplyClone.+clone.Given as goal

abbrev pub invariant-loop-reply : goal.invariant-loop-reply
invariant-loop-reply l = l.copies ≡ take l.reply-index l.reply-items
