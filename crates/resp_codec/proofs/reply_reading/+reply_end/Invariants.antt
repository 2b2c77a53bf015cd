use Rattle.std.proofs.Common.{◌≡◌, ◌-◌}
use Rattle.kv_types.specs.Reader.{skipped}
use Rattle.resp_codec.specs.GivesReplies.{element_at}
use Rattle.resp_codec.specs.ReplyReading.{reply_at, elements_at}
use Rattle.resp_codec.proofs.reply_reading.+reply_end.Given as goal

abbrev pub decreases-reply_end : goal.decreases-reply_end
decreases-reply_end l = l.depth

-- what follows the replies that are left is what follows the reply
abbrev pub invariant-loop-i : goal.invariant-loop-i
invariant-loop-i l = skipped (elements_at (element_at l.limits l.depth) (l.count - l._i) l.rest) ≡ skipped (reply_at l.limits l.depth l.bytes)
