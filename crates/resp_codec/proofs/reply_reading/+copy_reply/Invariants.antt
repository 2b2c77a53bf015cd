use Rattle.std.proofs.Common.{◌≡◌, ◌-◌}
use Rattle.resp_codec.specs.GivesReplies.{element_at, read_in, behind, array_of}
use Rattle.resp_codec.specs.ReplyReading.{reply_at, elements_at}
use Rattle.resp_codec.proofs.reply_reading.+copy_reply.Given as goal

abbrev pub decreases-copy_reply : goal.decreases-copy_reply
decreases-copy_reply l = l.depth

-- the array is made of the replies copied and those that are left
abbrev pub invariant-loop-i : goal.invariant-loop-i
invariant-loop-i l = array_of (behind l.replies (read_in (elements_at (element_at l.limits l.depth) (l.count - l._i) l.rest))) ≡ read_in (reply_at l.limits l.depth l.bytes)
