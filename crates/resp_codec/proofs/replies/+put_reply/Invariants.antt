use Rattle.std.proofs.Common.{◌≡◌, ◌+◌, ◌≤◌, ◌++◌, length, drop}
use Rattle.std.specs.List.{flat_map}
use Rattle.kv_types.specs.Reply.{text_of}
use Rattle.resp_codec.proofs.replies.+put_reply.Given as goal

-- what was put and the texts that are left make up the whole, in bytes and in room
abbrev pub invariant-loop-element : goal.invariant-loop-element
invariant-loop-element g l =
    let left = flat_map text_of (drop l.element-index l.element-items) in
    (g.W.BufMut.written l.out ++ left ≡ g.W.BufMut.written l.fn.out ++ text_of l.reply) × (g.W.BufMut.spare l.fn.out + length left ≤ g.W.BufMut.spare l.out + length (text_of l.reply))
