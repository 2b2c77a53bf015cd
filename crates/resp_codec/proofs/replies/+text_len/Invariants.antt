use Rattle.std.proofs.Common.{◌≡◌, ◌+◌, ◌^◌, ◌<◌, length, drop}
use Rattle.std.specs.List.{flat_map}
use Rattle.kv_types.specs.Reply.{text_of}
use Rattle.resp_codec.proofs.replies.+text_len.Given as goal

-- what was counted and the texts that are left make up the whole
abbrev pub invariant-loop-element : goal.invariant-loop-element
invariant-loop-element l =
    (l.len + length (flat_map text_of (drop l.element-index l.element-items)) ≡ length (text_of l.reply)) × (l.len < 2 ^ 64)
