use Rattle.std.proofs.Common.{◌≡◌, ◌+◌, length}
use Rattle.resp_codec.specs.ReplyReading.{line_length}
use Rattle.resp_codec.proofs.reply_heads.line_length.Given as goal

-- what was counted and what is left make up the whole, of the line and of the bytes
abbrev pub invariant-loop-byte : goal.invariant-loop-byte
invariant-loop-byte l = (line_length l.bytes ≡ l.length + line_length l.rest) × (length l.bytes ≡ l.length + length l.rest)

abbrev pub decreases-loop-byte : goal.decreases-loop-byte
decreases-loop-byte l = length l.rest
