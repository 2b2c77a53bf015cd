use Rattle.std.proofs.Common.{◌≡◌, ◌+◌, ◌^◌, ◌<◌, drop, map}
use Rattle.kv_types.specs.Change.{changes_size}
use Rattle.stream_codec.specs.Message.{put_of}
use Rattle.stream_codec.proofs.writing_copies.puts_len.Given as goal

-- what was counted and the puts that are left make up the whole
abbrev pub invariant-loop-put : goal.invariant-loop-put
invariant-loop-put l =
    (l.len + changes_size (map put_of (drop l.put-index l.puts)) ≡ changes_size (map put_of l.puts)) × (l.len < 2 ^ 64)
