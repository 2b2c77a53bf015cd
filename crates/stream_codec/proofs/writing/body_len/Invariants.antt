use Rattle.std.proofs.Common.{◌≡◌, ◌+◌, ◌^◌, ◌<◌, drop}
use Rattle.kv_types.specs.Change.{changes_size}
use Rattle.stream_codec.proofs.writing.body_len.Given as goal

-- what was counted and the changes that are left make up the whole
abbrev pub invariant-loop-change : goal.invariant-loop-change
invariant-loop-change l =
    (l.len + changes_size (drop l.change-index l.changes) ≡ changes_size l.changes) × (l.len < 2 ^ 64)
