use Rattle.std.proofs.Common.{◌≡◌, ◌+◌, drop}
use Rattle.kv_types.specs.Change.{changes_size}
use Rattle.redis_core.proofs.running.left_after.Given as goal

abbrev pub invariant-loop-change : goal.invariant-loop-change
invariant-loop-change l = l.left + changes_size (drop l.change-index l.changes) ≡ l.rest + changes_size l.changes
