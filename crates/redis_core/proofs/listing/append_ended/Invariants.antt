use Rattle.std.proofs.Common.{◌≡◌, ◌++◌, take}
use Rattle.redis_core.specs.Sequencing.{ended_by_parts}
use Rattle.redis_core.proofs.listing.append_ended.Given as goal

abbrev pub invariant-loop-part : goal.invariant-loop-part
invariant-loop-part l = l.entries.items ≡ l.fn.entries.items ++ ended_by_parts (take l.part-index l.parts)
