use Rattle.std.proofs.Common.{◌≡◌, drop}
use Rattle.mv_keyspace.specs.Versions.{is_pinned, version_of}
use Rattle.mv_keyspace.proofs.past.Ended.is_pinned.Given as goal

abbrev pub invariant-loop-pin : goal.invariant-loop-pin
invariant-loop-pin l = is_pinned (drop l.pin-index l.pins) (version_of l.self).1 ≡ is_pinned l.pins (version_of l.self).1
