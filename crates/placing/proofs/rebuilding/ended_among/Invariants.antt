use Rattle.std.proofs.Common.{◌≡◌, ◌++◌, drop}
use Rattle.mv_keyspace.specs.Row.{numbers_of}
use Rattle.placing.specs.Read.{ended_read}
use Rattle.placing.proofs.rebuilding.ended_among.Given as goal

abbrev pub invariant-loop-no : goal.invariant-loop-no
invariant-loop-no l = numbers_of l.ended.items ++ ended_read (drop l.no-index l.counted) ≡ ended_read l.counted
