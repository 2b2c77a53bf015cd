use Rattle.std.proofs.Common.{◌≡◌, ◌++◌, drop}
use Rattle.standby_stream.specs.Delta.{ids_ended}
use Rattle.standby_stream.proofs.opening.records_ended.Given as goal

abbrev pub invariant-loop-entry : goal.invariant-loop-entry
invariant-loop-entry l = l.ended.items ++ ids_ended (drop l.entry-index l.counted) ≡ ids_ended l.counted
