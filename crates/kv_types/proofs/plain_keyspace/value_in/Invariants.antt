use Rattle.std.proofs.Common.{◌≡◌, drop}
use Rattle.kv_types.specs.Keyspace.{value_at}
use Rattle.kv_types.proofs.plain_keyspace.value_in.Given as goal

abbrev pub invariant-loop-record : goal.invariant-loop-record
invariant-loop-record l = value_at l.records l.id ≡ value_at (drop l.record-index l.records) l.id
