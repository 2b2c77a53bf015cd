use Rattle.std.proofs.Common.{◌≡◌, take, map}
use Rattle.kv_types.specs.declared.record_id.RecordId.TheVariants.{Str}
use Rattle.kv_types.specs.Keyspace.{value_at}
use Rattle.cmd_string.proofs.strings.mget.Given as goal

abbrev pub invariant-loop-key : goal.invariant-loop-key
invariant-loop-key g l = l.values.items ≡ map (λ key. value_at (g.L.Lookup.keyspace l.lookup) (Str key)) (take l.key-index l.arguments)
