use Rattle.std.proofs.Common.{◌≡◌, take, map}
use Rattle.cmd_hash.specs.Hash.{value_of}
use Rattle.cmd_hash.proofs.reading.values_of.Given as goal

abbrev pub invariant-loop-field : goal.invariant-loop-field
invariant-loop-field g l = l.values.items ≡ map (λ field. value_of (g.L.Lookup.keyspace l.lookup) l.key field) (take l.field-index l.fields)
