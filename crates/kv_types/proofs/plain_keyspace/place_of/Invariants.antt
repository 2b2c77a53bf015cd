use Rattle.kv_types.proofs.PutLemmas.{PassesPrefix}
use Rattle.kv_types.proofs.plain_keyspace.place_of.Given as goal

abbrev pub invariant-loop-place : goal.invariant-loop-place
invariant-loop-place l = PassesPrefix l.id l.records l.place
