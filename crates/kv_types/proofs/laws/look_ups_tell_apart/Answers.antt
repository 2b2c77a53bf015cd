use Rattle.kv_types.proofs.PlayLemmas.{same_keyspace}
use Rattle.kv_types.proofs.laws.look_ups_tell_apart.Goals as goal

pub returns : goal.returns
returns c = same_keyspace
