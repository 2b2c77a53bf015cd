use Rattle.kv_types.proofs.PlayLemmas.{is_keyspace-empty, is_keyspace-play, is_keyspace-play_all}
use Rattle.kv_types.proofs.laws.keyspace_stays.Goals as goal

pub returns : goal.returns
returns c = record { empty = is_keyspace-empty; change = is_keyspace-play; changes = is_keyspace-play_all }
