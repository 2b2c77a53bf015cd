use Rattle.kv_types.proofs.PlayLemmas.{is_keyspace-play_all}
use Rattle.kv_types.proofs.plain_keyspace.PlainKeyspace.play_all.Goals as goal

pub invariant_of-self-2 : goal.invariant_of-self-2
invariant_of-self-2 c = rw (c.play_each.ensures, c.reserve.ensures.items) (is_keyspace-play_all c.self.inside.records.items c.args.changes.items c.self.invariant)
