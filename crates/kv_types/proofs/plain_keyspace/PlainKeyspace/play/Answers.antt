use Rattle.kv_types.proofs.PlayLemmas.{is_keyspace-played}
use Rattle.kv_types.proofs.plain_keyspace.PlainKeyspace.play.Goals as goal

pub invariant_of-self : goal.invariant_of-self
invariant_of-self c = is_keyspace-played c.play_on.result c.self.inside.records.items c.play_on.new.records.items c.args.change c.self.invariant c.play_on.ensures.ok c.play_on.ensures.err
