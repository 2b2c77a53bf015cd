use Rattle.std.proofs.Common.{sym, ◌∙◌}
use Rattle.kv_types.proofs.PutLemmas.{put_equal}
use Rattle.kv_types.proofs.plain_keyspace.place_of.Goals as goal

pub returns-in-Equal-clause-here : goal.returns-in-Equal-clause-here
returns-in-Equal-clause-here c = (c.loop-place-test.true, put_equal c.args.id.now c.args.records.now c.loop-place.place c.index-records-place.result c.loop-place.invariant c.loop-place-test.true c.index-records-place.is (sym c.cmp.ensures ∙ c.in-Equal.is))
