use Rattle.standby_stream.proofs.OpeningLemmas.{gone-these, gone-rising}
use Rattle.mv_keyspace.specs.Table.{records}
use Rattle.standby_stream.proofs.opening.gone_among.Goals as goal

pub returns-clause-these : goal.returns-clause-these
returns-clause-these g c =
    let keyspace = c.args.keyspace.now in
    gone-these (g.K.Lookup.keyspace keyspace) (records (g.K.Keyspace.table keyspace)) (g.met.K.Keyspace.reads keyspace) c.args.ended.items c.put_in_order.new.ids.items c.keep_missing.new.ids.items c.put_in_order.ensures.same c.keep_missing.ensures

pub returns-clause-rising : goal.returns-clause-rising
returns-clause-rising g c =
    let keyspace = c.args.keyspace.now in
    gone-rising (g.K.Lookup.keyspace keyspace) (records (g.K.Keyspace.table keyspace)) (g.met.K.Keyspace.reads keyspace) c.args.ended.items c.put_in_order.new.ids.items c.keep_missing.new.ids.items c.put_in_order.ensures.same c.keep_missing.ensures c.put_in_order.ensures.rising
