use Rattle.standby.proofs.OutcomeLemmas.{stands_after}
use Rattle.links.proofs.Says.{leaves-refused}
use Rattle.links.proofs.Serving.{acknowledges, not_fault, not_refused-ok}
use Rattle.links.proofs.following.take_frame.Goals as goal

pub returns-in-Ok-clause-stands : goal.returns-in-Ok-clause-stands
returns-in-Ok-clause-stands g c = λ _.
    stands_after _ _ _ _ c.args.frame c.args.node.now _ c.take_frame.new.self c.requires.stands c.in-Ok.ensures (not_refused-ok c.in-Ok.ack)

pub returns-in-Ok-clause-acknowledges : goal.returns-in-Ok-clause-acknowledges
returns-in-Ok-clause-acknowledges g c =
    acknowledges g.E.Durable.device g.E.Durable.contents g.E.Durable.is_faulted g.K.Keyspace.table c.args.frame c.args.node.now c.take_frame.new.self c.in-Ok.ack c.in-Ok.ensures

pub returns-in-Err-clause-stands : goal.returns-in-Err-clause-stands
returns-in-Err-clause-stands g c = λ not_stops.
    stands_after _ _ _ _ c.args.frame c.args.node.now _ c.take_frame.new.self c.requires.stands c.in-Err.ensures
    (not_fault c.in-Err.refusal c.ends_by.result c.ends_by.ensures not_stops)

pub returns-in-Err-clause-leaves : goal.returns-in-Err-clause-leaves
returns-in-Err-clause-leaves g c =
    leaves-refused g.E.Durable.device g.E.Durable.contents g.E.Durable.is_faulted g.K.Keyspace.table c.args.frame c.args.node.now c.take_frame.new.self c.in-Err.refusal c.in-Err.ensures
