use Rattle.std.proofs.Common.{◌≡◌, []}
use Rattle.placing.specs.Fill.{fill_of}
use Rattle.standby.specs.Taking.{Stands}
use Rattle.links.specs.Continuing.{ServedOn}
use Rattle.links.specs.Copying.{wire}
use Rattle.links.specs.Serving.{held}
use Rattle.links.proofs.serving_on.answer_from.Given as goal

abbrev pub invariant-loop : goal.invariant-loop
invariant-loop g l = record {
  stands : Stands g.E.Durable.device g.E.Durable.contents g.E.Durable.is_faulted g.K.Keyspace.table l.node;
  emptied : l.out.items ≡ [];
  shown : l.shown ≡ fill_of (g.K.Keyspace.table l.node.keyspace) l.node.heap;
  served : ServedOn l.fn.decoder (held (g.E.Durable.contents l.initial.node.engine) (g.K.Keyspace.table l.initial.node.keyspace)) (wire (g.I.Read.remaining l.initial.from) (g.O.Write.contents l.initial.to))
      (held (g.E.Durable.contents l.node.engine) (g.K.Keyspace.table l.node.keyspace)) (wire (g.I.Read.remaining l.from) (g.O.Write.contents l.to)) l.decoder;
}
