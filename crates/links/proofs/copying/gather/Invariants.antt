use Rattle.std.proofs.Common.{◌≡◌}
use Rattle.placing.specs.Fill.{fill_of}
use Rattle.standby.specs.Newcomers.{AwaitsCopy}
use Rattle.links.specs.Copying.{HasParts, newcomer, wire}
use Rattle.links.proofs.copying.gather.Given as goal

abbrev pub invariant-loop : goal.invariant-loop
invariant-loop g l = record {
  awaits : AwaitsCopy g.E.Durable.device g.E.Durable.contents g.E.Durable.is_faulted g.E.Durable.staged g.K.Keyspace.table l.node;
  shown : l.shown ≡ fill_of (g.K.Keyspace.table l.node.keyspace) l.node.heap;
  so_far : HasParts (newcomer g.E.Durable.device g.E.Durable.contents g.E.Durable.is_faulted g.E.Durable.staged g.K.Keyspace.table) l.initial.node
      (wire (g.I.Read.remaining l.initial.from) (g.O.Write.contents l.initial.to)) l.decoder l.node (wire (g.I.Read.remaining l.from) (g.O.Write.contents l.to));
}
