use Rattle.standby.specs.Newcomers.{AwaitsCopy}
use Rattle.links.proofs.copied.await_copy.Given as goal

abbrev pub invariant-loop : goal.invariant-loop
invariant-loop g l = AwaitsCopy g.E.Durable.device g.E.Durable.contents g.E.Durable.is_faulted g.E.Durable.staged g.K.Keyspace.table l.node
