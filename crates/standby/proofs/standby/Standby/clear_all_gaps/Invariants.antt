use Rattle.std.proofs.Common.{◌≡◌, [], length}
use Rattle.standby.specs.Beginning.{ClearsGaps}
use Rattle.standby.specs.Taking.{Stands}
use Rattle.standby.proofs.standby.Standby.clear_all_gaps.Given as goal

abbrev pub invariant-loop : goal.invariant-loop
invariant-loop g l = record {
  stands : Stands g.E.Durable.device g.E.Durable.contents g.E.Durable.is_faulted g.K.Keyspace.table l.self;
  none : l.self.ended.items ≡ [];
  cleared : ClearsGaps (g.E.Durable.contents l.initial.self.engine) (g.E.Durable.contents l.self.engine);
  copying : g.E.Durable.is_copying l.self.engine ≡ g.E.Durable.is_copying l.initial.self.engine;
}

abbrev pub decreases-loop : goal.decreases-loop
decreases-loop g l = length (g.E.Durable.contents l.self.engine).current.gaps.items
