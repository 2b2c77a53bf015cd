use Rattle.std.proofs.Common.{◌≡◌, ◌≤◌, [], length}
use Rattle.placing.specs.Left.{IsBeside}
use Rattle.standby.specs.Moving.{AreMadeInTurn, ended_of}
use Rattle.standby.proofs.standby.Standby.gather.Given as goal

abbrev pub invariant-loop-step : goal.invariant-loop-step
invariant-loop-step g l = record {
  engine : l.self.engine ≡ l.fn.self.engine;
  ended : l.self.ended ≡ l.fn.self.ended;
  beside : IsBeside (g.K.Keyspace.table l.self.keyspace) l.self.heap;
  made : AreMadeInTurn (g.K.Keyspace.table l.fn.self.keyspace) l.fn.self.heap l.batch.parts.items (g.K.Keyspace.table l.self.keyspace) l.self.heap;
  named : l.batch.ended.items ≡ ended_of l.batch.parts.items;
  few : length l.batch.parts.items ≤ l.fn.most;
  stays : l.batch.parts.items ≡ [] → l.self ≡ l.fn.self;
}
