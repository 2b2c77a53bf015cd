use Rattle.std.proofs.Common.{Ok}
use Rattle.standby.specs.Following.{IsGapless}
use Rattle.standby.specs.Taking.{Rearranges}
use Rattle.standby.proofs.RoomLemmas.{IsReady}
use Rattle.standby.proofs.standby.Standby.make_moves.Given as goal

abbrev pub invariant-loop : goal.invariant-loop
invariant-loop g l = record {
  so_far : Rearranges g.E.Durable.device g.E.Durable.contents g.E.Durable.is_faulted g.K.Keyspace.table {X = Unit {0}} l.fn.frame l.fn.self (Ok tt) l.self;
  ready : IsReady g.E.Durable.device g.E.Durable.contents g.E.Durable.is_faulted g.K.Keyspace.table l.fn.frame l.self;
  gapless : IsGapless (g.E.Durable.contents l.fn.self.engine).current → IsGapless (g.E.Durable.contents l.self.engine).current;
}
