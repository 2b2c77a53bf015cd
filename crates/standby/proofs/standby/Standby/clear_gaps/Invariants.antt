use Rattle.std.proofs.Common.{◌≡◌, ◌⊎◌, Ok, length}
use Rattle.placing.specs.Place.{HasRoomFor}
use Rattle.standby.specs.Taking.{Rearranges}
use Rattle.standby.proofs.RoomLemmas.{IsReady}
use Rattle.standby.proofs.standby.Standby.clear_gaps.Given as goal

abbrev pub invariant-loop-self : goal.invariant-loop-self
invariant-loop-self g l = record {
  so_far : Rearranges g.E.Durable.device g.E.Durable.contents g.E.Durable.is_faulted g.K.Keyspace.table {X = Unit {0}} l.fn.frame l.fn.self (Ok tt) l.self;
  ready : IsReady g.E.Durable.device g.E.Durable.contents g.E.Durable.is_faulted g.K.Keyspace.table l.fn.frame l.self;
  first : (l.self ≡ l.fn.self) ⊎ (HasRoomFor l.fn.self.heap l.fn.frame.changes.items → ⊥);
}

abbrev pub decreases-loop-self : goal.decreases-loop-self
decreases-loop-self g l = length (g.E.Durable.contents l.self.engine).current.gaps.items
