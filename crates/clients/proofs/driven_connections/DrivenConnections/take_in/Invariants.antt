use Rattle.clients.specs.Places.{Notes}
use Rattle.clients.proofs.driven_connections.DrivenConnections.take_in.Given as goal

abbrev pub invariant-loop : goal.invariant-loop
invariant-loop g l = record { notes : Notes l.initial.self.places.items l.self.places.items }
