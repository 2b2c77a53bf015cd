use Rattle.std.proofs.Common.{◌≡◌, length}
use Rattle.serving.proofs.PlacesLemmas.{AreEmpty}
use Rattle.serving.proofs.places.Places.new.Given as goal

abbrev pub invariant-loop : goal.invariant-loop
invariant-loop l = record { many : length l.connections.items ≡ l.counter; empty : AreEmpty l.connections.items }
