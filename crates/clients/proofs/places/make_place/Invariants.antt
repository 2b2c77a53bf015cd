use Rattle.std.proofs.Common.{◌≡◌, ℕ}
use Rattle.clients.specs.Places.{connection_at}
use Rattle.clients.proofs.places.make_place.Given as goal

abbrev pub invariant-loop : goal.invariant-loop
invariant-loop l = (k : ℕ) → connection_at l.places.items k ≡ connection_at l.initial.places.items k
