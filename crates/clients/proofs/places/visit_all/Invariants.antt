use Rattle.std.proofs.Common.{◌≡◌, false}
use Rattle.clients.specs.Places.{IsQuiet, VisitsPlace}
use Rattle.clients.proofs.PlacesLemmas.{Along}
use Rattle.clients.proofs.places.visit_all.Given as goal

abbrev pub invariant-loop-place : goal.invariant-loop-place
invariant-loop-place g l = record {
  visits : Along (VisitsPlace l.seen) l.place-index l.initial.place-items l.place-items;
  quiet : l.is_busy ≡ false → Along (λ before after. IsQuiet after) l.place-index l.initial.place-items l.place-items;
}
