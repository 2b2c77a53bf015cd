use Rattle.clients.specs.Places.{NotesPlace}
use Rattle.clients.proofs.PlacesLemmas.{Along}
use Rattle.clients.proofs.places.make_room.Given as goal

abbrev pub invariant-loop-place : goal.invariant-loop-place
invariant-loop-place l = Along NotesPlace l.place-index l.initial.place-items l.place-items
