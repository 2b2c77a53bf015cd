use Rattle.clients.specs.Places.{IsNoted, NotesPlace}
use Rattle.clients.proofs.PlacesLemmas.{Along}
use Rattle.clients.proofs.places.note_all.Given as goal

abbrev pub invariant-loop-place : goal.invariant-loop-place
invariant-loop-place l = Along (λ before after. NotesPlace before after × IsNoted after) l.place-index l.initial.place-items l.place-items
