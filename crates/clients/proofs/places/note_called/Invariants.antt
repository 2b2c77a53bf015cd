use Rattle.clients.specs.Places.{Notes}
use Rattle.clients.proofs.places.note_called.Given as goal

abbrev pub invariant-loop-index : goal.invariant-loop-index
invariant-loop-index l = Notes l.initial.places.items l.places.items
