use Rattle.mio.specs.Events.{items as events_in}
use Rattle.clients.specs.Places.{Notes}
use Rattle.clients.proofs.PlacesLemmas.{Heeds}
use Rattle.clients.proofs.places.note_ready.Given as goal

abbrev pub invariant-loop-event : goal.invariant-loop-event
invariant-loop-event l = record {
  notes : Notes l.initial.places.items l.places.items;
  heeds : Heeds l.initial.places.items l.places.items (events_in l.events) l.event-iterator.rest.now;
}
