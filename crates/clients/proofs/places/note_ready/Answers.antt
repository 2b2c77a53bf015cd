use Rattle.mio.specs.Events.{items as events_in}
use Rattle.clients.proofs.PlacesLemmas.{heeds-next, notes-all}
use Rattle.clients.proofs.places.note_ready.Goals as goal

pub loop-event-preserved : goal.loop-event-preserved
loop-event-preserved c = record {
  notes = notes-all c.args.places.now.items c.loop-event.places.items c.note_event.new.places.items c.loop-event.invariant.notes c.note_event.ensures.notes;
  heeds = heeds-next c.args.places.now.items c.loop-event.places.items c.note_event.new.places.items (events_in c.args.events.now) c.loop-event.event-iterator.rest.now
      c.next.new.self.rest.now c.in-Some.event.now c.in-Some.ensures.steps c.loop-event.invariant.heeds c.loop-event.invariant.notes c.note_event.ensures.notes
      c.note_event.ensures.ready;
}
