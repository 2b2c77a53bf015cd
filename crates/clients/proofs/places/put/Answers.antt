use Rattle.std.proofs.Common.{None, subst}
use Rattle.std.proofs.lemmas.List.{get_or_default}
use Rattle.clients.specs.Places.{NotesPlace}
use Rattle.clients.proofs.PlacesLemmas.{Place, notes-set}
use Rattle.clients.proofs.places.put.Goals as goal

pub returns-in-Some : goal.returns-in-Some
returns-in-Some c =
    let now = c.make_place.new.places.items in
    let index = c.number-index.result in
    record {
      notes = notes-set c.args.places.now.items now index c.put_at.new.place c.make_place.ensures.same c.in-Some.ensures.item.3.0
          (subst (λ (was : Place). NotesPlace was c.put_at.new.place) (get_or_default now index c.in-Some.place.now None c.in-Some.ensures.item.3.0)
          (subst (λ (was : Place). NotesPlace was c.put_at.new.place) c.in-Some.ensures.value c.put_at.ensures.notes));
    }
