use Rattle.std.proofs.Common.{sym, subst}
use Rattle.extent_heap.specs.Room.{Room, TakesEntry}
use Rattle.extent_heap.proofs.Rooms.{out_again, out_entry_again}
use Rattle.model.specs.Group.{put_of}
use Rattle.placing.specs.Place.{TakesPlaces}
use Rattle.placing.proofs.PlacesLemmas.{one_place, some_lines}
use Rattle.placing.proofs.places.give_place_back.Goals as goal
use Rattle.placing.proofs.places.give_place_back.Goals.{After-give}

pub give-requires : goal.give-requires
give-requires c =
    let place = one_place c.requires.0 c.args.change c.in-Put.put c.args.heap.now c.in-Put.is c.requires.1 in
    out_again place.between c.in-Put.put.extent c.args.heap.now (some_lines c.in-Put.put place.fitting) place.extent

-- once the extent is given back, the heap is as it was before the extent was taken
entry_last : (c : After-give) (before : Room) → TakesPlaces before (put_of c.args.change) c.args.heap.now → TakesEntry before c.in-Put.put.entry c.give.new.self
entry_last c before takes =
    let place = one_place before c.args.change c.in-Put.put c.args.heap.now c.in-Put.is takes in
    subst (TakesEntry before c.in-Put.put.entry) (sym (c.give.ensures.undoes place.between place.extent)) place.entry

pub give_entry-requires : goal.give_entry-requires
give_entry-requires c = out_entry_again c.requires.0 c.in-Put.put.entry c.give.new.self (entry_last (goal.at.give_entry-requires c).After-give c.requires.0 c.requires.1)

pub returns-in-Put : goal.returns-in-Put
returns-in-Put c = λ before takes. c.give_entry.ensures.undoes before (entry_last (goal.at.returns-in-Put c).After-give before takes)
