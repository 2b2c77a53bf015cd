use Rattle.std.proofs.Common.{◌≡◌, ◌∷◌, ◌++◌, [], List, map, length, drop, Err, IsErrOf, refl, sym, ap, ap₂, subst, ◌∙◌, append_assoc, arith}
use Rattle.std.specs.Vec.Iter.{into_iter_items}
use Rattle.kv_types.specs.declared.change.Change.{Change}
use Rattle.kv_types.specs.declared.refusal.Refusal.{Refusal}
use Rattle.kv_types.specs.declared.refusal.Refusal.TheVariants.{Full}
use Rattle.model.specs.declared.group.PlacedChange.{PlacedChange}
use Rattle.model.specs.Group.{change_of}
use Rattle.mv_keyspace.specs.Table.{puts_of}
use Rattle.placing.specs.Place.{TakesPlaces, HasRoomFor, PlacesAfter}
use Rattle.placing.proofs.PlacesLemmas.{added_places, one_more, no_room}
use Rattle.placing.proofs.places.place_all.Goals as goal
use Rattle.placing.proofs.places.place_all.Goals.{In-Err}

pub loop-change-preserved : goal.loop-change-preserved
loop-change-preserved c =
    let invariant = c.loop-change.invariant in
    let rest = into_iter_items c.next.new.self in
    let count : length (into_iter_items c.loop-change.change-iterator) ≡ length (c.in-Some.change ∷ rest) = ap length c.in-Some.ensures.steps.0 in
    record {
      places = subst (λ change. PlacesAfter c.args.heap.now c.reserve.new.self.items (c.loop-change.yielded ++ change ∷ []) c.push_reserved.new.self.items c.place.new.heap) c.in-Ok.ensures.same
          (one_more c.args.heap.now c.reserve.new.self.items c.loop-change.yielded c.loop-change.placed.items c.loop-change.heap invariant.places
          c.push_reserved.new.self.items c.in-Ok.change c.place.new.heap c.push_reserved.ensures.items c.in-Ok.ensures.places);
      left = invariant.left ∙ ap (λ items. c.loop-change.yielded ++ items) c.in-Some.ensures.steps.0 ∙ sym (append_assoc c.loop-change.yielded (c.in-Some.change ∷ []) rest);
      room = omega (arith, count, c.push_reserved.ensures.len, c.push_reserved.ensures.capacity, invariant.room);
    }

-- the places that were taken stand behind the changes that were there
taken : (c : In-Err) → TakesPlaces c.args.heap.now (puts_of (drop c.len-from.result c.loop-change.placed.items)) c.place.new.heap
taken c =
    subst (TakesPlaces c.args.heap.now (puts_of (drop c.len-from.result c.loop-change.placed.items))) (sym c.in-Err.ensures.err)
    (added_places c.args.heap.now c.reserve.new.self.items c.loop-change.yielded c.loop-change.placed.items c.loop-change.heap c.loop-change.invariant.places c.len-from.result
    (let same = ap length c.in_ok-reserve.ensures.items in omega (arith, same, c.len-from.ensures, c.args.placed.now.ok.0)))

pub give_back-requires-clause-taken : goal.give_back-requires-clause-taken
give_back-requires-clause-taken c = (c.args.heap.now, taken (goal.at.give_back-requires-clause-taken c).In-Err)

pub returns-in-Err-clause-err : goal.returns-in-Err-clause-err
returns-in-Err-clause-err c = c.give_back.ensures.heap c.args.heap.now (taken (goal.at.returns-in-Err-clause-err c).In-Err)

pub returns-in-Err-clause-full_only : goal.returns-in-Err-clause-full_only
returns-in-Err-clause-full_only c = λ full has.
    let same_cause : c.in-Err.refusal ≡ Full = cc full in
    let places = c.loop-change.invariant.places in
    let rest = into_iter_items c.next.new.self in
    let whole : c.args.changes.items ≡ map change_of places.placed ++ c.in-Some.change ∷ rest =
    c.loop-change.invariant.left ∙ ap₂ (λ (xs ys : List Change). xs ++ ys) (sym places.changes_are) c.in-Some.ensures.steps.0 in
    no_room c.in-Some.change rest c.args.heap.now places.placed c.loop-change.heap places.places
    (c.in-Err.ensures.full_only (subst (λ (x : Refusal). IsErrOf {T = PlacedChange} {E = Refusal} (Err c.in-Err.refusal) x) same_cause refl)) (subst (HasRoomFor c.args.heap.now) whole has)
