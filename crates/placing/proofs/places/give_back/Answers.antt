use Rattle.std.proofs.Common.{◌≡◌, ◌≤◌, ◌++◌, [], ◌∷◌, length, drop, refl, sym, ap, subst, ◌∙◌, arith, length-append, drop_of_length-le}
use Rattle.std.proofs.lemmas.List.{take_all}
use Rattle.std.specs.Option.{option_to_list}
use Rattle.extent_heap.specs.Room.{Room}
use Rattle.model.specs.Group.{put_of}
use Rattle.mv_keyspace.specs.Table.{puts_of}
use Rattle.placing.specs.Place.{TakesPlaces}
use Rattle.placing.proofs.PlacesLemmas.{last_place, drop-last, take-last}
use Rattle.placing.proofs.places.give_back.Goals as goal
use Rattle.placing.proofs.places.give_back.Goals.{After-unwrap-change}

pub loop-placed-init : goal.loop-placed-init
loop-placed-init c = record { within = c.requires.within; kept = refl; taken = c.requires.taken; rest = λ before takes. takes }

-- the list with its last change
with_last : (c : After-unwrap-change) → c.loop-placed.placed.items ≡ c.pop.new.self.items ++ c.unwrap-change.result ∷ []
with_last c = c.pop.ensures.items ∙ ap (λ last. c.pop.new.self.items ++ option_to_list last) c.unwrap-change.ensures

behind : (c : After-unwrap-change) → c.args.from ≤ length c.pop.new.self.items
behind c =
    omega (arith, ap length (with_last c) ∙ length-append c.pop.new.self.items (c.unwrap-change.result ∷ []), c.loop-placed-test.true, c.len.ensures, c.loop-placed.placed.ok.0)

-- the last change took its place after those that are left
last : (c : After-unwrap-change) (before : Room) → TakesPlaces before (puts_of (drop c.args.from c.loop-placed.placed.items)) c.loop-placed.heap
    → (between : Room) × TakesPlaces before (puts_of (drop c.args.from c.pop.new.self.items)) between × TakesPlaces between (put_of c.unwrap-change.result) c.loop-placed.heap
last c before takes =
    last_place before (drop c.args.from c.pop.new.self.items) c.unwrap-change.result c.loop-placed.heap
    (subst (λ items. TakesPlaces before (puts_of items) c.loop-placed.heap) (drop-last c.args.from c.loop-placed.placed.items c.pop.new.self.items c.unwrap-change.result (with_last c) (behind c)) takes)

pub give_place_back-requires : goal.give_place_back-requires
give_place_back-requires c =
    let split = last (goal.at.give_place_back-requires c).After-unwrap-change c.loop-placed.invariant.taken.0 c.loop-placed.invariant.taken.1 in
    (split.0, split.2)

pub loop-placed-preserved : goal.loop-placed-preserved
loop-placed-preserved c =
    let here = (goal.at.loop-placed-preserved c).After-unwrap-change in
    let prefix = λ (before : Room) (takes : TakesPlaces before (puts_of (drop c.args.from c.loop-placed.placed.items)) c.loop-placed.heap).
    let split = last here before takes in
    subst (TakesPlaces before (puts_of (drop c.args.from c.pop.new.self.items))) (sym (c.give_place_back.ensures split.0 split.2)) split.1 in
    record {
      within = let le = behind here in omega (arith, le, c.pop.new.self.ok.0);
      kept = sym (take-last c.args.from c.loop-placed.placed.items c.pop.new.self.items c.unwrap-change.result (with_last here) (behind here)) ∙ c.loop-placed.invariant.kept;
      taken = (c.loop-placed.invariant.taken.0, prefix c.loop-placed.invariant.taken.0 c.loop-placed.invariant.taken.1);
      rest = λ before takes. prefix before (c.loop-placed.invariant.rest before takes);
    }

pub returns-clause-heap : goal.returns-clause-heap
returns-clause-heap c = λ before takes.
    let all : length c.loop-placed.placed.items ≤ c.args.from = omega (arith, c.loop-placed-test.false, c.len.ensures, c.loop-placed.placed.ok.0) in
    subst (λ items. TakesPlaces before (puts_of items) c.loop-placed.heap) (drop_of_length-le c.loop-placed.placed.items all) (c.loop-placed.invariant.rest before takes)

pub returns-clause-placed : goal.returns-clause-placed
returns-clause-placed c =
    let all : length c.loop-placed.placed.items ≤ c.args.from = omega (arith, c.loop-placed-test.false, c.len.ensures, c.loop-placed.placed.ok.0) in
    sym (take_all c.args.from c.loop-placed.placed.items all) ∙ c.loop-placed.invariant.kept
