use Rattle.std.proofs.Common.{◌≡◌, ◌+◌, ◌≤◌, ◌++◌, length, vec_len}
use Rattle.std.specs.Vec.{vec_capacity}
use Rattle.std.specs.Vec.Iter.{into_iter_items}
use Rattle.placing.specs.Place.{PlacesAfter}
use Rattle.placing.proofs.places.place_all.Given as goal

abbrev pub invariant-loop-change : goal.invariant-loop-change
invariant-loop-change l = record {
  places : PlacesAfter l.initial.heap l.initial.placed.items l.yielded l.placed.items l.heap;
  left : l.fn.changes.items ≡ l.yielded ++ into_iter_items l.change-iterator;
  room : vec_len l.placed + length (into_iter_items l.change-iterator) ≤ vec_capacity l.placed;
}
