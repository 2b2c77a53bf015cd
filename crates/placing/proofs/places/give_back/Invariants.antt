use Rattle.std.proofs.Common.{◌≡◌, ◌≤◌, drop, take, vec_len}
use Rattle.extent_heap.specs.Room.{Room}
use Rattle.mv_keyspace.specs.Table.{puts_of}
use Rattle.placing.specs.Place.{TakesPlaces}
use Rattle.placing.proofs.places.give_back.Given as goal

-- whatever heap all the places were taken from, taking only those that are left leads from it to the heap as it is now
abbrev pub invariant-loop-placed : goal.invariant-loop-placed
invariant-loop-placed l = record {
  within : l.from ≤ vec_len l.placed;
  kept : take l.from l.placed.items ≡ take l.from l.initial.placed.items;
  taken : (before : Room) × TakesPlaces before (puts_of (drop l.from l.placed.items)) l.heap;
  rest : (before : Room) → TakesPlaces before (puts_of (drop l.from l.initial.placed.items)) l.initial.heap → TakesPlaces before (puts_of (drop l.from l.placed.items)) l.heap;
}

abbrev pub decreases-loop-placed : goal.decreases-loop-placed
decreases-loop-placed l = vec_len l.placed
