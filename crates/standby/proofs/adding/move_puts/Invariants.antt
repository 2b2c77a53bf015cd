use Rattle.std.proofs.Common.{◌≡◌, ◌+◌, ◌≤◌, ◌++◌, length, vec_len}
use Rattle.std.specs.Vec.{vec_capacity}
use Rattle.std.specs.Vec.Iter.{into_iter_items}
use Rattle.mv_keyspace.specs.Table.{puts_of}
use Rattle.standby.proofs.adding.move_puts.Given as goal

abbrev pub invariant-loop-change : goal.invariant-loop-change
invariant-loop-change l = record {
  moved : l.placed.items ++ puts_of (into_iter_items l.change-iterator) ≡ l.initial.placed.items ++ puts_of l.fn.changes.items;
  room : vec_len l.placed + length (into_iter_items l.change-iterator) ≤ vec_capacity l.placed;
}
