use Rattle.std.proofs.Common.{◌≡◌, ◌+◌, ◌≤◌, ◌++◌, vec_len, vec_capacity}
use Rattle.std.specs.Vec.Iter.{drain_items, drain_len, DrainKeeps}
use Rattle.mv_keyspace.specs.Table.{entries_of}
use Rattle.mv_keyspace.specs.Row.{table_of, numbers_of}
use Rattle.mv_keyspace.proofs.ending.end_range.Given as goal

abbrev pub invariant-loop-row : goal.invariant-loop-row
invariant-loop-row l = record {
  can_next : (goal.iterator-loop-row).can_next l.row-iterator;
  is_finite : (goal.iterator-loop-row).is_finite l.row-iterator;
  keeps : DrainKeeps l.initial.row-iterator l.row-iterator;
  named : numbers_of l.ended.items ++ entries_of (table_of (drain_items l.row-iterator)) ≡ numbers_of l.initial.ended.items ++ entries_of (table_of (drain_items l.initial.row-iterator));
  room : vec_len l.ended + drain_len l.row-iterator ≤ vec_capacity l.ended;
  capacity : vec_capacity l.initial.ended ≤ vec_capacity l.ended;
}
