use Rattle.std.proofs.Common.{◌≡◌, ◌++◌}
use Rattle.mv_keyspace.specs.Row.{table_of}
use Rattle.mv_keyspace.specs.Versions.{table_in}
use Rattle.mv_keyspace.proofs.overlaying.rows_in.Given as goal

abbrev pub invariant-loop-id : goal.invariant-loop-id
invariant-loop-id l = record {
  can_next : (goal.iterator-loop-id).can_next l.id-iterator;
  is_finite : (goal.iterator-loop-id).is_finite l.id-iterator;
  rows : table_of l.rows.items ++ table_in l.id-iterator ≡ table_in l.initial.id-iterator;
}
