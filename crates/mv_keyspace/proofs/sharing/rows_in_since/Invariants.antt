use Rattle.std.proofs.Common.{◌≡◌, ◌++◌}
use Rattle.mv_keyspace.specs.Table.{since}
use Rattle.mv_keyspace.specs.Row.{table_of}
use Rattle.mv_keyspace.specs.Slots.{rows_in}
use Rattle.mv_keyspace.proofs.sharing.rows_in_since.Given as goal

abbrev pub invariant-loop-entry : goal.invariant-loop-entry
invariant-loop-entry l = table_of l.later.items ++ since l.from (table_of (rows_in l.entry-iterator)) ≡ since l.from (table_of (rows_in l.slots.entries))
