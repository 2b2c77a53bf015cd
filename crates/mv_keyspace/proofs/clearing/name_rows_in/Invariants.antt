use Rattle.std.proofs.Common.{◌≡◌, ◌++◌}
use Rattle.mv_keyspace.specs.Row.{numbers_of, table_of}
use Rattle.mv_keyspace.specs.Slots.{rows_in}
use Rattle.mv_keyspace.specs.Table.{entries_of}
use Rattle.mv_keyspace.proofs.clearing.name_rows_in.Given as goal

abbrev pub invariant-loop-entry : goal.invariant-loop-entry
invariant-loop-entry l =
    numbers_of l.named.items ++ entries_of (table_of (rows_in l.entry-iterator)) ≡ numbers_of l.initial.named.items ++ entries_of (table_of (rows_in l.slots.entries))
