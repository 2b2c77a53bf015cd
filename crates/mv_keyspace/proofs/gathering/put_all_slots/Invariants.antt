use Rattle.std.proofs.Common.{◌≡◌}
use Rattle.mv_keyspace.specs.Row.{table_of}
use Rattle.mv_keyspace.specs.Slots.{rows_in}
use Rattle.mv_keyspace.specs.Versions.{table_in, with_rows}
use Rattle.mv_keyspace.proofs.gathering.put_all_slots.Given as goal

abbrev pub invariant-loop-entry : goal.invariant-loop-entry
invariant-loop-entry l =
    with_rows (table_of (rows_in l.entry-iterator)) (table_in l.gathered.entries) ≡ with_rows (table_of (rows_in l.slots.entries)) (table_in l.initial.gathered.entries)
