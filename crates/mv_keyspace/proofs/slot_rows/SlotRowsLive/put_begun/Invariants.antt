use Rattle.std.proofs.Common.{◌≡◌}
use Rattle.mv_keyspace.specs.Row.{table_of}
use Rattle.mv_keyspace.specs.Slots.{rows_in}
use Rattle.mv_keyspace.specs.Versions.{begun_at, table_in, with_rows}
use Rattle.mv_keyspace.proofs.slot_rows.SlotRowsLive.put_begun.Given as goal

abbrev pub invariant-loop-entry : goal.invariant-loop-entry
invariant-loop-entry l =
    with_rows (begun_at l.position (table_of (rows_in l.entry-iterator))) (table_in l.rows.entries) ≡ with_rows (begun_at l.position (table_of (rows_in l.self.slots.entries))) (table_in l.initial.rows.entries)
