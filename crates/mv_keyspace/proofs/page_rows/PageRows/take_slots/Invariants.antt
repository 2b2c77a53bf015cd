use Rattle.std.proofs.Common.{◌≡◌}
use Rattle.std.specs.Option.{option_copied}
use Rattle.mv_keyspace.specs.Paging.{filled, rows_after}
use Rattle.mv_keyspace.specs.Row.{table_of}
use Rattle.mv_keyspace.specs.Slots.{rows_in}
use Rattle.mv_keyspace.specs.Versions.{begun_at}
use Rattle.mv_keyspace.proofs.page_rows.PageRows.take_slots.Given as goal

abbrev pub invariant-loop-entry : goal.invariant-loop-entry
invariant-loop-entry l = record {
  rows : filled l.self.bytes (table_of l.self.rows.items) (begun_at l.position (rows_after (option_copied l.after) (table_of (rows_in l.entry-iterator))))
      ≡ filled l.initial.self.bytes (table_of l.initial.self.rows.items) (begun_at l.position (rows_after (option_copied l.after) (table_of (rows_in l.initial.entry-iterator))));
  bytes : l.self.bytes ≡ l.initial.self.bytes;
}
