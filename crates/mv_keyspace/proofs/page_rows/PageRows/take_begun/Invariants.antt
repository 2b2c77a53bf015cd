use Rattle.std.proofs.Common.{◌≡◌, drop}
use Rattle.mv_keyspace.specs.Paging.{filled}
use Rattle.mv_keyspace.specs.Row.{table_of}
use Rattle.mv_keyspace.specs.Versions.{begun_at}
use Rattle.mv_keyspace.proofs.page_rows.PageRows.take_begun.Given as goal

abbrev pub invariant-loop-row : goal.invariant-loop-row
invariant-loop-row l = record {
  rows : filled l.self.bytes (table_of l.self.rows.items) (begun_at l.position (table_of (drop l.row-index l.rows))) ≡ filled l.initial.self.bytes (table_of l.initial.self.rows.items) (begun_at l.position (table_of l.rows));
  bytes : l.self.bytes ≡ l.initial.self.bytes;
}
