use Rattle.std.proofs.Common.{◌≡◌, drop}
use Rattle.mv_keyspace.specs.Row.{table_of}
use Rattle.mv_keyspace.specs.Versions.{begun_at, table_in, with_rows}
use Rattle.mv_keyspace.proofs.gathering.put_begun.Given as goal

abbrev pub invariant-loop-row : goal.invariant-loop-row
invariant-loop-row l =
    with_rows (begun_at l.position (table_of (drop l.row-index l.rows))) (table_in l.gathered.entries) ≡ with_rows (begun_at l.position (table_of l.rows)) (table_in l.initial.gathered.entries)
