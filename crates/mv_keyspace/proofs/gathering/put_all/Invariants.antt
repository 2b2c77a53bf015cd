use Rattle.std.proofs.Common.{◌≡◌, drop}
use Rattle.mv_keyspace.specs.Row.{table_of}
use Rattle.mv_keyspace.specs.Versions.{table_in, with_rows}
use Rattle.mv_keyspace.proofs.gathering.put_all.Given as goal

abbrev pub invariant-loop-row : goal.invariant-loop-row
invariant-loop-row l =
    with_rows (table_of (drop l.row-index l.rows)) (table_in l.gathered.entries) ≡ with_rows (table_of l.rows) (table_in l.initial.gathered.entries)
