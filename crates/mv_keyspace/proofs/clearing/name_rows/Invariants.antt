use Rattle.std.proofs.Common.{◌≡◌, ◌++◌, drop}
use Rattle.mv_keyspace.specs.Row.{numbers_of, table_of}
use Rattle.mv_keyspace.specs.Table.{entries_of}
use Rattle.mv_keyspace.proofs.clearing.name_rows.Given as goal

abbrev pub invariant-loop-row : goal.invariant-loop-row
invariant-loop-row l =
    numbers_of l.named.items ++ entries_of (table_of (drop l.row-index l.rows)) ≡ numbers_of l.initial.named.items ++ entries_of (table_of l.rows)
