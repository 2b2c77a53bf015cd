use Rattle.std.proofs.Common.{◌≡◌, ◌++◌, drop}
use Rattle.mv_keyspace.specs.Table.{since}
use Rattle.mv_keyspace.specs.Row.{table_of}
use Rattle.mv_keyspace.proofs.sharing.share_since.Given as goal

abbrev pub invariant-loop-row : goal.invariant-loop-row
invariant-loop-row l =
    table_of l.later.items ++ since l.from (table_of (drop l.row-index l.rows)) ≡ table_of l.initial.later.items ++ since l.from (table_of l.rows)
