use Rattle.std.proofs.Common.{◌≡◌, ◌++◌, drop}
use Rattle.mv_keyspace.specs.Table.{puts_of}
use Rattle.mv_keyspace.specs.Row.{table_of, rows_of_puts}
use Rattle.mv_keyspace.proofs.making.stage.Given as goal

abbrev pub invariant-loop-change : goal.invariant-loop-change
invariant-loop-change l = table_of l.staged.items ++ rows_of_puts l.position (puts_of (drop l.change-index l.changes)) ≡ rows_of_puts l.position (puts_of l.changes)
