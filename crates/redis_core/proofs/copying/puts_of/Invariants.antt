use Rattle.std.proofs.Common.{◌≡◌, ◌++◌}
use Rattle.std.specs.Vec.Iter.{into_iter_items}
use Rattle.mv_keyspace.specs.Row.{table_of}
use Rattle.mv_keyspace.specs.Table.{records}
use Rattle.redis_core.proofs.copying.puts_of.Given as goal

abbrev pub invariant-loop-row : goal.invariant-loop-row
invariant-loop-row l = l.puts.items ++ records (table_of (into_iter_items l.row-iterator)) ≡ records (table_of l.fn.rows.items)
