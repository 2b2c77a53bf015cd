use Rattle.std.proofs.Common.{◌≡◌, ◌++◌}
use Rattle.std.specs.Vec.Iter.{into_iter_items}
use Rattle.mv_keyspace.specs.Row.{table_of}
use Rattle.placing.specs.Read.{rows_read}
use Rattle.placing.proofs.rebuilding.live_rows.Given as goal

abbrev pub invariant-loop-no : goal.invariant-loop-no
invariant-loop-no l = table_of l.rows.items ++ rows_read (into_iter_items l.no-iterator) ≡ rows_read l.fn.counted.items
