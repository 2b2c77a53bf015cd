use Rattle.std.proofs.Common.{◌≡◌, ◌++◌, drop, take}
use Rattle.mv_keyspace.specs.Paging.{front}
use Rattle.mv_keyspace.specs.Row.{table_of}
use Rattle.mv_keyspace.proofs.paging.count_fitting.Given as goal

abbrev pub invariant-loop-at : goal.invariant-loop-at
invariant-loop-at l = table_of (take l.at l.rows) ++ front l.room (table_of (drop l.at l.rows)) ≡ front l.bytes (table_of l.rows)
