use Rattle.std.proofs.Common.{◌+◌, ◌≤◌, drop}
use Rattle.mv_keyspace.specs.Row.{table_of}
use Rattle.mv_keyspace.specs.Slots.{AreKeyed, ends_at_once, rows_in}
use Rattle.mv_keyspace.proofs.by_key.room_for_ended.Given as goal

abbrev pub invariant-loop-change : goal.invariant-loop-change
invariant-loop-change l = record {
  keyed : AreKeyed (drop l.change-index l.changes);
  room : ends_at_once (table_of (rows_in l.slots.entries)) l.changes + l.puts ≤ l.room + ends_at_once (table_of (rows_in l.slots.entries)) (drop l.change-index l.changes);
}
