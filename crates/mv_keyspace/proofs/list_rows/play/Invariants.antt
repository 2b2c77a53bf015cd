use Rattle.std.proofs.Common.{◌≡◌, ℕ, ◌≤◌, ◌+◌, drop, length, vec_len, vec_capacity}
use Rattle.std.specs.Vec.Iter.{into_iter_items, into_iter_len}
use Rattle.cmd_core.specs.Contents.{keys_of}
use Rattle.mv_keyspace.specs.Table.{puts_of}
use Rattle.mv_keyspace.specs.Row.{records_of, table_of, rows_of_puts, numbers_of}
use Rattle.mv_keyspace.proofs.PlayingLemmas.{Playing}
use Rattle.mv_keyspace.proofs.list_rows.play.Given as goal

abbrev pub invariant-loop-change : goal.invariant-loop-change
invariant-loop-change l = record {
  playing : (position : ℕ) → table_of l.fn.staged.items ≡ rows_of_puts position (puts_of l.changes)
      → Playing position (table_of l.initial.rows.items) l.changes (numbers_of l.initial.ended.items) (table_of l.rows.items) (drop l.change-index l.changes) (table_of (into_iter_items l.staged)) (numbers_of l.ended.items);
  counted : l.count ≡ length (keys_of (records_of l.rows.items));
  room : vec_len l.rows + into_iter_len l.staged ≤ vec_capacity l.rows;
  room_for_ended : vec_len l.ended + (vec_len l.rows + into_iter_len l.staged) ≤ vec_capacity l.ended;
}
