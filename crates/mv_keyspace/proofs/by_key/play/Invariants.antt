use Rattle.std.proofs.Common.{◌≡◌, ℕ, ◌≤◌, ◌+◌, List, IsTrue, drop, length, vec_len, vec_capacity}
use Rattle.std.specs.Vec.Iter.{into_iter_items}
use Rattle.cmd_core.specs.Contents.{keys_of}
use Rattle.mv_keyspace.specs.Table.{puts_of}
use Rattle.mv_keyspace.specs.Row.{records_of, table_of, rows_of_puts, numbers_of}
use Rattle.mv_keyspace.specs.Slots.{AreKeyed, AreSlots, awaited_at, awaits, ends, is_list_at, makes_fields, rows_in}
use Rattle.mv_keyspace.proofs.PlayingLemmas.{Playing}
use Rattle.mv_keyspace.proofs.by_key.play.Given as goal

abbrev pub invariant-loop-change : goal.invariant-loop-change
invariant-loop-change l = record {
  slots : AreSlots l.slots.entries;
  keyed : AreKeyed (drop l.change-index l.changes);
  playing : (position : ℕ) → table_of l.fn.staged.items ≡ rows_of_puts position (puts_of l.changes)
      → Playing position (table_of (rows_in l.initial.slots.entries)) l.changes (numbers_of l.initial.ended.items) (table_of (rows_in l.slots.entries)) (drop l.change-index l.changes) (table_of (into_iter_items l.staged)) (numbers_of l.ended.items);
  counted : l.count ≡ length (keys_of (records_of (rows_in l.slots.entries)));
  lists : (q : List ℕ) → IsTrue (makes_fields q (drop l.change-index l.changes)) → IsTrue (is_list_at q l.slots.entries);
  awaited : (q : List ℕ) → awaits q (drop l.change-index l.changes) ≤ awaited_at q l.slots.entries;
  room_for_ended : (position : ℕ) → table_of l.fn.staged.items ≡ rows_of_puts position (puts_of l.changes) → vec_len l.ended + ends position (table_of (rows_in l.slots.entries)) (drop l.change-index l.changes) ≤ vec_capacity l.ended;
}
