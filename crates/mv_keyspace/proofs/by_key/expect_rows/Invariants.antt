use Rattle.std.proofs.Common.{◌≡◌, ℕ, ◌+◌, ◌≤◌, ◌||◌, List, IsTrue, drop}
use Rattle.mv_keyspace.specs.Slots.{AreSlots, awaited_at, awaits, is_list_at, makes_fields, rows_in}
use Rattle.mv_keyspace.proofs.by_key.expect_rows.Given as goal

abbrev pub invariant-loop-change : goal.invariant-loop-change
invariant-loop-change l = record {
  slots : AreSlots l.slots.entries;
  rows : rows_in l.slots.entries ≡ rows_in l.initial.slots.entries;
  lists : (q : List ℕ) → IsTrue (makes_fields q l.changes) → IsTrue (is_list_at q l.slots.entries || makes_fields q (drop l.change-index l.changes));
  awaited : (q : List ℕ) → awaits q l.changes ≤ awaited_at q l.slots.entries + awaits q (drop l.change-index l.changes);
}
