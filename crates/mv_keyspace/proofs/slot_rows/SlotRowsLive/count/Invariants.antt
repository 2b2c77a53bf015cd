use Rattle.std.proofs.Common.{◌≡◌, ◌+◌, ◌-◌, ◌^◌, ◌≤◌, min, length}
use Rattle.mv_keyspace.specs.Slots.{rows_in}
use Rattle.mv_keyspace.proofs.slot_rows.SlotRowsLive.count.Given as goal

abbrev pub invariant-loop-entry : goal.invariant-loop-entry
invariant-loop-entry l = record {
  bound : l.count ≤ 2 ^ 64 - 1;
  sum : min (l.count + length (rows_in l.entry-iterator)) (2 ^ 64 - 1) ≡ min (length (rows_in l.self.slots.entries)) (2 ^ 64 - 1);
}
