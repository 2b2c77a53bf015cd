use Rattle.std.proofs.Common.{◌≡◌}
use Rattle.mv_keyspace.specs.Slots.{AreSlots, rows_in}
use Rattle.mv_keyspace.proofs.by_key.settle_dropped.Given as goal

abbrev pub invariant-loop-change : goal.invariant-loop-change
invariant-loop-change l = record {
  slots : AreSlots l.slots.entries;
  rows : rows_in l.slots.entries ≡ rows_in l.initial.slots.entries;
}
