use Rattle.std.proofs.Common.{◌≡◌, ◌≤◌, ◌++◌, ◌∷◌, [], length}
use Rattle.std.specs.Vec.Iter.{into_iter_items}
use Rattle.mv_keyspace.specs.Slot.{rows_of}
use Rattle.mv_keyspace.specs.Slots.{AreSlots, rows_in}
use Rattle.mv_keyspace.proofs.filling.pairs_of.Given as goal

abbrev pub invariant-loop-row : goal.invariant-loop-row
invariant-loop-row l = record {
  slots : AreSlots (l.pairs.items ++ l.last ∷ []);
  filled : 1 ≤ length (rows_of l.last.0 l.last.1);
  rows : rows_in (l.pairs.items ++ l.last ∷ []) ++ into_iter_items l.row-iterator ≡ l.fn.rows.items;
}
