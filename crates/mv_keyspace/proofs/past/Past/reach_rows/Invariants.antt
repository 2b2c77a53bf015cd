use Rattle.std.proofs.Common.{◌≡◌, ◌≤◌, drop, take}
use Rattle.std.specs.List.{AllByRecursion}
use Rattle.mv_keyspace.specs.Row.{table_of}
use Rattle.mv_keyspace.specs.Versions.{last_among, past_of, pins_of}
use Rattle.mv_keyspace.proofs.past.Past.reach_rows.Given as goal

abbrev pub invariant-loop-row : goal.invariant-loop-row
invariant-loop-row l = record {
  versions : past_of l.self ≡ past_of l.initial.self;
  pins : pins_of l.self ≡ pins_of l.initial.self;
  position : last_among l.self.position (table_of (drop l.row-index l.rows)) ≡ last_among l.initial.self.position (table_of l.rows);
  rises : l.initial.self.position ≤ l.self.position;
  rows : AllByRecursion (λ row. row.1.position ≤ l.self.position) (table_of (take l.row-index l.rows));
}
