use Rattle.std.proofs.Common.{◌≡◌, ◌+◌, ◌≤◌, ◌++◌, length, map, vec_len, vec_capacity}
use Rattle.mv_keyspace.specs.Versions.{ended_at, past_of, pins_of, table_in}
use Rattle.mv_keyspace.proofs.past.Past.keep_all.Given as goal

abbrev pub invariant-loop-id : goal.invariant-loop-id
invariant-loop-id l = record {
  can_next : (goal.iterator-loop-id).can_next l.id-iterator;
  is_finite : (goal.iterator-loop-id).is_finite l.id-iterator;
  versions : past_of l.self ++ map (ended_at l.position) (table_in l.id-iterator) ≡ past_of l.initial.self ++ map (ended_at l.position) (table_in l.initial.id-iterator);
  pins : pins_of l.self ≡ pins_of l.initial.self;
  position : l.self.position ≡ l.initial.self.position;
  room : vec_len l.self.ended + length l.id-iterator ≤ vec_capacity l.self.ended;
}
