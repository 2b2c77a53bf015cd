use Rattle.std.proofs.Common.{◌≡◌, ◌+◌, ◌≤◌, ◌++◌, length, vec_len, vec_capacity}
use Rattle.std.specs.Vec.Iter.{into_iter_items}
use Rattle.kv_types.specs.Keyspace.{play_all}
use Rattle.kv_types.proofs.plain_keyspace.play_each.Given as goal

abbrev pub invariant-loop-change : goal.invariant-loop-change
invariant-loop-change l =
    (l.records.items ≡ play_all l.initial.records.items l.yielded)
    × (l.fn.changes.items ≡ l.yielded ++ into_iter_items l.change-iterator)
    × (vec_len l.records + length (into_iter_items l.change-iterator) ≤ vec_capacity l.records)
