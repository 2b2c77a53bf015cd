use Rattle.std.proofs.Common.{◌≡◌, drop}
use Rattle.mv_keyspace.specs.Versions.{table_in, versions_of, with_past}
use Rattle.mv_keyspace.proofs.past.Past.put_shown.Given as goal

abbrev pub invariant-loop-ended : goal.invariant-loop-ended
invariant-loop-ended l =
    with_past l.position (versions_of (drop l.ended-index l.ended-items)) (table_in l.rows.entries) ≡ with_past l.position (versions_of l.ended-items) (table_in l.initial.rows.entries)
