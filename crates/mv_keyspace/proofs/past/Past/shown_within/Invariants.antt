use Rattle.std.proofs.Common.{◌≡◌, [], take}
use Rattle.std.specs.FinMap.Entries.{where_key}
use Rattle.std.specs.Option.{option_copied}
use Rattle.kv_types.specs.Keyspace.{record_cmp}
use Rattle.mv_keyspace.specs.Paging.{is_within}
use Rattle.mv_keyspace.specs.Versions.{table_in, versions_of, with_past}
use Rattle.mv_keyspace.proofs.past.Past.shown_within.Given as goal

abbrev pub invariant-loop-ended : goal.invariant-loop-ended
invariant-loop-ended l =
    table_in l.rows.entries ≡ where_key record_cmp (is_within (option_copied l.after) (option_copied l.until)) (with_past l.position (versions_of (take l.ended-index l.ended-items)) [])
