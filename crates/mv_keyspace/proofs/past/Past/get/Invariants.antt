use Rattle.std.proofs.Common.{◌≡◌, [], None, Some, MatchOption, take}
use Rattle.mv_keyspace.specs.Table.{cell_at}
use Rattle.mv_keyspace.specs.Version.{cell_of_shown}
use Rattle.mv_keyspace.specs.Versions.{versions_of, with_past}
use Rattle.mv_keyspace.proofs.past.Past.get.Given as goal

abbrev pub invariant-loop-ended : goal.invariant-loop-ended
invariant-loop-ended l =
    MatchOption l.found (cell_at (with_past l.position (versions_of (take l.ended-index l.ended-items)) []) l.id ≡ None)
    (λ shown. cell_at (with_past l.position (versions_of (take l.ended-index l.ended-items)) []) l.id ≡ Some (cell_of_shown shown))
