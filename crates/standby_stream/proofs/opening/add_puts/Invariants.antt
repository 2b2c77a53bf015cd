use Rattle.std.proofs.Common.{◌≡◌, ◌++◌, map, drop, nat_lt}
use Rattle.std.specs.Prelude.{filter}
use Rattle.standby_stream.specs.Delta.{put_of_row}
use Rattle.standby_stream.proofs.opening.add_puts.Given as goal

abbrev pub invariant-loop-row : goal.invariant-loop-row
invariant-loop-row l =
    l.changes.items ++ map put_of_row (filter (λ row. nat_lt l.from row.position) (drop l.row-index l.rows))
    ≡ l.initial.changes.items ++ map put_of_row (filter (λ row. nat_lt l.from row.position) l.rows)
