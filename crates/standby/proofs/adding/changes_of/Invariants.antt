use Rattle.std.proofs.Common.{◌≡◌, ◌++◌}
use Rattle.std.specs.Vec.Iter.{into_iter_items}
use Rattle.standby.specs.Copies.{changes_told}
use Rattle.standby.proofs.adding.changes_of.Given as goal

abbrev pub invariant-loop-id : goal.invariant-loop-id
invariant-loop-id l = l.changes.items ++ changes_told (into_iter_items l.id-iterator) ≡ changes_told l.fn.puts.items
