use Rattle.std.proofs.Common.{◌≡◌, ◌++◌, map, drop}
use Rattle.model.specs.Group.{change_of}
use Rattle.standby_stream.proofs.frame_of.add_changes.Given as goal

abbrev pub invariant-loop-change : goal.invariant-loop-change
invariant-loop-change l = l.changes.items ++ map change_of (drop l.change-index l.placed) ≡ l.initial.changes.items ++ map change_of l.placed
