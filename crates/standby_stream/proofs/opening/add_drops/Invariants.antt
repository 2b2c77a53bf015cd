use Rattle.std.proofs.Common.{◌≡◌, ◌++◌, map, drop}
use Rattle.kv_types.specs.declared.change.Change.TheVariants as kinds
use Rattle.standby_stream.proofs.opening.add_drops.Given as goal

abbrev pub invariant-loop-id : goal.invariant-loop-id
invariant-loop-id l = l.changes.items ++ map kinds.Drop (drop l.id-index l.ids) ≡ l.initial.changes.items ++ map kinds.Drop l.ids
