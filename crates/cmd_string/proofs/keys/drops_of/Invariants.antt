use Rattle.std.proofs.Common.{◌≡◌, map}
use Rattle.kv_types.specs.declared.change.Change.TheVariants.{DropKey}
use Rattle.cmd_string.proofs.keys.drops_of.Given as goal

abbrev pub invariant-loop-key : goal.invariant-loop-key
invariant-loop-key g l = l.drops.items ≡ map DropKey l.yielded
