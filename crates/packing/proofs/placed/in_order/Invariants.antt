use Rattle.std.proofs.Common.{◌≡◌, ◌++◌, drop}
use Rattle.packing.specs.Sliding.{numbered}
use Rattle.packing.proofs.placed.in_order.Given as goal

abbrev pub invariant-loop-index : goal.invariant-loop-index
invariant-loop-index l = l.placed.items ++ numbered l.index (drop l.index l.extents) ≡ numbered 0 l.extents
