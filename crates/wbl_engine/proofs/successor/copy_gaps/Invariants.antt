use Rattle.std.proofs.Common.{◌≡◌, take}
use Rattle.wbl_engine.proofs.successor.copy_gaps.Given as goal

abbrev pub invariant-loop-gap : goal.invariant-loop-gap
invariant-loop-gap l = l.copy.items ≡ take l.gap-index l.gap-items
