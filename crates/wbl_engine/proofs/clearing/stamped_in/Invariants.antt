use Rattle.std.proofs.Common.{◌≡◌}
use Rattle.pmem.specs.Crash.{image_of}
use Rattle.wbl_engine.specs.Erasing.{stamped_below}
use Rattle.wbl_engine.proofs.clearing.stamped_in.Given as goal

abbrev pub invariant-loop-i : goal.invariant-loop-i
invariant-loop-i g l =
    (l.begins.items ≡ stamped_below l.gap (image_of (g.P.Pmem.state l.device).words) 0 l.i)
    × (l.ends.items ≡ stamped_below l.gap (image_of (g.P.Pmem.state l.device).words) 1 l.i)
