use Rattle.std.proofs.Common.{◌≡◌}
use Rattle.pmem.specs.Crash.{image_of}
use Rattle.wbl_engine.specs.Reopening.{left_below}
use Rattle.wbl_engine.proofs.reopening.list_left.Given as goal

abbrev pub invariant-loop-i : goal.invariant-loop-i
invariant-loop-i g l = l.left.items ≡ left_below l.current (image_of (g.P.Pmem.state l.device).words) l.i
