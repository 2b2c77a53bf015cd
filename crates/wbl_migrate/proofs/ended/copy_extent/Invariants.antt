use Rattle.std.proofs.Common.{take}
use Rattle.pmem.specs.Crash.{image_of}
use Rattle.pmem.specs.Runs.{Runs, stores}
use Rattle.wbl_migrate.specs.Ended.{extent_copy}
use Rattle.wbl_migrate.proofs.ended.copy_extent.Given as goal

abbrev pub invariant-loop-i : goal.invariant-loop-i
invariant-loop-i g l =
    Runs (g.P.Pmem.state l.fn.device) (g.P.Pmem.state l.device)
    (stores (take l.i (extent_copy (image_of (g.P.Pmem.state l.fn.device).words) l.line l.to_line l.count)) (g.P.Pmem.state l.fn.device).words)
