use Rattle.std.proofs.Common.{take}
use Rattle.pmem.specs.Runs.{Runs, flushes}
use Rattle.wbl_engine.specs.Stage.{parts_lines}
use Rattle.wbl_engine.proofs.staging.flush_parts.Given as goal

abbrev pub invariant-loop-part : goal.invariant-loop-part
invariant-loop-part g l =
    Runs (g.P.Pmem.state l.fn.device) (g.P.Pmem.state l.device) (flushes (parts_lines (take l.part-index l.parts)) (g.P.Pmem.state l.fn.device).words)
