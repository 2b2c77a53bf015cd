use Rattle.std.proofs.Common.{take}
use Rattle.pmem.specs.Runs.{Runs, flushes}
use Rattle.pmem.proofs.runs.flush_all.Given as goal

abbrev pub invariant-loop-line : goal.invariant-loop-line
invariant-loop-line g l =
    Runs (g.P.Pmem.state l.fn.device) (g.P.Pmem.state l.device) (flushes (take l.line-index l.lines) (g.P.Pmem.state l.fn.device).words)
