use Rattle.std.proofs.Common.{take}
use Rattle.pmem.specs.Runs.{Runs, flushes, lines_from}
use Rattle.pmem.proofs.runs.flush_lines.Given as goal

abbrev pub invariant-loop-i : goal.invariant-loop-i
invariant-loop-i g l =
    Runs (g.P.Pmem.state l.fn.device) (g.P.Pmem.state l.device) (flushes (take l.i (lines_from l.first l.count)) (g.P.Pmem.state l.fn.device).words)
