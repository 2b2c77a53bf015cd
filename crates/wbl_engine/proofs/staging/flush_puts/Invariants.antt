use Rattle.std.proofs.Common.{take}
use Rattle.pmem.specs.Runs.{Runs, flushes}
use Rattle.wbl_engine.specs.Stage.{puts_of_changes, puts_lines}
use Rattle.wbl_engine.proofs.staging.flush_puts.Given as goal

abbrev pub invariant-loop-change : goal.invariant-loop-change
invariant-loop-change g l =
    Runs (g.P.Pmem.state l.fn.device) (g.P.Pmem.state l.device)
    (flushes (puts_lines (puts_of_changes (take l.change-index l.changes))) (g.P.Pmem.state l.fn.device).words)
