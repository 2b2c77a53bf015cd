use Rattle.std.proofs.Common.{take}
use Rattle.pmem.specs.Runs.{Runs, flushes}
use Rattle.wbl_engine.specs.Stage.{puts_lines}
use Rattle.wbl_engine.proofs.copying.flush_puts.Given as goal

abbrev pub invariant-loop-put : goal.invariant-loop-put
invariant-loop-put g l =
    Runs (g.P.Pmem.state l.fn.device) (g.P.Pmem.state l.device) (flushes (puts_lines (take l.put-index l.puts)) (g.P.Pmem.state l.fn.device).words)
