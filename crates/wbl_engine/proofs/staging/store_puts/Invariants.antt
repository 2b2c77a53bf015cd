use Rattle.std.proofs.Common.{take}
use Rattle.std.specs.List.{AllByRecursion}
use Rattle.pmem.specs.Runs.{Runs, stores}
use Rattle.wbl_engine.specs.Stage.{IsWritable, puts_of_changes, puts_pairs}
use Rattle.wbl_engine.proofs.staging.store_puts.Given as goal

abbrev pub invariant-loop-change : goal.invariant-loop-change
invariant-loop-change g l =
    Runs (g.P.Pmem.state l.fn.device) (g.P.Pmem.state l.device)
    (stores (puts_pairs l.stamp l.position (puts_of_changes (take l.change-index l.changes))) (g.P.Pmem.state l.fn.device).words)
    × AllByRecursion IsWritable (puts_of_changes (take l.change-index l.changes))
