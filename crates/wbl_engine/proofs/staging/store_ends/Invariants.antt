use Rattle.std.proofs.Common.{take}
use Rattle.pmem.specs.Runs.{Runs, stores}
use Rattle.wbl_engine.specs.Stage.{end_pairs}
use Rattle.wbl_engine.proofs.staging.store_ends.Given as goal

abbrev pub invariant-loop-entry : goal.invariant-loop-entry
invariant-loop-entry g l =
    Runs (g.P.Pmem.state l.fn.device) (g.P.Pmem.state l.device)
    (stores (end_pairs l.stamp (take l.entry-index l.ended)) (g.P.Pmem.state l.fn.device).words)
