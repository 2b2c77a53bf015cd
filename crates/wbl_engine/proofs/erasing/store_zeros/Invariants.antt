use Rattle.std.proofs.Common.{take}
use Rattle.pmem.specs.Runs.{Runs, stores}
use Rattle.wbl_engine.specs.Erasing.{zero_pairs}
use Rattle.wbl_engine.proofs.erasing.store_zeros.Given as goal

abbrev pub invariant-loop-entry : goal.invariant-loop-entry
invariant-loop-entry g l =
    Runs (g.P.Pmem.state l.fn.device) (g.P.Pmem.state l.device)
    (stores (zero_pairs l.k (take l.entry-index l.entries)) (g.P.Pmem.state l.fn.device).words)
