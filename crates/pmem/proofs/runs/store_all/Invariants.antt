use Rattle.std.proofs.Common.{take}
use Rattle.pmem.specs.Runs.{Runs, stores}
use Rattle.pmem.proofs.runs.store_all.Given as goal

abbrev pub invariant-loop-word : goal.invariant-loop-word
invariant-loop-word g l =
    Runs (g.P.Pmem.state l.fn.device) (g.P.Pmem.state l.device) (stores (take l.word-index l.pairs) (g.P.Pmem.state l.fn.device).words)
