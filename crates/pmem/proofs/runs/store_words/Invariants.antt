use Rattle.std.proofs.Common.{take}
use Rattle.pmem.specs.Runs.{Runs, stores, pairs_from}
use Rattle.pmem.proofs.runs.store_words.Given as goal

abbrev pub invariant-loop-i : goal.invariant-loop-i
invariant-loop-i g l =
    Runs (g.P.Pmem.state l.fn.device) (g.P.Pmem.state l.device) (stores (take l.i (pairs_from l.first l.values)) (g.P.Pmem.state l.fn.device).words)
