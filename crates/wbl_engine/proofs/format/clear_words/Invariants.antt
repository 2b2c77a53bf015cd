use Rattle.std.proofs.Common.{take}
use Rattle.std.specs.Prelude.{replicate}
use Rattle.pmem.specs.Runs.{Runs, stores, pairs_from}
use Rattle.wbl_engine.proofs.format.clear_words.Given as goal

abbrev pub invariant-loop-i : goal.invariant-loop-i
invariant-loop-i g l =
    Runs (g.P.Pmem.state l.fn.device) (g.P.Pmem.state l.device)
    (stores (take l.i (pairs_from l.first (replicate l.count 0))) (g.P.Pmem.state l.fn.device).words)
