use Rattle.std.proofs.Common.{take}
use Rattle.std.specs.List.{AllByRecursion}
use Rattle.pmem.specs.Runs.{Runs, stores}
use Rattle.wbl_engine.specs.Stage.{IsWritable, puts_pairs}
use Rattle.wbl_engine.proofs.copying.store_puts.Given as goal

abbrev pub invariant-loop-put : goal.invariant-loop-put
invariant-loop-put g l =
    Runs (g.P.Pmem.state l.fn.device) (g.P.Pmem.state l.device)
    (stores (puts_pairs l.stamp l.position (take l.put-index l.puts)) (g.P.Pmem.state l.fn.device).words)
    × AllByRecursion IsWritable (take l.put-index l.puts)
