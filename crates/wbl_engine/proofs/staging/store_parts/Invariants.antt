use Rattle.std.proofs.Common.{take}
use Rattle.std.specs.List.{AllByRecursion}
use Rattle.pmem.specs.Runs.{Runs, stores}
use Rattle.wbl_engine.specs.Stage.{IsWritable, puts_of_parts, parts_pairs}
use Rattle.wbl_engine.proofs.staging.store_parts.Given as goal

abbrev pub invariant-loop-i : goal.invariant-loop-i
invariant-loop-i g l =
    Runs (g.P.Pmem.state l.fn.device) (g.P.Pmem.state l.device) (stores (parts_pairs l.stamp (take l.i l.parts)) (g.P.Pmem.state l.fn.device).words)
    × AllByRecursion IsWritable (puts_of_parts (take l.i l.parts))
