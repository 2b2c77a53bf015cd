use Rattle.std.proofs.Common.{◌*◌, ◌++◌, take}
use Rattle.pmem.specs.Runs.{Runs, stores, pairs_from}
use Rattle.heap_layout.specs.Put.{packed}
use Rattle.heap_layout.proofs.writing.write_extent.Given as goal

abbrev pub invariant-loop-i : goal.invariant-loop-i
invariant-loop-i g l =
    Runs (g.P.Pmem.state l.fn.device) (g.P.Pmem.state l.device)
    (stores (take l.i (pairs_from (8 * l.extent.first_line) (packed (l.key ++ l.field ++ l.value) 0 (8 * l.extent.lines)))) (g.P.Pmem.state l.fn.device).words)
