use Rattle.pmem.proofs.Compacting.{Unlinking}
use Rattle.pmem.proofs.cells.unlink.Given as goal

abbrev pub invariant-loop-candidate : goal.invariant-loop-candidate
invariant-loop-candidate l = Unlinking l.fn.heads.items l.heads.items l.pool.items l.candidate-index
