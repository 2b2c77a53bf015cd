use Rattle.pmem.proofs.Compacting.{Compacting}
use Rattle.pmem.proofs.cells.compact.Given as goal

abbrev pub invariant-loop-i : goal.invariant-loop-i
invariant-loop-i l = Compacting l.fn.pool.items l.pool.items l.fn.heads.items l.heads.items l.i l.kept
