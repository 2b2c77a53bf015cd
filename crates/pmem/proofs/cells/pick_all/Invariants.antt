use Rattle.pmem.proofs.Picking.{Picked}
use Rattle.pmem.proofs.cells.pick_all.Given as goal

abbrev pub invariant-loop-word : goal.invariant-loop-word
invariant-loop-word l = Picked l.fn.newest.items l.newest.items l.pool.items l.picks l.word l.used
