use Rattle.std.proofs.Common.{◌≡◌}
use Rattle.pmem.proofs.Walks.{end_of, Flushing}
use Rattle.pmem.proofs.cells.Cells.flush.Given as goal

abbrev pub invariant-loop-place : goal.invariant-loop-place
invariant-loop-place l =
    record {
      newest : l.self.newest ≡ l.fn.self.newest;
      heads : l.self.heads ≡ l.fn.self.heads;
      flushing : Flushing l.fn.self.pool.items l.self.pool.items l.line l.place;
    }

abbrev pub decreases-loop-place : goal.decreases-loop-place
decreases-loop-place l = end_of l.place
