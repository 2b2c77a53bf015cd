use Rattle.std.proofs.Common.{◌≡◌, ◌+◌, length}
use Rattle.pmem.specs.Cell.{at, older_below, older_in}
use Rattle.pmem.proofs.Walks.{end_of}
use Rattle.pmem.proofs.Picking.{Walking}
use Rattle.pmem.proofs.cells.older_count.Given as goal

abbrev pub invariant-loop-place : goal.invariant-loop-place
invariant-loop-place l =
    record {
      walking : Walking l.pool.items l.word l.place;
      counted : l.count + length (older_below (at l.pool.items) l.word (end_of l.place)) ≡ length (older_in l.pool.items l.word);
    }

abbrev pub decreases-loop-place : goal.decreases-loop-place
decreases-loop-place l = end_of l.place
