use Rattle.std.proofs.Common.{refl, ◌∙◌, ap, subst, arith}
use Rattle.extent_heap.specs.Runs.{longest}
use Rattle.extent_heap.specs.Room.{Room, IsRoom}
use Rattle.extent_heap.proofs.HeapLemmas.{none_is_free}
use Rattle.extent_heap.proofs.heap.ExtentHeap.longest_run.Goals as goal

pub returns-clause-none_longer : goal.returns-clause-none_longer
returns-clause-none_longer c = λ first lines short.
    let count = c.longest.ensures ∙ ap (λ (r : Room). longest r.lines) c.self.view_is in
    none_is_free c.args.self.now (subst IsRoom c.self.view_is (record { lines = c.self.invariant.pool.ordered; entries = refl })) lines (omega (arith, count, short)) first
