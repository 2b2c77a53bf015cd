use Rattle.std.proofs.Common.{Option, length}
use Rattle.kv_types.specs.declared.place.Extent.{Extent}
use Rattle.extent_heap.specs.OneRun.{FindsRun}
use Rattle.extent_heap.proofs.tree.Tree.run_at.Given as goal

abbrev pub invariant-loop-tree : goal.invariant-loop-tree
invariant-loop-tree l = (found : Option Extent) → FindsRun l.tree l.line found → FindsRun l.self l.line found

abbrev pub decreases-loop-tree : goal.decreases-loop-tree
decreases-loop-tree l = length l.tree
