use Rattle.packing.specs.Taken.{IsMarked}
use Rattle.packing.proofs.taken.mark.Given as goal

abbrev pub invariant-loop-line : goal.invariant-loop-line
invariant-loop-line l = IsMarked l.fn.taken.items l.fn.extent.first_line l.line l.fn.is_taken l.taken.items
