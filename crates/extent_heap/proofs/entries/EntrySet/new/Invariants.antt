use Rattle.extent_heap.proofs.EntriesLemmas.{AreFreeBelow}
use Rattle.extent_heap.proofs.entries.EntrySet.new.Given as goal

abbrev pub invariant-loop-entry : goal.invariant-loop-entry
invariant-loop-entry l = AreFreeBelow l.fn.end l.entry l.entries
