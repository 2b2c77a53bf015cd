use Rattle.std.proofs.Common.{drop}
use Rattle.placing.proofs.GivingLemmas.{GivingEntries}
use Rattle.placing.proofs.giving.give_entries.Given as goal

abbrev pub invariant-loop-no : goal.invariant-loop-no
invariant-loop-no l = GivingEntries l.fn.heap l.entries l.heap (drop l.no-index l.entries)
