use Rattle.std.proofs.Common.{drop}
use Rattle.placing.proofs.ClaimLemmas.{ClaimingEntries}
use Rattle.placing.proofs.rebuilding.claim_entries.Given as goal

abbrev pub invariant-loop-no : goal.invariant-loop-no
invariant-loop-no l = ClaimingEntries l.fn.heap l.entries l.heap (drop l.no-index l.entries)
