use Rattle.std.proofs.Common.{drop}
use Rattle.placing.proofs.ClaimLemmas.{Claiming}
use Rattle.placing.proofs.rebuilding.claim_places.Given as goal

abbrev pub invariant-loop-no : goal.invariant-loop-no
invariant-loop-no l = Claiming l.fn.heap l.counted l.heap (drop l.no-index l.counted)
