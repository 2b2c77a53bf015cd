use Rattle.std.proofs.Common.{rules}
use Rattle.placing.proofs.ClaimLemmas.{entries-step}
use Rattle.placing.proofs.rebuilding.claim_entries.Goals as goal

pub loop-no-preserved : goal.loop-no-preserved
loop-no-preserved c =
    entries-step c.args.heap.now c.args.entries.now c.loop-no.heap c.loop-no.no-index _ c.loop-no.invariant c.loop-no-test.true (search rules) c.claim_entry.new.self c.claim_entry.ensures
