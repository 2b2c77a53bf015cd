use Rattle.placing.proofs.ClaimLemmas.{claiming-step}
use Rattle.placing.proofs.rebuilding.claim_places.Goals as goal

pub loop-no-preserved : goal.loop-no-preserved
loop-no-preserved c =
    claiming-step c.args.heap.now c.args.counted.now c.loop-no.heap c.loop-no.no-index c.loop-no-item.result c.loop-no.invariant c.loop-no-test.true c.loop-no-item.is
    c.claim.new.self c.claim_entry.new.self c.in_ok-claim.ensures.ok c.claim_entry.ensures
