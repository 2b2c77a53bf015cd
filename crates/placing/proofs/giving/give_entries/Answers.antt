use Rattle.std.proofs.Common.{rules}
use Rattle.placing.proofs.GivingLemmas.{giving-entries-step}
use Rattle.placing.proofs.giving.give_entries.Goals as goal

pub loop-no-preserved : goal.loop-no-preserved
loop-no-preserved c =
    giving-entries-step c.args.heap.now c.args.entries.now c.loop-no.heap c.loop-no.no-index _ c.loop-no.invariant c.loop-no-test.true (search rules) c.give_entry.new.self c.give_entry.ensures.after
