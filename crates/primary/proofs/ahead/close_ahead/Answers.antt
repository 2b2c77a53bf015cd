use Rattle.primary.proofs.BehindLemmas.{goes-ahead, goes-at}
use Rattle.primary.proofs.ahead.close_ahead.Goals as goal

pub returns-clause-goes : goal.returns-clause-goes
returns-clause-goes g c =
    let closed = c.close_open.ensures in
    goes-ahead c.args.front.now.sequencer c.close_open.new.sequencer c.args.ahead.now c.close_open.new.work c.close_open.result closed.closed closed.none closed.refused

pub returns-clause-at : goal.returns-clause-at
returns-clause-at g c =
    let closed = c.close_open.ensures in
    goes-at c.args.front.now.sequencer c.close_open.new.sequencer c.args.ahead.now c.close_open.new.work c.close_open.result closed.closed closed.none closed.refused
