use Rattle.primary.proofs.ClosedLemmas.{starts-so}
use Rattle.primary.proofs.primary.Primary.with_queue.Goals as goal

pub returns-clause-stands : goal.returns-clause-stands
returns-clause-stands g c = λ over consistent laid durable empty.
    rw (c.new.ensures.engine, c.new.ensures.aside, empty)
    (starts-so (g.E.Durable.device c.args.engine) (g.E.Durable.contents c.args.engine) c.args.sequencer over consistent laid durable)
