use Rattle.primary.proofs.primary.Primary.new.Goals as goal

pub returns-clause-stands : goal.returns-clause-stands
returns-clause-stands g c = λ over consistent laid durable. c.with_queue.ensures.stands over consistent laid durable c.in_ok-work.ensures
