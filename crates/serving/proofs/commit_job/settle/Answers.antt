use Rattle.serving.proofs.PastLemmas.{told-at}
use Rattle.serving.proofs.commit_job.settle.Goals as goal

pub returns-in-Ok-clause-stands : goal.returns-in-Ok-clause-stands
returns-in-Ok-clause-stands g c =
    let stood = rw c.in-Ok.is at c.requires.stands in
    record { leads = c.take_back.ensures.leads _ _ _ stood.leads; consistent = stood.consistent; laid = stood.laid; durable = stood.durable }

pub returns-in-Ok-clause-at : goal.returns-in-Ok-clause-at
returns-in-Ok-clause-at g c = told-at _ c.args.front.now.sequencer c.take_back.new.front.sequencer c.take_back.ensures.taken

pub returns-in-Ok-clause-past : goal.returns-in-Ok-clause-past
returns-in-Ok-clause-past g c = λ past kept. c.take_back.ensures.keeps _ past _ _ _ kept
