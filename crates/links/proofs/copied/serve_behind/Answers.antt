use Rattle.links.proofs.copied.serve_behind.Goals as goal

pub returns-clause-stands : goal.returns-clause-stands
returns-clause-stands g c = λ isnt. c.serve_on-served.ensures.stands (λ is. isnt (c.left_by.ensures.stopped is))
