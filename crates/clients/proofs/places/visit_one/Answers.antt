use Rattle.std.proofs.Common.{Bool, Option, None, sym, subst}
use Rattle.clients.specs.declared.driven.DrivenConnection.{DrivenConnection}
use Rattle.clients.specs.Places.{VisitsNoted, VisitsPlace}
use Rattle.clients.proofs.places.visit_one.Goals as goal

pub returns-in-Some-clause-closes : goal.returns-in-Some-clause-closes
returns-in-Some-clause-closes g c = λ is. subst (λ (place : Option DrivenConnection). VisitsPlace c.args.seen.now place None) (sym c.in-Some.is)
    (subst (λ (noted : Bool). VisitsNoted noted c.args.seen.now c.in-Some.connection None) (sym c.if-connection.true)
    (c.visit-next.new.self.requests, c.visit-next.new.self.replies, c.visit-next.ensures.visits, (c.visit-next.ensures.closes is).0, (c.visit-next.ensures.closes is).1))
