use Rattle.links.proofs.Greeted.{TakesOver-some}
use Rattle.links.proofs.following.serve_next.Goals as goal

pub returns-in-Ok : goal.returns-in-Ok
returns-in-Ok g c =
    let greeted = c.in-Ok.ensures.greeted in
    record {
      stands = λ isnt. c.in-Ok.ensures.stands (λ is. isnt (c.left_by-left.ensures.stopped is));
      adopts = λ number is. TakesOver-some _ number c.args.own.now greeted.0 _ _ greeted.2 (c.left_by-left.ensures.adopts number is);
    }
