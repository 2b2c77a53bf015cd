use Rattle.links.proofs.Greeted.{some_at}
use Rattle.links.proofs.meeting.serve_greeted.Goals as goal

pub returns-clause-greeted : goal.returns-clause-greeted
returns-clause-greeted g c = (
  c.in-Ok.theirs,
  record {
    behind = g.I.Read.remaining c.greet.new.from;
    said = g.O.Write.contents c.greet.new.to;
    greets = c.in-Ok.ensures.greets;
    closed = c.serve_link-served.ensures.served;
    ended = c.serve_link-served.ensures.said;
  },
  some_at _ c.args.own.now c.in-Ok.theirs _ _ _ _ c.position-before.ensures c.position.ensures c.taken_over-number.ensures,
)
