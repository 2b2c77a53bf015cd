use Rattle.links.specs.Copying.{wire}
use Rattle.links.proofs.copied.copy_greeted.Goals as goal

pub returns-clause-greeted : goal.returns-clause-greeted
returns-clause-greeted g c = (
  c.in-Ok.theirs,
  record {
    behind = wire (g.I.Read.remaining c.greet.new.from) (g.O.Write.contents c.greet.new.to);
    greets = c.in-Ok.ensures.greets;
    brings = c.serve_copy-came.ensures.brings;
    ends = c.serve_copy-came.ensures.ends;
  },
  c.adopts-number.ensures,
)
