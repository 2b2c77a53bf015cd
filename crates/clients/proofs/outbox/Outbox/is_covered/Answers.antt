use Rattle.std.proofs.Common.{sym, ◌∙◌}
use Rattle.clients.proofs.OutboxLemmas.{covered-then}
use Rattle.clients.proofs.outbox.Outbox.is_covered.Goals as goal

pub returns : goal.returns
returns c = λ is. covered-then c.args.self.now.last c.args.seen.now c.args.self.now.gate.replies c.args.self.now.within.bounded (sym c.covers.ensures ∙ is)
