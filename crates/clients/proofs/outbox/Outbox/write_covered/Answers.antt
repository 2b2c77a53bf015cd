use Rattle.std.proofs.Common.{◌∙◌}
use Rattle.clients.proofs.OutboxLemmas.{released-within}
use Rattle.clients.proofs.outbox.Outbox.write_covered.Goals as goal

pub invariant_of-self : goal.invariant_of-self
invariant_of-self g c = record {
  within = released-within c.args.self.now.last c.args.seen.now c.args.self.now.gate c.write_pending.new.gate c.args.self.now.within
      (c.write_pending.ensures.waiting ∙ c.release.ensures.waiting) (c.write_pending.ensures.replies ∙ c.release.ensures.replies);
}
