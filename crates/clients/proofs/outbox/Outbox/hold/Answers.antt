use Rattle.clients.proofs.OutboxLemmas.{held-within}
use Rattle.clients.proofs.outbox.Outbox.hold.Goals as goal

pub invariant_of-self : goal.invariant_of-self
invariant_of-self c = record {
  within = held-within c.hold.result c.args.self.now.last c.later-self.result c.args.held.now.position c.args.self.now.gate c.hold.new.self _ c.later-self.ensures.one c.later-self.ensures.other c.args.self.now.within
      c.hold.ensures.waiting c.hold.ensures.replies c.hold.ensures.err;
}
