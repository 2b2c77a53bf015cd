use Rattle.std.proofs.Common.{ℕ, refl, subst}
use Rattle.standby_stream.specs.Delta.{IsDelta}
use Rattle.standby_stream.proofs.LeadLemmas.{leads-behind}
use Rattle.standby_stream.proofs.outgoing.Outgoing.lead.Goals as goal

pub returns-clause-behind : goal.returns-clause-behind
returns-clause-behind c = λ _.
    let own = c.args.self.now in
    let first = subst (λ (epoch : ℕ). IsDelta epoch own.opening c.args.position c.in_ok-whole.whole) c.epoch.ensures c.in_ok-whole.ensures.ok in
    (c.lead_on.new.whole, refl, leads-behind own.link.epoch own.opening own.link.aside c.args.position c.in_ok-whole.whole c.lead_on.new.whole first c.in_ok-lead_on.ensures)
