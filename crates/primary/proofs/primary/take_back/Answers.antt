use Rattle.std.proofs.Common.{[], subst}
use Rattle.group_commit.specs.declared.stage.Done.{Done}
use Rattle.primary.specs.Leading.{Leads}
use Rattle.primary.specs.Standing.{notices_of}
use Rattle.primary.proofs.FreedQueue.{Leads-accepted}
use Rattle.primary.proofs.primary.take_back.Goals as goal

pub returns-in-Freed-clause-leads : goal.returns-in-Freed-clause-leads
returns-in-Freed-clause-leads g c = λ contents items aside leads.
    let accepted = c.take_back.ensures in
    Leads-accepted contents items aside c.args.front.now.sequencer c.take_back.new.self.sequencer c.in-Freed.freed []
    (subst (λ (d : Done). Leads contents items aside c.args.front.now.sequencer (notices_of d)) c.in-Freed.is leads) accepted.back
    (λ of entries extents. accepted.stands of entries extents)

pub returns-in-Cleared-clause-leads : goal.returns-in-Cleared-clause-leads
returns-in-Cleared-clause-leads g c = λ contents items aside leads.
    let accepted = c.take_back-in-Cleared.ensures in
    Leads-accepted contents items aside c.args.front.now.sequencer c.take_back-in-Cleared.new.self.sequencer c.in-Cleared.freed []
    (subst (λ (d : Done). Leads contents items aside c.args.front.now.sequencer (notices_of d)) c.in-Cleared.is leads) accepted.back
    (λ of entries extents. accepted.stands of entries extents)
