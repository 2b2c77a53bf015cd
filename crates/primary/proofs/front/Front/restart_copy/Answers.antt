use Rattle.primary.proofs.KeptLemmas.{recollects-copied}
use Rattle.primary.proofs.LeadsLemmas.{KeepsLead-copied}
use Rattle.primary.proofs.front.Front.restart_copy.Goals as goal

pub returns-clause-keeps : goal.returns-clause-keeps
returns-clause-keeps g c =
    let copied = c.restart_copy.ensures in
    KeepsLead-copied c.args.self.now.sequencer _ c.restart_copy.new.self copied.restarts copied.stands copied.expects

pub returns-clause-recollects : goal.returns-clause-recollects
returns-clause-recollects g c = recollects-copied c.args.self.now.sequencer _ c.restart_copy.new.self c.restart_copy.ensures.restarts
