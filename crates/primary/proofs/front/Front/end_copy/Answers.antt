use Rattle.primary.proofs.KeptLemmas.{recollects-copied}
use Rattle.primary.proofs.LeadsLemmas.{KeepsLead-copied}
use Rattle.primary.proofs.front.Front.end_copy.Goals as goal

pub returns-clause-keeps : goal.returns-clause-keeps
returns-clause-keeps g c =
    let copied = c.end_copy.ensures in
    KeepsLead-copied c.args.self.now.sequencer _ c.end_copy.new.self copied.ends copied.stands copied.expects

pub returns-clause-recollects : goal.returns-clause-recollects
returns-clause-recollects g c = recollects-copied c.args.self.now.sequencer _ c.end_copy.new.self c.end_copy.ensures.ends
