use Rattle.node_steps.proofs.HistoryLemmas.{goes-on}
use Rattle.node_steps.proofs.laws.acts_go_on.Goals as goal

pub returns : goal.returns
returns c = goes-on
