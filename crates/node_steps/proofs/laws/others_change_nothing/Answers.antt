use Rattle.node_steps.proofs.HistoryLemmas.{others-stand}
use Rattle.node_steps.proofs.laws.others_change_nothing.Goals as goal

pub returns : goal.returns
returns c = others-stand
