use Rattle.node_steps.proofs.FrontActs.{turned-act}
use Rattle.node_steps.proofs.laws.answering_is_an_act.Goals as goal

pub returns : goal.returns
returns c = turned-act
