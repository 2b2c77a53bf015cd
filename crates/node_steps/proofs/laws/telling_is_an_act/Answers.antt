use Rattle.node_steps.proofs.FrontActs.{told-act}
use Rattle.node_steps.proofs.laws.telling_is_an_act.Goals as goal

pub returns : goal.returns
returns c = told-act
