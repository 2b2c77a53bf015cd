use Rattle.node_steps.proofs.FrontActs.{closed-act}
use Rattle.node_steps.proofs.laws.closing_is_an_act.Goals as goal

pub returns : goal.returns
returns c = closed-act
