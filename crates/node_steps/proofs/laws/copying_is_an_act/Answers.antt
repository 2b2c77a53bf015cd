use Rattle.node_steps.proofs.CopyActs.{copied-act}
use Rattle.node_steps.proofs.laws.copying_is_an_act.Goals as goal

pub returns : goal.returns
returns c = copied-act
