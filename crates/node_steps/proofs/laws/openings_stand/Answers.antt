use Rattle.node_steps.proofs.OpeningLemmas.{openings-stand}
use Rattle.node_steps.proofs.laws.openings_stand.Goals as goal

pub returns : goal.returns
returns c = openings-stand
