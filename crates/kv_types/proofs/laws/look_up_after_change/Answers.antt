use Rattle.kv_types.proofs.LookUpLemmas.{looked_up-play}
use Rattle.kv_types.proofs.laws.look_up_after_change.Goals as goal

pub returns : goal.returns
returns c = looked_up-play
