use Rattle.machine.proofs.EveryRun.{who_is_behind_gets_a_delta}
use Rattle.machine.proofs.laws.who_is_behind_gets_a_delta.Goals as goal

pub returns : goal.returns
returns c = who_is_behind_gets_a_delta
