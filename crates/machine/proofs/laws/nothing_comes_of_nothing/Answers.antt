use Rattle.machine.proofs.EveryRun.{nothing_is_released_unacknowledged, only_what_was_made_is_delivered}
use Rattle.machine.proofs.laws.nothing_comes_of_nothing.Goals as goal

pub returns-clause-released : goal.returns-clause-released
returns-clause-released c = nothing_is_released_unacknowledged

pub returns-clause-delivered : goal.returns-clause-delivered
returns-clause-delivered c = only_what_was_made_is_delivered
