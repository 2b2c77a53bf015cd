use Rattle.node_steps.proofs.SeatActs.{left-act, seated-act}
use Rattle.node_steps.proofs.laws.seats_are_acts.Goals as goal

pub returns-clause-given : goal.returns-clause-given
returns-clause-given c = seated-act

pub returns-clause-over : goal.returns-clause-over
returns-clause-over c = left-act
