use Rattle.machine.proofs.WorkedRun.{worked}
use Rattle.machine.proofs.laws.first_case_is_a_run.Goals as goal

pub returns : goal.returns
returns c = worked
