use Rattle.machine.proofs.WorkedRun.{failed_over}
use Rattle.machine.proofs.laws.failover_is_a_run.Goals as goal

pub returns : goal.returns
returns c = failed_over
