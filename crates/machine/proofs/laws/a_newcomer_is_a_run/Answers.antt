use Rattle.machine.proofs.NewcomerRun.{newcomer_run}
use Rattle.machine.proofs.laws.a_newcomer_is_a_run.Goals as goal

pub returns : goal.returns
returns c = newcomer_run
