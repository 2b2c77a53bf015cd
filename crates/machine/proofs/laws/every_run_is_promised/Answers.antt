use Rattle.machine.proofs.EveryRun
use Rattle.machine.proofs.laws.every_run_is_promised.Goals as goal

pub returns : goal.returns
returns c = EveryRun.every_run_is_promised
