use Rattle.machine.proofs.RunLemmas.{run-take, run-drop, run-push}
use Rattle.machine.proofs.laws.runs_are_made_of_steps.Goals as goal

pub returns-clause-prefix : goal.returns-clause-prefix
returns-clause-prefix c = λ n w events done worlds run. (run-take n w events done worlds run, run-drop n w events done worlds run)

pub returns-clause-longer : goal.returns-clause-longer
returns-clause-longer c = run-push
