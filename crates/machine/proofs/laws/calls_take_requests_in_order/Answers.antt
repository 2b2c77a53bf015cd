use Rattle.machine.proofs.RunLemmas.{sound-run}
use Rattle.machine.proofs.EveryRun.{serves-run}
use Rattle.machine.proofs.laws.calls_take_requests_in_order.Goals as goal

pub returns-clause-legal : goal.returns-clause-legal
returns-clause-legal c = λ allowed events done worlds run. (sound-run allowed events done worlds run).legal

pub returns-clause-serves : goal.returns-clause-serves
returns-clause-serves c = serves-run

pub returns-clause-waiting : goal.returns-clause-waiting
returns-clause-waiting c = λ allowed events done worlds run d is_one. ((sound-run allowed events done worlds run).inbound d is_one).order
