use Rattle.machine.proofs.RunLemmas.{sound-run}
use Rattle.machine.proofs.EveryRun.{few-connections, stays-run}
use Rattle.machine.proofs.laws.connections_stay_over.Goals as goal

pub returns-clause-stays : goal.returns-clause-stays
returns-clause-stays c = stays-run

pub returns-clause-nothing : goal.returns-clause-nothing
returns-clause-nothing c = λ allowed events done worlds run d shut. ((sound-run allowed events done worlds run).over d shut).nothing

pub returns-clause-seats : goal.returns-clause-seats
returns-clause-seats c = λ allowed events done worlds run. (sound-run allowed events done worlds run).connections.seats

pub returns-clause-few : goal.returns-clause-few
returns-clause-few c = few-connections
