use Rattle.machine.proofs.RunLemmas.{sound-run}
use Rattle.machine.proofs.EveryRun.{in_order}
use Rattle.machine.proofs.laws.positions_are_in_order.Goals as goal

pub returns : goal.returns
returns c = λ allowed events done worlds run. in_order _ (sound-run allowed events done worlds run)
