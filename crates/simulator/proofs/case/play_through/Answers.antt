use Rattle.world.proofs.StepLemmas.{goes-on}
use Rattle.simulator.proofs.case.play_through.Goals as goal

pub loop-number-preserved : goal.loop-number-preserved
loop-number-preserved g c = goes-on c.loop-number.invariant c.in-Ok.ensures
