use Rattle.world.proofs.StepLemmas.{has-start}
use Rattle.simulator.proofs.play.play_over.Goals as goal

pub play_each-ended-requires : goal.play_each-ended-requires
play_each-ended-requires g c = record { world = has-start _ _ _ c.in-Ok.ensures.stands }
