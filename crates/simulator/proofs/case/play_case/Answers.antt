use Rattle.world.proofs.StepLemmas.{has-start}
use Rattle.simulator.proofs.case.play_case.Goals as goal

pub play_through-ended-requires : goal.play_through-ended-requires
play_through-ended-requires c = λ c'. record { world = has-start _ _ _ c'.in-Ok.ensures.stands }
