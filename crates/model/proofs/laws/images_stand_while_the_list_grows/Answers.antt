use Rattle.model.proofs.StandingLemmas.{StandsAt-append}
use Rattle.model.proofs.laws.images_stand_while_the_list_grows.Goals as goal

pub returns : goal.returns
returns c = StandsAt-append
