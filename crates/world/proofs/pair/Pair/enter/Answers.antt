use Rattle.world.proofs.PairLemmas.{enter-does}
use Rattle.world.proofs.pair.Pair.enter.Goals as goal

pub returns-clause-does : goal.returns-clause-does
returns-clause-does g c =
    enter-does _ _ c.enter.new.front.sequencer c.enter.result c.enter.ensures.goes c.enter.ensures.follow c.enter.ensures.sequencer c.enter.ensures.stands
    c.enter.ensures.told c.enter.ensures.cause c.enter.ensures.enabled c.enter.ensures.calls
