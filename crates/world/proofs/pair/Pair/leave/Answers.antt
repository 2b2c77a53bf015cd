use Rattle.world.proofs.PairLemmas.{leave-does}
use Rattle.world.proofs.pair.Pair.leave.Goals as goal

pub returns-clause-does : goal.returns-clause-does
returns-clause-does g c = λ history.
    leave-does _ c.leave.new.self c.leave.new.front.sequencer c.args.c c.leave.result (c.leave.ensures.goes history.transcript) (c.leave.ensures.follow history.transcript) c.leave.ensures.sequencer c.leave.ensures.stands
