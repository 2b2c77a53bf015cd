use Rattle.primary.proofs.KeptLemmas.{recollects-moved}
use Rattle.primary.proofs.front.Front.close_seat.Goals as goal

pub returns-clause-recollects : goal.returns-clause-recollects
returns-clause-recollects g c = recollects-moved c.args.self.now.sequencer c.close_seat.new.self _ _ c.close_seat.ensures.closed
