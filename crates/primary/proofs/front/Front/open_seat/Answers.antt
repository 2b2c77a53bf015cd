use Rattle.primary.proofs.KeptLemmas.{recollects-seated}
use Rattle.primary.proofs.front.Front.open_seat.Goals as goal

pub returns-clause-recollects : goal.returns-clause-recollects
returns-clause-recollects g c = recollects-seated c.open_seat.result c.args.self.now.sequencer c.open_seat.new.self _ _ c.open_seat.ensures.ok c.open_seat.ensures.err
