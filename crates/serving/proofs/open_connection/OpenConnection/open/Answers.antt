use Rattle.serving.proofs.TurnsLemmas.{moved-serves}
use Rattle.serving.proofs.open_connection.OpenConnection.open.Goals as goal

pub returns-in-Ok-clause-serves : goal.returns-in-Ok-clause-serves
returns-in-Ok-clause-serves g c =
    moved-serves c.args.front.now.sequencer c.open_seat.new.self.sequencer _ _ c.open_seat.ensures.keeps c.open_seat.ensures.recollects c.in-Ok.ensures.ok
