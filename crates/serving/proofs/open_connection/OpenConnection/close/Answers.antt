use Rattle.serving.proofs.TurnsLemmas.{moved-serves}
use Rattle.serving.proofs.open_connection.OpenConnection.close.Goals as goal

pub returns-clause-serves : goal.returns-clause-serves
returns-clause-serves g c =
    let closed = c.close_seat.ensures in
    moved-serves c.args.front.now.sequencer c.close_seat.new.self.sequencer _ _ closed.keeps closed.recollects closed.closed
