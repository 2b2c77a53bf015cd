use Rattle.std.proofs.Common.{rules}
use Rattle.serving.proofs.TurnsLemmas.{connection-again, serves-then}
use Rattle.serving.proofs.open_connection.OpenConnection.take_turn.Goals as goal

pub returns-clause-turn : goal.returns-clause-turn
returns-clause-turn g c =
    connection-again c.args.front.now.sequencer c.try_turn-turn.new.front.sequencer c.try_turn.new.front.sequencer c.args.self.now c.try_turn-turn.new.self c.try_turn.new.self
    c.try_turn-turn.result c.try_turn.result (search rules) c.try_turn-turn.ensures.turn c.try_turn.ensures.turn

pub returns-clause-serves : goal.returns-clause-serves
returns-clause-serves g c = serves-then _ c.try_turn-turn.new.front.sequencer _ c.try_turn-turn.ensures.serves c.try_turn.ensures.serves
