use Rattle.std.proofs.Common.{refl}
use Rattle.serving.proofs.TurnsLemmas.{turn-serves}
use Rattle.serving.proofs.open_connection.OpenConnection.try_turn.Goals as goal

pub returns-clause-turn : goal.returns-clause-turn
returns-clause-turn g c =
    let turned = c.turn.ensures in (
      refl,
      record {
        served = turned.served;
        idle = turned.idle;
        blocked = turned.blocked;
        group_full = turned.group_full;
        ended = turned.ended;
        unserved = turned.unserved;
        served_only = turned.open;
        otherwise = turned.otherwise;
        same = turned.same;
      },
    )

pub returns-clause-serves : goal.returns-clause-serves
returns-clause-serves g c =
    let connection = c.args.self.now.arrival in
    turn-serves connection.seat c.args.front.now.sequencer c.turn.new.self.sequencer connection.requests.items c.turn.new.inlet connection.replies.replies c.turn.new.outlet c.turn.result
    c.turn.ensures.keeps c.turn.ensures.recollects (returns-clause-turn g c).1
