use Rattle.std.proofs.Common.{rules, refl, ◌∙◌}
use Rattle.world.proofs.Words.{err_from_is_err_and}
use Rattle.world.proofs.PairLemmas.{turn-does}
use Rattle.world.proofs.pair.Pair.turn.Goals as goal

pub returns-in_err-make_room-clause-turns : goal.returns-in_err-make_room-clause-turns
returns-in_err-make_room-clause-turns g c =
    let exit = err_from_is_err_and c.from_residual.result c.from_residual.ensures.1 in
    rw exit.1 (record {
      roomy = c.make_room.new.self;
      is_roomier = search (rules, c.make_room.ensures);
      does = tt;
      refused = (exit.2 ∙ c.in_err-make_room.ensures.cause, c.in_err-make_room.ensures.none, refl);
    })

pub returns-clause-turns : goal.returns-clause-turns
returns-clause-turns g c = record {
  roomy = c.make_room.new.self;
  is_roomier = search (rules, c.make_room.ensures);
  does = turn-does _ _ c.turn.new.front.sequencer c.args.c c.turn.result c.turn.ensures.turns c.turn.ensures.seats c.turn.ensures.stands c.turn.ensures.calls;
  refused = tt;
}
