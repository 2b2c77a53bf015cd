use Rattle.std.proofs.Common.{refl, ap, ◌∙◌}
use Rattle.redis_core.specs.Serving.{refusal_reply}
use Rattle.redis_core.proofs.AnswersLemmas.{request-acted, request-refused}
use Rattle.redis_core.proofs.sequencer.Sequencer.answer_request.Goals as goal

pub returns-in-Err : goal.returns-in-Err
returns-in-Err g c =
    let moves = c.in-Err.ensures.err in
    rw (c.refusal_reply.ensures ∙ ap refusal_reply c.in-Err.ensures.cause, ← c.self.view_is)
    (request-refused _ c.args.seat.now c.args.request _ record {
      table = moves.table;
      room = moves.room;
      position = refl;
      epoch = refl;
      before = refl;
      waiting = refl;
      ended = refl;
      newest = refl;
      sessions = moves.sessions;
      copy = moves.copy;
    })

pub returns-in-Ok : goal.returns-in-Ok
returns-in-Ok g c =
    let moves = c.in-Ok.ensures.ok in
    rw (← c.self.view_is)
    (request-acted _ c.args.seat.now c.args.request _ c.act.result _ _ c.in-Ok.ensures.admission record {
      table = moves.table;
      room = moves.room;
      position = refl;
      epoch = refl;
      before = refl;
      waiting = refl;
      ended = refl;
      newest = refl;
      sessions = moves.sessions;
      copy = moves.copy;
    } c.act.ensures.acts c.act.ensures.memory)
