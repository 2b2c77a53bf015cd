use Rattle.std.proofs.Common.{rules, refl, sym, inl, inr, add-zero, arith}
use Rattle.serving.proofs.TurnsLemmas.{connection-looks, connection-none, connection-rests, connection-served, serves-still, serves-then, waits-still}
use Rattle.serving.specs.Roomed.{none}
use Rattle.serving.proofs.NeedTurns.{adds-within, by-need-all, by-need-looked, by-need-one, by-need-tried, share-taken, unserved-stays}
use Rattle.serving.proofs.TurnsEnd.{served-count}
use Rattle.serving.proofs.turns.take_turns.Goals as goal

-- its share is taken

pub returns-then-has_its_share-clause-turns : goal.returns-then-has_its_share-clause-turns
returns-then-has_its_share-clause-turns g c = connection-looks c.args.front.now.sequencer c.loop.front.sequencer c.args.connection.now c.loop.connection c.look_ahead-asked.new.self c.loop.any c.loop.invariant.0 c.look_ahead-asked.ensures.looks

pub returns-then-has_its_share-clause-ends : goal.returns-then-has_its_share-clause-ends
returns-then-has_its_share-clause-ends g c =
    let taken = share-taken c.args.share c.args.front.now.sequencer.position c.loop.front.sequencer c.look_ahead-asked.new.self c.has_its_share.result (rw c.position-first.ensures at c.has_its_share.ensures) c.if-has_its_share.true in
    inr (inl (record { busy = refl; looked = c.loop.connection; turns = c.loop.invariant.0; looks = c.look_ahead-asked.ensures.looks; all = taken.0; more = taken.1 }))

pub returns-then-has_its_share-clause-needs : goal.returns-then-has_its_share-clause-needs
returns-then-has_its_share-clause-needs g c = by-need-looked c.args.is_working c.args.is_short.now c.args.front.now.sequencer c.loop.front.sequencer c.args.connection.now c.loop.connection c.look_ahead-asked.new.self c.args.filling.now c.loop.filling
    c.loop.invariant.5 c.look_ahead-asked.ensures.looks c.look_ahead-asked.ensures.queued

-- the group is too large for the next

pub returns-then-waits_for_group-clause-turns : goal.returns-then-waits_for_group-clause-turns
returns-then-waits_for_group-clause-turns g c = connection-looks c.args.front.now.sequencer c.loop.front.sequencer c.args.connection.now c.loop.connection c.look_ahead-asked.new.self c.loop.any c.loop.invariant.0 c.look_ahead-asked.ensures.looks

pub returns-then-waits_for_group-clause-ends : goal.returns-then-waits_for_group-clause-ends
returns-then-waits_for_group-clause-ends g c = inr (inr (inl (record {
  waits = refl;
  looked = c.loop.connection;
  turns = c.loop.invariant.0;
  looks = c.look_ahead-asked.ensures.looks;
  large = rw (c.need-need.ensures, c.look_ahead-asked.ensures.asked) at (c.waits_for_group.ensures.large c.if-waits_for_group.true);
})))

pub returns-then-waits_for_group-clause-needs : goal.returns-then-waits_for_group-clause-needs
returns-then-waits_for_group-clause-needs g c = by-need-looked c.args.is_working c.args.is_short.now c.args.front.now.sequencer c.loop.front.sequencer c.args.connection.now c.loop.connection c.look_ahead-asked.new.self c.args.filling.now c.loop.filling
    c.loop.invariant.5 c.look_ahead-asked.ensures.looks c.look_ahead-asked.ensures.queued

-- there may be no room for it

pub returns-then-waits_for_room-clause-turns : goal.returns-then-waits_for_room-clause-turns
returns-then-waits_for_room-clause-turns g c = connection-looks c.args.front.now.sequencer c.loop.front.sequencer c.args.connection.now c.loop.connection c.look_ahead-asked.new.self c.loop.any c.loop.invariant.0 c.look_ahead-asked.ensures.looks

pub returns-then-waits_for_room-clause-ends : goal.returns-then-waits_for_room-clause-ends
returns-then-waits_for_room-clause-ends g c = inr (inr (inr (inl (record {
  waits = refl;
  looked = c.loop.connection;
  turns = c.loop.invariant.0;
  looks = c.look_ahead-asked.ensures.looks;
  lacks = rw (c.need-need.ensures, c.look_ahead-asked.ensures.asked, c.loop.invariant.3) at (c.waits_for_room.ensures.lacks c.if-waits_for_room.true);
}))))

pub returns-then-waits_for_room-clause-needs : goal.returns-then-waits_for_room-clause-needs
returns-then-waits_for_room-clause-needs g c = by-need-looked c.args.is_working c.args.is_short.now c.args.front.now.sequencer c.loop.front.sequencer c.args.connection.now c.loop.connection c.look_ahead-asked.new.self c.args.filling.now c.loop.filling
    c.loop.invariant.5 c.look_ahead-asked.ensures.looks c.look_ahead-asked.ensures.queued

-- nothing was served

pub returns-then-not-is_served-clause-turns : goal.returns-then-not-is_served-clause-turns
returns-then-not-is_served-clause-turns g c =
    let looked = connection-looks c.args.front.now.sequencer c.loop.front.sequencer c.args.connection.now c.loop.connection c.look_ahead-asked.new.self c.loop.any c.loop.invariant.0 c.look_ahead-asked.ensures.looks in
    connection-rests c.args.front.now.sequencer c.loop.front.sequencer c.take_turn-turn.new.front.sequencer c.args.connection.now c.look_ahead-asked.new.self c.take_turn-turn.new.self c.loop.any looked
    c.take_turn-turn.result (c.is_served.ensures.unserved (search rules)) c.take_turn-turn.ensures.turn

pub returns-then-not-is_served-clause-serves : goal.returns-then-not-is_served-clause-serves
returns-then-not-is_served-clause-serves g c = serves-then _ c.loop.front.sequencer _ c.loop.invariant.1 c.take_turn-turn.ensures.serves

pub returns-then-not-is_served-clause-share : goal.returns-then-not-is_served-clause-share
returns-then-not-is_served-clause-share g c =
    unserved-stays c.args.front.now.sequencer.position c.args.share c.loop.front.sequencer c.take_turn-turn.new.front.sequencer c.look_ahead-asked.new.self c.take_turn-turn.new.self c.take_turn-turn.result
    (c.is_served.ensures.unserved (search rules)) c.take_turn-turn.ensures.turn c.loop.invariant.6

pub returns-then-not-is_served-clause-ends : goal.returns-then-not-is_served-clause-ends
returns-then-not-is_served-clause-ends g c = inr (inr (inr (inr (record {
  between = c.loop.front.sequencer;
  looked = c.loop.connection;
  at = c.look_ahead-asked.new.self;
  turns = c.loop.invariant.0;
  looks = c.look_ahead-asked.ensures.looks;
  last = c.take_turn-turn.result;
  turned = c.take_turn-turn.ensures.turn;
  unserved = c.is_served.ensures.unserved (search rules);
  is_read = c.is_read-is_read.result;
  came_is = c.ended_by.ensures.by;
}))))

pub returns-then-not-is_served-clause-needs : goal.returns-then-not-is_served-clause-needs
returns-then-not-is_served-clause-needs g c =
    by-need-tried c.args.is_working c.args.is_short.now c.args.front.now.sequencer c.loop.front.sequencer c.take_turn-turn.new.front.sequencer c.args.connection.now c.loop.connection
    c.look_ahead-asked.new.self c.take_turn-turn.new.self c.args.filling.now c.loop.filling c.take_turn-turn.result c.loop.invariant.5 c.look_ahead-asked.ensures.looks c.look_ahead-asked.ensures.queued
    (c.is_served.ensures.unserved (search rules)) c.take_turn-turn.ensures.turn c.take_turn-turn.ensures.queued

-- ---- turn by turn

pub loop-init : goal.loop-init
loop-init g c = (
  connection-none c.args.front.now.sequencer c.args.connection.now,
  serves-still c.args.front.now.sequencer,
  c.requires.short,
  refl,
  sym (add-zero _),
  none _ _ _,
  omega arith,
)

pub loop-preserved : goal.loop-preserved
loop-preserved g c =
    let looked = connection-looks c.args.front.now.sequencer c.loop.front.sequencer c.args.connection.now c.loop.connection c.look_ahead-asked.new.self c.loop.any c.loop.invariant.0 c.look_ahead-asked.ensures.looks in (
      connection-served c.args.front.now.sequencer c.loop.front.sequencer c.take_turn-turn.new.front.sequencer c.args.connection.now c.look_ahead-asked.new.self c.take_turn-turn.new.self c.loop.any looked
          c.take_turn-turn.result (c.is_served.ensures.served (search rules)) c.take_turn-turn.ensures.turn,
      serves-then _ c.loop.front.sequencer _ c.loop.invariant.1 c.take_turn-turn.ensures.serves,
      waits-still c.loop.is_short c.args.is_working c.loop.front.sequencer c.take_turn-turn.new.front.sequencer c.take_turn-turn.ensures.serves c.loop.invariant.2,
      c.loop.invariant.3,
      served-count c.args.connection.now c.loop.connection c.look_ahead-asked.new.self c.take_turn-turn.new.self c.loop.front.sequencer c.take_turn-turn.new.front.sequencer
          c.take_turn-turn.result c.loop.counter c.loop.invariant.4 c.look_ahead-asked.ensures.looks (c.is_served.ensures.served (search rules)) c.take_turn-turn.ensures.turn,
      by-need-one c.args.is_working c.args.is_short.now c.args.front.now.sequencer c.loop.front.sequencer c.take_turn-turn.new.front.sequencer c.args.connection.now c.loop.connection
          c.look_ahead-asked.new.self c.take_turn-turn.new.self c.args.filling.now c.loop.filling c.count_changed.new.filling c.note.new.self c.look_ahead-asked.result c.need-need.result c.take_turn-turn.result
          c.loop.invariant.5 c.look_ahead-asked.ensures.looks c.look_ahead-asked.ensures.queued c.look_ahead-asked.ensures.asked c.need-need.ensures
          (rw c.loop.invariant.3 at (c.waits_for_room.ensures.taken (search rules))) (c.waits_for_group.ensures.taken (search rules))
          (c.is_served.ensures.served (search rules)) c.take_turn-turn.ensures.turn c.take_turn-turn.ensures.queued
          c.note.ensures (rw c.position-before.ensures at c.count_changed.ensures),
      adds-within c.args.front.now.sequencer.position c.args.share c.loop.front.sequencer c.take_turn-turn.new.front.sequencer c.look_ahead-asked.new.self c.take_turn-turn.new.self c.take_turn-turn.result
          c.has_its_share.result c.loop.invariant.1.rises (rw c.position-first.ensures at c.has_its_share.ensures) (search rules) (c.is_served.ensures.served (search rules)) c.take_turn-turn.ensures.turn c.loop.invariant.6,
    )

-- it took most turns

pub returns-clause-ends : goal.returns-clause-ends
returns-clause-ends g c = inl (record { busy = refl; most = omega (arith, c.loop.invariant.4, c.loop-test.false, c.loop.auto.counter-end) })

pub returns-clause-needs : goal.returns-clause-needs
returns-clause-needs g c =
    by-need-all c.args.is_working c.args.is_short.now c.args.front.now.sequencer c.loop.front.sequencer c.args.connection.now c.loop.connection c.args.filling.now c.loop.filling c.loop.invariant.5
