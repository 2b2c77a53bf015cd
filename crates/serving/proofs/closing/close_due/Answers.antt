use Rattle.std.proofs.Common.{◌≡◌, Bool, ◌||◌, sym, ap, ◌∙◌, arith}
use Rattle.serving.specs.Closing.{is_tight}
use Rattle.serving.proofs.ClosingLemmas.{lacks-first, lacks-second, tight-short, tight-closed, tight-open, both-closed}
use Rattle.serving.proofs.closing.close_due.Goals as goal
use Rattle.serving.proofs.closing.close_due.Goals.{then-is_short, else-is_short+then-is_closed, else-is_short+else-is_closed}

pub returns-then-is_closed-2-clause-closes : goal.returns-then-is_closed-2-clause-closes
returns-then-is_closed-2-clause-closes g c =
    let short = c.args.is_short in
    let closed = c.in_ok-is_closed.is_closed in
    let tight = c.if-is_short.is_tight in
    let s = c.close_group.new.front.sequencer in
    let same : tight ≡ is_tight short closed s =
    elim c.if-is_short.branch [
      | then-is_short w ↦ tight-short short closed tight s w.if-is_short.true (w.is_tight-is ∙ w.if-is_short.true)
      | else-is_short+then-is_closed w ↦ tight-closed short closed tight w.has_ample_room.result s w.if-is_short.false w.if-is_closed.true w.has_ample_room.ensures w.is_tight-is
      | else-is_short+else-is_closed w ↦ tight-open short closed tight s w.if-is_short.false w.if-is_closed.false (grind (arith, w.is_tight-is, w.if-is_closed.false))
    ]
    in
    both-closed c.args.gathering.now c.close_group.new.gathering c.args.remote short closed c.in_ok-is_listed.is_listed tight c.in_ok-is_closed.is_closed c.args.front.now.sequencer s c.close_list.new.front.sequencer
    c.args.back.now.work c.close_group.new.back.work c.close_list.new.back.work c.in_ok-is_closed.ensures.closes c.in_ok-is_listed.ensures.closes same (c.if-is_closed-2.true ∙ sym (ap (λ (b : Bool). b || c.in_ok-is_listed.is_listed) c.if-is_closed-2.true))

pub returns-else-is_closed-2-clause-closes : goal.returns-else-is_closed-2-clause-closes
returns-else-is_closed-2-clause-closes g c =
    let short = c.args.is_short in
    let closed = c.in_ok-is_closed.is_closed in
    let tight = c.if-is_short.is_tight in
    let s = c.close_group.new.front.sequencer in
    let same : tight ≡ is_tight short closed s =
    elim c.if-is_short.branch [
      | then-is_short w ↦ tight-short short closed tight s w.if-is_short.true (w.is_tight-is ∙ w.if-is_short.true)
      | else-is_short+then-is_closed w ↦ tight-closed short closed tight w.has_ample_room.result s w.if-is_short.false w.if-is_closed.true w.has_ample_room.ensures w.is_tight-is
      | else-is_short+else-is_closed w ↦ tight-open short closed tight s w.if-is_short.false w.if-is_closed.false (grind (arith, w.is_tight-is, w.if-is_closed.false))
    ]
    in
    both-closed c.args.gathering.now c.close_group.new.gathering c.args.remote short closed c.in_ok-is_listed.is_listed tight c.in_ok-is_listed.is_listed c.args.front.now.sequencer s c.close_list.new.front.sequencer
    c.args.back.now.work c.close_group.new.back.work c.close_list.new.back.work c.in_ok-is_closed.ensures.closes c.in_ok-is_listed.ensures.closes same (sym (ap (λ (b : Bool). b || c.in_ok-is_listed.is_listed) c.if-is_closed-2.false))

-- ---- where memory was refused

pub returns-in_err-is_closed-clause-lacks : goal.returns-in_err-is_closed-clause-lacks
returns-in_err-is_closed-clause-lacks g c = lacks-first c.from_residual.result _ _ _ _ _ _ _ _ c.in_err-is_closed.ensures.lacks

pub returns-in_err-is_listed-clause-lacks : goal.returns-in_err-is_listed-clause-lacks
returns-in_err-is_listed-clause-lacks g c =
    let short = c.args.is_short in
    let closed = c.in_ok-is_closed.is_closed in
    let tight = c.if-is_short.is_tight in
    let s = c.close_group.new.front.sequencer in
    let same : tight ≡ is_tight short closed s =
    elim c.if-is_short.branch [
      | then-is_short w ↦ tight-short short closed tight s w.if-is_short.true (w.is_tight-is ∙ w.if-is_short.true)
      | else-is_short+then-is_closed w ↦ tight-closed short closed tight w.has_ample_room.result s w.if-is_short.false w.if-is_closed.true w.has_ample_room.ensures w.is_tight-is
      | else-is_short+else-is_closed w ↦ tight-open short closed tight s w.if-is_short.false w.if-is_closed.false (grind (arith, w.is_tight-is, w.if-is_closed.false))
    ]
    in
    lacks-second c.from_residual-in_err-is_listed.result c.args.gathering.now c.close_group.new.gathering c.args.remote short closed tight c.args.front.now.sequencer s c.close_list.new.front.sequencer
    c.args.back.now.work c.close_group.new.back.work c.close_list.new.back.work c.in_ok-is_closed.ensures.closes same c.in_err-is_listed.ensures.lacks

-- ---- the past

pub returns-in_err-is_closed-clause-past : goal.returns-in_err-is_closed-clause-past
returns-in_err-is_closed-clause-past g c = λ past kept. c.close_group.ensures.past past c.requires kept

pub returns-in_err-is_listed-clause-past : goal.returns-in_err-is_listed-clause-past
returns-in_err-is_listed-clause-past g c = λ past kept.
    let stood = c.close_group.ensures.stands c.requires in c.close_list.ensures.past past stood (c.close_group.ensures.past past c.requires kept)

pub returns-then-is_closed-2-clause-past : goal.returns-then-is_closed-2-clause-past
returns-then-is_closed-2-clause-past g c = λ past kept.
    let stood = c.close_group.ensures.stands c.requires in c.close_list.ensures.past past stood (c.close_group.ensures.past past c.requires kept)

pub returns-else-is_closed-2-clause-past : goal.returns-else-is_closed-2-clause-past
returns-else-is_closed-2-clause-past g c = λ past kept.
    let stood = c.close_group.ensures.stands c.requires in c.close_list.ensures.past past stood (c.close_group.ensures.past past c.requires kept)
