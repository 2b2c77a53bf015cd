use Rattle.std.proofs.Common.{◌≡◌, inl, inr, Err, Ok, true, sym, ap, subst, ◌∙◌}
use Rattle.std.proofs.lemmas.Bool.{true≢false}
use Rattle.std.proofs.lemmas.Result.{err_from_is_err_and}
use Rattle.placing.specs.Place.{HasRoomFor}
use Rattle.placing.proofs.BelowLemmas.{HasRoomBelow-fits, surely_below-surely}
use Rattle.standby.specs.Spare.{HasRoomAtOnce, spare_line}
use Rattle.standby.proofs.RoomLemmas.{Rearranges-done, Rearranges-passed, Rearranges-then}
use Rattle.standby.proofs.standby.Standby.make_room.Given.{Over}
use Rattle.standby.proofs.standby.Standby.make_room.Goals as goal
use Rattle.standby.proofs.standby.Standby.make_room.Goals.{After-move_for}

pub returns-in_err-make_room_below-clause-rearranges : goal.returns-in_err-make_room_below-clause-rearranges
returns-in_err-make_room_below-clause-rearranges g c =
    let exit = err_from_is_err_and c.from_residual.result c.from_residual.ensures.1 in
    rw (exit.1 ∙ ap Err exit.2) (Rearranges-passed g.E.Durable.device g.E.Durable.contents g.E.Durable.is_faulted g.K.Keyspace.table c.args.frame.now c.args.self.now c.make_room_below.new.self c.in_err-make_room_below.field-0.0 c.in_err-make_room_below.ensures.rearranges)

pub returns-then-branch-clause-rearranges : goal.returns-then-branch-clause-rearranges
returns-then-branch-clause-rearranges g c =
    Rearranges-done g.E.Durable.device g.E.Durable.contents g.E.Durable.is_faulted g.K.Keyspace.table c.args.frame.now c.args.self.now c.make_room_below.new.self c.in_ok-make_room_below.field-0 (tt {0}) c.in_ok-make_room_below.ensures.rearranges

pub returns-then-branch-clause-done : goal.returns-then-branch-clause-done
returns-then-branch-clause-done g c =
    let room = c.make_room_below.new.self.heap in
    let changes = c.args.frame.now.changes.items in
    let end = spare_line (g.E.Durable.contents c.args.self.now.engine).lines in
    elim (c.in_ok-make_room_below.ensures.fits (ap Ok c.if-branch.true)) [
      | inl has ↦ inl (HasRoomBelow-fits room changes end has)
      | inr surely ↦ inr (inr (surely_below-surely room changes end surely))
    ]

pub returns-then-fits_surely-clause-rearranges : goal.returns-then-fits_surely-clause-rearranges
returns-then-fits_surely-clause-rearranges g c =
    Rearranges-done g.E.Durable.device g.E.Durable.contents g.E.Durable.is_faulted g.K.Keyspace.table c.args.frame.now c.args.self.now c.make_room_below.new.self c.in_ok-make_room_below.field-0 (tt {0}) c.in_ok-make_room_below.ensures.rearranges

pub clear_gaps-requires-clause-durable : goal.clear_gaps-requires-clause-durable
clear_gaps-requires-clause-durable g c = c.in_ok-make_room_below.ensures.rearranges.durable (λ is. cc)

pub returns-in_err-clear_gaps-clause-rearranges : goal.returns-in_err-clear_gaps-clause-rearranges
returns-in_err-clear_gaps-clause-rearranges g c =
    let exit = err_from_is_err_and c.from_residual-in_err-clear_gaps.result c.from_residual-in_err-clear_gaps.ensures.1 in
    rw (exit.1 ∙ ap Err exit.2)
    (Rearranges-then g.E.Durable.device g.E.Durable.contents g.E.Durable.is_faulted g.K.Keyspace.table c.args.frame.now c.args.self.now c.make_room_below.new.self c.clear_gaps.new.self c.in_ok-make_room_below.field-0 (Err c.in_err-clear_gaps.field-0.0)
    c.in_ok-make_room_below.ensures.rearranges
    (Rearranges-passed g.E.Durable.device g.E.Durable.contents g.E.Durable.is_faulted g.K.Keyspace.table c.args.frame.now c.make_room_below.new.self c.clear_gaps.new.self c.in_err-clear_gaps.field-0.0 c.in_err-clear_gaps.ensures.rearranges))

pub returns-then-branch-2-clause-rearranges : goal.returns-then-branch-2-clause-rearranges
returns-then-branch-2-clause-rearranges g c =
    Rearranges-then g.E.Durable.device g.E.Durable.contents g.E.Durable.is_faulted g.K.Keyspace.table c.args.frame.now c.args.self.now c.make_room_below.new.self c.clear_gaps.new.self c.in_ok-make_room_below.field-0 (Ok (tt {0}))
    c.in_ok-make_room_below.ensures.rearranges
    (Rearranges-done g.E.Durable.device g.E.Durable.contents g.E.Durable.is_faulted g.K.Keyspace.table c.args.frame.now c.make_room_below.new.self c.clear_gaps.new.self c.in_ok-clear_gaps.field-0 (tt {0}) c.in_ok-clear_gaps.ensures.rearranges)

pub move_for-requires-clause-durable : goal.move_for-requires-clause-durable
move_for-requires-clause-durable g c = c.in_ok-clear_gaps.ensures.rearranges.durable (λ is. cc)

pub returns-in_err-move_for-clause-rearranges : goal.returns-in_err-move_for-clause-rearranges
returns-in_err-move_for-clause-rearranges g c =
    let exit = err_from_is_err_and c.from_residual-in_err-move_for.result c.from_residual-in_err-move_for.ensures.1 in
    rw (exit.1 ∙ ap Err exit.2)
    (Rearranges-then g.E.Durable.device g.E.Durable.contents g.E.Durable.is_faulted g.K.Keyspace.table c.args.frame.now c.args.self.now c.make_room_below.new.self c.move_for.new.self c.in_ok-make_room_below.field-0 (Err c.in_err-move_for.field-0.0)
    c.in_ok-make_room_below.ensures.rearranges
    (Rearranges-then g.E.Durable.device g.E.Durable.contents g.E.Durable.is_faulted g.K.Keyspace.table c.args.frame.now c.make_room_below.new.self c.clear_gaps.new.self c.move_for.new.self c.in_ok-clear_gaps.field-0 (Err c.in_err-move_for.field-0.0)
    c.in_ok-clear_gaps.ensures.rearranges
    (Rearranges-passed g.E.Durable.device g.E.Durable.contents g.E.Durable.is_faulted g.K.Keyspace.table c.args.frame.now c.clear_gaps.new.self c.move_for.new.self c.in_err-move_for.field-0.0 c.in_err-move_for.ensures.rearranges)))

pub returns-clause-rearranges : goal.returns-clause-rearranges
returns-clause-rearranges g c =
    Rearranges-then g.E.Durable.device g.E.Durable.contents g.E.Durable.is_faulted g.K.Keyspace.table c.args.frame.now c.args.self.now c.make_room_below.new.self c.move_for.new.self c.in_ok-make_room_below.field-0 (Ok (tt {0}))
    c.in_ok-make_room_below.ensures.rearranges
    (Rearranges-then g.E.Durable.device g.E.Durable.contents g.E.Durable.is_faulted g.K.Keyspace.table c.args.frame.now c.make_room_below.new.self c.clear_gaps.new.self c.move_for.new.self c.in_ok-clear_gaps.field-0 (Ok (tt {0}))
    c.in_ok-clear_gaps.ensures.rearranges
    (Rearranges-done g.E.Durable.device g.E.Durable.contents g.E.Durable.is_faulted g.K.Keyspace.table c.args.frame.now c.clear_gaps.new.self c.move_for.new.self c.in_ok-move_for.field-0 (tt {0}) c.in_ok-move_for.ensures.rearranges))

-- there was no room with nothing moved
no_room : (g : Over) (c : After-move_for g) → ¬ HasRoomAtOnce (g.E.Durable.contents c.args.self.now.engine).lines c.args.self.now.heap c.args.frame.now
no_room g c has =
    let same = c.in_ok-make_room_below.ensures.unmoved has in
    let fits = subst (λ node. HasRoomFor node.heap c.args.frame.now.changes.items) (sym same) has.fits in
    let told = (c.in_ok-clear_gaps.ensures.unmoved fits).1 in
    let is : c.in_ok-clear_gaps.field-0 ≡ true = cc in
    true≢false (sym is ∙ c.if-branch-2.false)

pub returns-in_err-move_for-clause-unmoved : goal.returns-in_err-move_for-clause-unmoved
returns-in_err-move_for-clause-unmoved g c = λ has. absurd (no_room g (goal.at.returns-in_err-move_for-clause-unmoved g c).After-move_for has)

pub returns-clause-unmoved : goal.returns-clause-unmoved
returns-clause-unmoved g c = λ has. absurd (no_room g (goal.at.returns-clause-unmoved g c).After-move_for has)
