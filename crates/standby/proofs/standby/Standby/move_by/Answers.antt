use Rattle.std.proofs.Common.{◌≡◌, Bool, Err, false, ap, ◌∙◌}
use Rattle.std.proofs.lemmas.Result.{err_from_is_err_and}
use Rattle.kv_types.specs.declared.refusal.Refusal.TheVariants.{Memory}
use Rattle.standby.proofs.RoomLemmas.{IsReady, Rearranges-asked, Rearranges-done, Rearranges-passed, Rearranges-refused, Rearranges-still}
use Rattle.standby.proofs.standby.Standby.move_by.Given.{Over}
use Rattle.standby.proofs.standby.Standby.move_by.Goals as goal
use Rattle.standby.proofs.standby.Standby.move_by.Goals.{After-since}

ready : (g : Over) (c : After-since g) → IsReady g.E.Durable.device g.E.Durable.contents g.E.Durable.is_faulted g.K.Keyspace.table c.args.frame.now c.args.self.now
ready g c = record { follows = c.requires.follows; none = c.requires.none; sound = c.requires.sound; durable = c.requires.durable; counters = c.requires.counters }

pub returns-in_err-rows-clause-rearranges : goal.returns-in_err-rows-clause-rearranges
returns-in_err-rows-clause-rearranges g c =
    let exit = err_from_is_err_and c.from_residual.result c.from_residual.ensures.1 in
    rw (exit.1 ∙ ap Err (exit.2 ∙ c.in_err-rows.ensures.cause))
    (Rearranges-refused g.E.Durable.device g.E.Durable.contents g.E.Durable.is_faulted g.K.Keyspace.table {X = Bool} c.args.frame.now c.args.self.now (ready g (goal.at.returns-in_err-rows-clause-rearranges g c).After-since))

pub returns-in_err-extents-clause-rearranges : goal.returns-in_err-extents-clause-rearranges
returns-in_err-extents-clause-rearranges g c =
    let exit = err_from_is_err_and c.from_residual-in_err-extents.result c.from_residual-in_err-extents.ensures.1 in
    rw (exit.1 ∙ ap Err (exit.2 ∙ c.in_err-extents.ensures.cause))
    (Rearranges-refused g.E.Durable.device g.E.Durable.contents g.E.Durable.is_faulted g.K.Keyspace.table {X = Bool} c.args.frame.now c.args.self.now (ready g (goal.at.returns-in_err-extents-clause-rearranges g c).After-since))

pub returns-in_err-moves-clause-rearranges : goal.returns-in_err-moves-clause-rearranges
returns-in_err-moves-clause-rearranges g c =
    let exit = err_from_is_err_and c.from_residual-in_err-moves.result c.from_residual-in_err-moves.ensures.1 in
    let memory : exit.0 ≡ Memory = cc in
    rw (exit.1 ∙ ap Err memory)
    (Rearranges-refused g.E.Durable.device g.E.Durable.contents g.E.Durable.is_faulted g.K.Keyspace.table {X = Bool} c.args.frame.now c.args.self.now (ready g (goal.at.returns-in_err-moves-clause-rearranges g c).After-since))

pub returns-in_default-clause-rearranges : goal.returns-in_default-clause-rearranges
returns-in_default-clause-rearranges g c =
    Rearranges-still g.E.Durable.device g.E.Durable.contents g.E.Durable.is_faulted g.K.Keyspace.table c.args.frame.now c.args.self.now false (ready g (goal.at.returns-in_default-clause-rearranges g c).After-since)

pub returns-in_err-make_moves-clause-rearranges : goal.returns-in_err-make_moves-clause-rearranges
returns-in_err-make_moves-clause-rearranges g c =
    let exit = err_from_is_err_and c.from_residual-in_err-make_moves.result c.from_residual-in_err-make_moves.ensures.1 in
    rw (exit.1 ∙ ap Err exit.2)
    (Rearranges-passed g.E.Durable.device g.E.Durable.contents g.E.Durable.is_faulted g.K.Keyspace.table c.args.frame.now c.args.self.now c.make_moves.new.self c.in_err-make_moves.field-0.0 c.in_err-make_moves.ensures.rearranges)

pub returns-clause-rearranges : goal.returns-clause-rearranges
returns-clause-rearranges g c =
    Rearranges-asked g.E.Durable.device g.E.Durable.contents g.E.Durable.is_faulted g.K.Keyspace.table c.args.frame.now c.args.self.now c.make_moves.new.self c.fits_below.new.self c.fits_below.result
    (Rearranges-done g.E.Durable.device g.E.Durable.contents g.E.Durable.is_faulted g.K.Keyspace.table c.args.frame.now c.args.self.now c.make_moves.new.self c.in_ok-make_moves.field-0 tt c.in_ok-make_moves.ensures.rearranges)
    c.fits_below.ensures.same c.fits_below.ensures.cause
