use Rattle.std.proofs.Common.{◌≡◌, Bool, List, Err, Ok, true, false, inr, sym, ap, subst, ◌∙◌}
use Rattle.std.proofs.lemmas.Result.{err_from_is_err_and}
use Rattle.kv_types.specs.declared.refusal.Refusal.TheVariants.{Memory}
use Rattle.kv_types.specs.declared.change.Change.{Change}
use Rattle.placing.specs.Below.{fits_surely_below}
use Rattle.wbl_engine.specs.Contents.{IsDurable}
use Rattle.standby.specs.Spare.{spare_line}
use Rattle.standby.specs.Taking.{Rearranges}
use Rattle.standby.proofs.RoomLemmas.{IsReady, Rearranges-refused, Rearranges-still, Rearranges-then}
use Rattle.standby.proofs.standby.Standby.make_room_below.Given.{Over}
use Rattle.standby.proofs.standby.Standby.make_room_below.Goals as goal
use Rattle.standby.proofs.standby.Standby.make_room_below.Goals.{After-lines}

ready : (g : Over) (c : After-lines g) → IsReady g.E.Durable.device g.E.Durable.contents g.E.Durable.is_faulted g.K.Keyspace.table c.args.frame.now c.args.self.now
ready g c = record { follows = c.requires.follows; none = c.requires.none; sound = c.requires.sound; durable = c.requires.durable; counters = c.requires.counters }

pub returns-then-not-has_spare-clause-rearranges : goal.returns-then-not-has_spare-clause-rearranges
returns-then-not-has_spare-clause-rearranges g c =
    Rearranges-still g.E.Durable.device g.E.Durable.contents g.E.Durable.is_faulted g.K.Keyspace.table c.args.frame.now c.args.self.now false (ready g (goal.at.returns-then-not-has_spare-clause-rearranges g c).After-lines)

pub returns-then-fits_surely_below-clause-rearranges : goal.returns-then-fits_surely_below-clause-rearranges
returns-then-fits_surely_below-clause-rearranges g c =
    Rearranges-still g.E.Durable.device g.E.Durable.contents g.E.Durable.is_faulted g.K.Keyspace.table c.args.frame.now c.args.self.now true (ready g (goal.at.returns-then-fits_surely_below-clause-rearranges g c).After-lines)

pub returns-then-fits_surely_below-clause-fits : goal.returns-then-fits_surely_below-clause-fits
returns-then-fits_surely_below-clause-fits g c = λ _.
    let end : c.spare_line-end.result ≡ spare_line (g.E.Durable.contents c.args.self.now.engine).lines = c.spare_line-end.ensures ∙ ap spare_line c.lines.ensures in
    let told : fits_surely_below c.args.self.now.heap c.args.frame.now.changes.items c.spare_line-end.result ≡ true =
    ap (λ (changes : List Change). fits_surely_below c.args.self.now.heap changes c.spare_line-end.result) (sym c.deref.ensures.value) ∙ sym c.fits_surely_below.ensures
    ∙ c.if-fits_surely_below.true in
    inr (subst (λ line. fits_surely_below c.args.self.now.heap c.args.frame.now.changes.items line ≡ true) end told)

pub returns-in_err-fits_below-clause-rearranges : goal.returns-in_err-fits_below-clause-rearranges
returns-in_err-fits_below-clause-rearranges g c =
    let exit = err_from_is_err_and c.from_residual.result c.from_residual.ensures.1 in
    let refused = c.in_err-fits_below.ensures.cause in
    let memory : c.in_err-fits_below.field-0.0 ≡ Memory = cc in
    rw (exit.1 ∙ ap Err (exit.2 ∙ memory), c.fits_below.ensures.same)
    (Rearranges-refused g.E.Durable.device g.E.Durable.contents g.E.Durable.is_faulted g.K.Keyspace.table {X = Bool} c.args.frame.now c.args.self.now (ready g (goal.at.returns-in_err-fits_below-clause-rearranges g c).After-lines))

pub returns-then-branch-clause-rearranges : goal.returns-then-branch-clause-rearranges
returns-then-branch-clause-rearranges g c =
    rw c.fits_below.ensures.same (Rearranges-still g.E.Durable.device g.E.Durable.contents g.E.Durable.is_faulted g.K.Keyspace.table c.args.frame.now c.args.self.now true (ready g (goal.at.returns-then-branch-clause-rearranges g c).After-lines))

pub clear_gaps-requires-clause-durable : goal.clear_gaps-requires-clause-durable
clear_gaps-requires-clause-durable g c = subst (λ node. IsDurable (g.E.Durable.device node.engine) (g.E.Durable.contents node.engine)) (sym c.fits_below.ensures.same) c.requires.durable

pub move_for-requires-clause-durable : goal.move_for-requires-clause-durable
move_for-requires-clause-durable g c = c.in_ok-clear_gaps.ensures.rearranges.durable (λ is. cc)

pub returns-clause-rearranges : goal.returns-clause-rearranges
returns-clause-rearranges g c =
    Rearranges-then g.E.Durable.device g.E.Durable.contents g.E.Durable.is_faulted g.K.Keyspace.table c.args.frame.now c.args.self.now c.clear_gaps.new.self c.move_for.new.self c.in_ok-clear_gaps.field-0 c.move_for.result
    (subst (λ node. Rearranges g.E.Durable.device g.E.Durable.contents g.E.Durable.is_faulted g.K.Keyspace.table {X = Bool} c.args.frame.now node (Ok c.in_ok-clear_gaps.field-0) c.clear_gaps.new.self) c.fits_below.ensures.same
    c.in_ok-clear_gaps.ensures.rearranges) c.move_for.ensures.rearranges
