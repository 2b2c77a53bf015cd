use Rattle.std.proofs.Common.{rules, Err, ap, subst, ◌∙◌}
use Rattle.std.proofs.lemmas.Result.{err_from_is_err_and}
use Rattle.standby.specs.Following.{Follows}
use Rattle.standby.proofs.TakingLemmas.{TakesFrame-refused, TakesFrame-taken, TakesFrame-unfreed, TakesFrame-unroomed}
use Rattle.standby.proofs.standby.Standby.take_alone.Goals as goal

pub returns-in_err-free_ended : goal.returns-in_err-free_ended
returns-in_err-free_ended g c =
    let exit = err_from_is_err_and c.from_residual.result c.from_residual.ensures.1 in
    rw (exit.1 ∙ ap Err exit.2)
    (TakesFrame-unfreed g.E.Durable.device g.E.Durable.contents g.E.Durable.is_faulted g.K.Keyspace.table c.args.frame c.args.self.now c.requires.stands c.requires.due
    c.in_err-free_ended.field-0.0 c.free_ended.new.self (search (rules, c.in_err-free_ended.ensures)))

pub make_room-requires-clause-durable : goal.make_room-requires-clause-durable
make_room-requires-clause-durable g c = c.in_ok-free_ended.ensures.durable (λ is. cc)

pub returns-in_err-make_room : goal.returns-in_err-make_room
returns-in_err-make_room g c =
    let exit = err_from_is_err_and c.from_residual-in_err-make_room.result c.from_residual-in_err-make_room.ensures.1 in
    rw (exit.1 ∙ ap Err exit.2)
    (TakesFrame-unroomed g.E.Durable.device g.E.Durable.contents g.E.Durable.is_faulted g.K.Keyspace.table c.args.frame c.args.self.now c.requires.stands c.requires.due
    c.free_ended.new.self c.make_room.new.self c.in_ok-free_ended.field-0 (search (rules, c.in_ok-free_ended.ensures)) c.in_err-make_room.field-0.0
    (record { rearranges = c.in_err-make_room.ensures.rearranges; unmoved = c.in_err-make_room.ensures.unmoved; done = tt }))

pub commit_frame-requires-clause-follows : goal.commit_frame-requires-clause-follows
commit_frame-requires-clause-follows g c =
    let is = c.in_ok-make_room.ensures.rearranges in
    subst (Follows (g.E.Durable.contents c.make_room.new.self.engine) (g.K.Keyspace.table c.make_room.new.self.keyspace) c.make_room.new.self.heap) is.none (is.still (λ fault. cc))

pub commit_frame-requires-clause-durable : goal.commit_frame-requires-clause-durable
commit_frame-requires-clause-durable g c = c.in_ok-make_room.ensures.rearranges.durable (λ is. cc)

pub returns-in_err-commit_frame : goal.returns-in_err-commit_frame
returns-in_err-commit_frame g c =
    let exit = err_from_is_err_and c.from_residual-in_err-commit_frame.result c.from_residual-in_err-commit_frame.ensures.1 in
    rw (exit.1 ∙ ap Err exit.2)
    (TakesFrame-refused g.E.Durable.device g.E.Durable.contents g.E.Durable.is_faulted g.K.Keyspace.table c.args.frame c.args.self.now c.requires.stands c.requires.due
    c.free_ended.new.self c.make_room.new.self c.in_ok-free_ended.field-0 (search (rules, c.in_ok-free_ended.ensures)) c.commit_frame.new.self c.in_ok-make_room.field-0
    (record { rearranges = c.in_ok-make_room.ensures.rearranges; unmoved = c.in_ok-make_room.ensures.unmoved; done = c.in_ok-make_room.ensures.done })
    c.in_err-commit_frame.field-0.0 (search (rules, c.in_err-commit_frame.ensures)))

pub returns : goal.returns
returns g c =
    TakesFrame-taken g.E.Durable.device g.E.Durable.contents g.E.Durable.is_faulted g.K.Keyspace.table c.args.frame c.args.self.now c.requires.stands c.requires.due
    c.free_ended.new.self c.make_room.new.self c.in_ok-free_ended.field-0 (search (rules, c.in_ok-free_ended.ensures)) c.commit_frame.new.self c.in_ok-make_room.field-0
    (record { rearranges = c.in_ok-make_room.ensures.rearranges; unmoved = c.in_ok-make_room.ensures.unmoved; done = c.in_ok-make_room.ensures.done })
    c.in_ok-commit_frame.field-0 _ (search (rules, c.in_ok-commit_frame.ensures)) c.ack.ensures

-- the whole frame is durable
pub ack-requires : goal.ack-requires
ack-requires g c = c.in_ok-commit_frame.ensures.durable (λ is. cc)
