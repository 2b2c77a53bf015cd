use Rattle.std.proofs.Common.{rules, Err, ap, sym, ◌∙◌}
use Rattle.std.proofs.lemmas.Result.{err_from_is_err_and}
use Rattle.standby.proofs.OutcomeLemmas.{stands_after}
use Rattle.standby.proofs.TakingLemmas.{Frees, TakesFrame-freed, TakesFrame-stopped}
use Rattle.standby.proofs.standby.Standby.on_frame.Given.{Over}
use Rattle.standby.proofs.standby.Standby.on_frame.Goals as goal
use Rattle.standby.proofs.standby.Standby.on_frame.Goals.{After-only_fault}

pub returns-in_err-ack : goal.returns-in_err-ack
returns-in_err-ack g c =
    let exit = err_from_is_err_and c.from_residual.result c.from_residual.ensures.1 in
    rw (exit.1 ∙ ap Err exit.2) c.in_err-ack.ensures

pub free_ended-requires : goal.free_ended-requires
free_ended-requires g c = stands_after _ _ _ _ c.args.frame c.args.self.now _ c.take_frame.new.self c.requires c.in_ok-ack.ensures (λ is. cc)

-- what the frame ended is freed
frees : (g : Over) (c : After-only_fault g)
    → Frees g.E.Durable.device g.E.Durable.contents g.E.Durable.is_faulted g.K.Keyspace.table c.take_frame.new.self c.free_ended.result c.free_ended.new.self
frees g c = search (rules, c.free_ended.ensures)

pub returns-in_err-only_fault : goal.returns-in_err-only_fault
returns-in_err-only_fault g c =
    let exit = err_from_is_err_and c.from_residual-in_err-only_fault.result c.from_residual-in_err-only_fault.ensures.1 in
    rw (exit.1 ∙ ap Err (exit.2 ∙ c.in_err-only_fault.ensures.cause))
    (TakesFrame-stopped _ _ _ _ c.args.frame c.args.self.now c.take_frame.new.self c.free_ended.new.self c.in_ok-ack.ack c.in_ok-ack.ensures
    (λ is. c.if-position.false (c.position.ensures ∙ is ∙ sym c.position-position.ensures)) c.free_ended.result
    (frees g (goal.at.returns-in_err-only_fault g c).After-only_fault) (c.in_err-only_fault.ensures.fault.0 (ap Err c.in_err-only_fault.ensures.cause)))

pub returns : goal.returns
returns g c =
    TakesFrame-freed _ _ _ _ c.args.frame c.args.self.now c.take_frame.new.self c.free_ended.new.self c.in_ok-ack.ack c.in_ok-ack.ensures
    (λ is. c.if-position.false (c.position.ensures ∙ is ∙ sym c.position-position.ensures)) c.free_ended.result (frees g (goal.at.returns g c).After-only_fault)
    (λ is. let told = c.in_ok-only_fault.ensures.fault.1 is in cc)
