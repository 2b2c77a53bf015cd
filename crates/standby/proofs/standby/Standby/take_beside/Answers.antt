use Rattle.std.proofs.Common.{rules, Err, ap, ◌∙◌}
use Rattle.std.proofs.lemmas.Result.{err_from_is_err_and}
use Rattle.standby.proofs.TakenBeside.{TakesFrame-beside, TakesFrame-not_beside}
use Rattle.standby.proofs.standby.Standby.take_beside.Goals as goal

pub returns-in_err-commit_beside : goal.returns-in_err-commit_beside
returns-in_err-commit_beside g c =
    let exit = err_from_is_err_and c.from_residual.result c.from_residual.ensures.1 in
    rw (exit.1 ∙ ap Err exit.2)
    (TakesFrame-not_beside g.E.Durable.device g.E.Durable.contents g.E.Durable.is_faulted g.K.Keyspace.table c.args.frame c.args.self.now c.requires.stands c.requires.due
    c.in_err-commit_beside.field-0.0 c.commit_beside.new.self (search (rules, c.in_err-commit_beside.ensures)))

pub returns : goal.returns
returns g c =
    TakesFrame-beside g.E.Durable.device g.E.Durable.contents g.E.Durable.is_faulted g.K.Keyspace.table c.args.frame c.args.self.now c.requires.stands c.requires.due
    c.in_ok-commit_beside.field-0 _ c.commit_beside.new.self (search (rules, c.in_ok-commit_beside.ensures)) c.ack.ensures
