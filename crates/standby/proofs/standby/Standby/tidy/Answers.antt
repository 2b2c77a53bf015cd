use Rattle.std.proofs.Common.{rules, Err, ap, ◌∙◌}
use Rattle.std.proofs.lemmas.Result.{err_from_is_err_and}
use Rattle.standby.proofs.IdleLemmas.{Tidies-then, Tidies-unfreed}
use Rattle.standby.proofs.standby.Standby.tidy.Goals as goal

pub returns-in_err-free_ended : goal.returns-in_err-free_ended
returns-in_err-free_ended g c =
    let exit = err_from_is_err_and c.from_residual.result c.from_residual.ensures.1 in
    rw (exit.1 ∙ ap Err exit.2)
    (Tidies-unfreed g.E.Durable.device g.E.Durable.contents g.E.Durable.is_faulted g.K.Keyspace.table c.args.self.now c.free_ended.new.self c.in_err-free_ended.field-0.0 c.requires
    (search (rules, c.in_err-free_ended.ensures)))

pub returns : goal.returns
returns g c =
    Tidies-then g.E.Durable.device g.E.Durable.contents g.E.Durable.is_faulted g.K.Keyspace.table c.args.self.now c.free_ended.new.self c.clear_gap.new.self c.in_ok-free_ended.field-0 c.clear_gap.result c.requires
    (search (rules, c.in_ok-free_ended.ensures)) c.clear_gap.ensures.tidies

pub clear_gap-requires-clause-durable : goal.clear_gap-requires-clause-durable
clear_gap-requires-clause-durable g c = c.in_ok-free_ended.ensures.durable (λ is. cc)
