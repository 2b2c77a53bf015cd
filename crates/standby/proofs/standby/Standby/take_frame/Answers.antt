use Rattle.std.proofs.Common.{◌≡◌, rules, inr, Err, refl, ap, ◌∙◌}
use Rattle.std.proofs.lemmas.Result.{err_from_is_err_and}
use Rattle.kv_types.specs.declared.refusal.Refusal.TheVariants.{Exhausted, Memory}
use Rattle.standby.specs.Taking.{IsDue}
use Rattle.standby.proofs.TakenBeside.{TakesFrame-same}
use Rattle.standby.proofs.TakingLemmas.{TakesFrame-cannot}
use Rattle.standby.proofs.standby.Standby.take_frame.Given.{Over}
use Rattle.standby.proofs.standby.Standby.take_frame.Goals as goal
use Rattle.standby.proofs.standby.Standby.take_frame.Goals.{After-has_room_beside}

pub returns-then-would_exhaust : goal.returns-then-would_exhaust
returns-then-would_exhaust g c = TakesFrame-cannot _ _ _ _ c.args.frame c.args.self.now Exhausted (inr (inr (refl, search rules, search rules)))

-- the frame is due
due : (g : Over) (c : After-has_room_beside g) → IsDue (g.E.Durable.contents c.args.self.now.engine).current c.args.frame
due g c = search rules

pub returns-in_err-has_room_beside : goal.returns-in_err-has_room_beside
returns-in_err-has_room_beside g c =
    let exit = err_from_is_err_and c.from_residual.result c.from_residual.ensures.1 in
    let prefix = (goal.at.returns-in_err-has_room_beside g c).After-has_room_beside in
    let refused = c.in_err-has_room_beside.ensures.cause in
    let memory : c.in_err-has_room_beside.field-0.0 ≡ Memory = cc in
    rw (exit.1 ∙ ap Err (exit.2 ∙ memory), c.has_room_beside.ensures.same)
    (TakesFrame-same g.E.Durable.device g.E.Durable.contents g.E.Durable.is_faulted g.K.Keyspace.table c.args.frame c.args.self.now c.requires (due g prefix) c.args.self.now refl refl refl refl)
