use Rattle.std.proofs.Common.{false, Err, inl, refl, ap, subst, ◌∙◌}
use Rattle.std.proofs.lemmas.Result.{err_from_is_err_and}
use Rattle.kv_types.specs.declared.refusal.Refusal.TheVariants.{Exhausted}
use Rattle.model.specs.declared.record.Record.{Record}
use Rattle.wbl_engine.specs.Copying.{ExhaustsCopy}
use Rattle.standby.proofs.CopyRests.{Rests-stays, Stays-same}
use Rattle.standby.proofs.EndOutcomes.{Ends-broken, Ends-cannot, Ends-done, at_half}
use Rattle.standby.proofs.StepLemmas.{denied, end_exhausted}
use Rattle.standby.proofs.newcomer.Newcomer.end_whole.Goals as goal

pub returns-then-exhausts_copy : goal.returns-then-exhausts_copy
returns-then-exhausts_copy g c =
    Ends-cannot g.E.Durable.device g.E.Durable.contents g.E.Durable.is_faulted g.E.Durable.staged g.K.Keyspace.table c.args.end c.args.self.now Exhausted
    (end_exhausted (g.E.Durable.contents c.args.self.now.engine).current c.args.self.now.half c.args.end c.requires.own (inl c.requires.all)
    (subst (λ (r : Record). ExhaustsCopy r c.args.end.position) c.record.ensures (c.if-exhausts_copy.ensures.0 refl)))

pub complete-requires-clause-awaits : goal.complete-requires-clause-awaits
complete-requires-clause-awaits g c = c.requires.awaits

pub complete-requires-clause-at : goal.complete-requires-clause-at
complete-requires-clause-at g c = at_half c.args.self.now.half c.args.end.position c.args.end.parts c.requires.all

pub complete-requires-clause-counters : goal.complete-requires-clause-counters
complete-requires-clause-counters g c =
    subst (λ (r : Record). ¬ ExhaustsCopy r c.args.end.position) c.record.ensures (denied false c.if-exhausts_copy.ensures refl)

pub returns-in_err-complete : goal.returns-in_err-complete
returns-in_err-complete g c =
    let exit = err_from_is_err_and c.from_residual.result c.from_residual.ensures.1 in
    let rests =
    Rests-stays g.E.Durable.device g.E.Durable.contents g.E.Durable.is_faulted g.E.Durable.staged g.K.Keyspace.table c.args.self.now c.args.self.now c.requires.awaits
    (Stays-same g.E.Durable.device g.E.Durable.contents g.E.Durable.is_faulted g.E.Durable.staged g.K.Keyspace.table c.args.self.now c.args.self.now refl) in
    let told = c.in_err-complete.ensures in
    let room = subst (λ (r : Record). ¬ ExhaustsCopy r c.args.end.position) c.record.ensures (denied false c.if-exhausts_copy.ensures refl) in
    rw (exit.1 ∙ ap Err exit.2)
    (Ends-broken g.E.Durable.device g.E.Durable.contents g.E.Durable.is_faulted g.E.Durable.staged g.K.Keyspace.table c.args.end c.args.self.now c.args.self.now c.requires.own room c.requires.awaits
    rests c.complete.new.self c.in_err-complete.field-0.0 told.cause (told.fault (ap Err told.cause)) told.moments (inl (c.requires.all, refl)))

pub of_engine-requires : goal.of_engine-requires
of_engine-requires g c = c.in_ok-complete.ensures.completed.has.durable

pub returns : goal.returns
returns g c =
    let rests =
    Rests-stays g.E.Durable.device g.E.Durable.contents g.E.Durable.is_faulted g.E.Durable.staged g.K.Keyspace.table c.args.self.now c.args.self.now c.requires.awaits
    (Stays-same g.E.Durable.device g.E.Durable.contents g.E.Durable.is_faulted g.E.Durable.staged g.K.Keyspace.table c.args.self.now c.args.self.now refl) in
    let told = c.in_ok-complete.ensures in
    let room = subst (λ (r : Record). ¬ ExhaustsCopy r c.args.end.position) c.record.ensures (denied false c.if-exhausts_copy.ensures refl) in
    Ends-done g.E.Durable.device g.E.Durable.contents g.E.Durable.is_faulted g.E.Durable.staged g.K.Keyspace.table c.args.end c.args.self.now c.args.self.now c.requires.own room c.requires.awaits
    rests c.complete.new.self c.of_engine.result told.completed told.moments (inl (c.requires.all, refl)) c.of_engine.ensures
