use Rattle.std.proofs.Common.{false, inl, refl, subst}
use Rattle.std.specs.Prelude.{ℕ, List}
use Rattle.kv_types.specs.declared.record_id.RecordId.{RecordId}
use Rattle.kv_types.specs.declared.refusal.Refusal.TheVariants.{Exhausted, PositionGap}
use Rattle.model.specs.declared.record.Record.{Record}
use Rattle.standby.specs.Copies.{Rise, last_of}
use Rattle.standby.specs.Newcomers.{ExhaustsPart}
use Rattle.standby.proofs.PartOutcomes.{Takes-cannot, Takes-next}
use Rattle.standby.proofs.StepLemmas.{denied, exhausted, next_at, next_falls, not_counted}
use Rattle.standby.proofs.newcomer.Newcomer.take_next.Goals as goal

pub returns-then-not-rise_behind : goal.returns-then-not-rise_behind
returns-then-not-rise_behind g c =
    Takes-cannot g.E.Durable.device g.E.Durable.contents g.E.Durable.is_faulted g.E.Durable.staged g.K.Keyspace.table c.args.part c.args.self.now PositionGap
    (next_falls (g.E.Durable.contents c.args.self.now.engine).current c.args.self.now.half c.args.part c.requires.own c.requires.next
    (subst (λ (puts : List (RecordId × List ℕ)). ¬ Rise (last_of c.args.self.now.half) puts) c.deref.ensures.value
    (denied false c.if-not-rise_behind.ensures refl)))

pub returns-then-exhausts_part : goal.returns-then-exhausts_part
returns-then-exhausts_part g c =
    let rise = subst (Rise (last_of c.args.self.now.half)) c.deref.ensures.value (c.if-not-rise_behind.ensures.0 refl) in
    Takes-cannot g.E.Durable.device g.E.Durable.contents g.E.Durable.is_faulted g.E.Durable.staged g.K.Keyspace.table c.args.part c.args.self.now Exhausted
    (exhausted (g.E.Durable.contents c.args.self.now.engine).current c.args.self.now.half c.args.part c.requires.own (inl (c.requires.next, rise))
    (subst (λ (r : Record). ExhaustsPart r c.args.part) c.record.ensures (c.if-exhausts_part.ensures.0 refl)))

pub add_part-requires-clause-awaits : goal.add_part-requires-clause-awaits
add_part-requires-clause-awaits g c = c.requires.awaits

pub add_part-requires-clause-rising : goal.add_part-requires-clause-rising
add_part-requires-clause-rising g c = subst (Rise (last_of c.args.self.now.half)) c.deref.ensures.value (c.if-not-rise_behind.ensures.0 refl)

pub add_part-requires-clause-half : goal.add_part-requires-clause-half
add_part-requires-clause-half g c = next_at c.args.self.now.half c.args.part.position c.args.part.number c.requires.next

pub add_part-requires-clause-counted : goal.add_part-requires-clause-counted
add_part-requires-clause-counted g c =
    not_counted (g.E.Durable.contents c.args.self.now.engine).current c.args.part
    (subst (λ (r : Record). ¬ ExhaustsPart r c.args.part) c.record.ensures (denied false c.if-exhausts_part.ensures refl))

pub returns : goal.returns
returns g c =
    let rise = subst (Rise (last_of c.args.self.now.half)) c.deref.ensures.value (c.if-not-rise_behind.ensures.0 refl) in
    let room = subst (λ (r : Record). ¬ ExhaustsPart r c.args.part) c.record.ensures (denied false c.if-exhausts_part.ensures refl) in
    Takes-next g.E.Durable.device g.E.Durable.contents g.E.Durable.is_faulted g.E.Durable.staged g.K.Keyspace.table c.args.part c.args.self.now c.requires.own room c.requires.awaits (c.requires.next, rise)
    c.add_part.new.self c.add_part.result c.add_part.ensures
