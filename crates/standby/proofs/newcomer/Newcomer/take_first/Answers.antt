use Rattle.std.proofs.Common.{false, Err, inr, refl, sym, ap, subst, ◌∙◌}
use Rattle.std.proofs.lemmas.Result.{err_from_is_err_and}
use Rattle.std.specs.Prelude.{ℕ, List, Option, None}
use Rattle.kv_types.specs.declared.record_id.RecordId.{RecordId}
use Rattle.kv_types.specs.declared.refusal.Refusal.TheVariants.{Exhausted, PositionGap}
use Rattle.model.specs.declared.record.Record.{Record}
use Rattle.standby.specs.declared.copies.Half.{Half}
use Rattle.standby.specs.Copies.{Rise, last_of}
use Rattle.standby.specs.Newcomers.{ExhaustsPart}
use Rattle.standby.proofs.CopyRests.{Awaits-cleared, half_cleared}
use Rattle.standby.proofs.EndOutcomes.{at_none}
use Rattle.standby.proofs.PartOutcomes.{Takes-cannot, Takes-first, Takes-uncleared}
use Rattle.standby.proofs.StepLemmas.{denied, exhausted, first_falls, not_counted}
use Rattle.standby.proofs.newcomer.Newcomer.take_first.Goals as goal

pub returns-then-not-are_rising : goal.returns-then-not-are_rising
returns-then-not-are_rising g c =
    Takes-cannot g.E.Durable.device g.E.Durable.contents g.E.Durable.is_faulted g.E.Durable.staged g.K.Keyspace.table c.args.part c.args.self.now PositionGap
    (first_falls (g.E.Durable.contents c.args.self.now.engine).current c.args.self.now.half c.args.part c.requires.own c.requires.begins
    (subst (λ (puts : List (RecordId × List ℕ)). ¬ Rise None puts) c.deref.ensures.value
    (denied false c.if-not-are_rising.ensures refl)))

pub returns-then-exhausts_part : goal.returns-then-exhausts_part
returns-then-exhausts_part g c =
    let rise = subst (Rise None) c.deref.ensures.value (c.if-not-are_rising.ensures.0 refl) in
    Takes-cannot g.E.Durable.device g.E.Durable.contents g.E.Durable.is_faulted g.E.Durable.staged g.K.Keyspace.table c.args.part c.args.self.now Exhausted
    (exhausted (g.E.Durable.contents c.args.self.now.engine).current c.args.self.now.half c.args.part c.requires.own (inr (c.requires.begins, rise))
    (subst (λ (r : Record). ExhaustsPart r c.args.part) c.record.ensures (c.if-exhausts_part.ensures.0 refl)))

pub drop_half-requires : goal.drop_half-requires
drop_half-requires g c = c.requires.awaits

pub returns-in_err-drop_half : goal.returns-in_err-drop_half
returns-in_err-drop_half g c =
    let exit = err_from_is_err_and c.from_residual.result c.from_residual.ensures.1 in
    let rise = subst (Rise None) c.deref.ensures.value (c.if-not-are_rising.ensures.0 refl) in
    let room = subst (λ (r : Record). ¬ ExhaustsPart r c.args.part) c.record.ensures (denied false c.if-exhausts_part.ensures refl) in
    rw (exit.1 ∙ ap Err exit.2)
    (Takes-uncleared g.E.Durable.device g.E.Durable.contents g.E.Durable.is_faulted g.E.Durable.staged g.K.Keyspace.table c.args.part c.args.self.now c.requires.own room c.requires.awaits (c.requires.begins, rise)
    c.drop_half.new.self c.in_err-drop_half.field-0.0 c.in_err-drop_half.ensures)

pub add_part-requires-clause-awaits : goal.add_part-requires-clause-awaits
add_part-requires-clause-awaits g c =
    Awaits-cleared g.E.Durable.device g.E.Durable.contents g.E.Durable.is_faulted g.E.Durable.staged g.K.Keyspace.table c.args.self.now c.drop_half.new.self c.requires.awaits c.in_ok-drop_half.ensures.cleared

pub add_part-requires-clause-rising : goal.add_part-requires-clause-rising
add_part-requires-clause-rising g c =
    let rise = subst (Rise None) c.deref.ensures.value (c.if-not-are_rising.ensures.0 refl) in
    subst (λ (half : Option Half). Rise (last_of half) c.args.part.puts.items)
    (sym (half_cleared g.E.Durable.device g.E.Durable.contents g.E.Durable.is_faulted g.E.Durable.staged g.K.Keyspace.table c.args.self.now c.drop_half.new.self c.in_ok-drop_half.ensures.cleared)) rise

pub add_part-requires-clause-half : goal.add_part-requires-clause-half
add_part-requires-clause-half g c =
    at_none c.drop_half.new.self.half c.args.part.position
    (half_cleared g.E.Durable.device g.E.Durable.contents g.E.Durable.is_faulted g.E.Durable.staged g.K.Keyspace.table c.args.self.now c.drop_half.new.self c.in_ok-drop_half.ensures.cleared)

pub add_part-requires-clause-counted : goal.add_part-requires-clause-counted
add_part-requires-clause-counted g c =
    let room = subst (λ (r : Record). ¬ ExhaustsPart r c.args.part) c.record.ensures (denied false c.if-exhausts_part.ensures refl) in
    not_counted (g.E.Durable.contents c.args.self.now.engine).current c.args.part room

pub returns : goal.returns
returns g c =
    let rise = subst (Rise None) c.deref.ensures.value (c.if-not-are_rising.ensures.0 refl) in
    let room = subst (λ (r : Record). ¬ ExhaustsPart r c.args.part) c.record.ensures (denied false c.if-exhausts_part.ensures refl) in
    Takes-first g.E.Durable.device g.E.Durable.contents g.E.Durable.is_faulted g.E.Durable.staged g.K.Keyspace.table c.args.part c.args.self.now c.requires.own room c.requires.awaits (c.requires.begins, rise)
    c.drop_half.new.self c.in_ok-drop_half.ensures.cleared c.add_part.new.self c.add_part.result c.add_part.ensures
