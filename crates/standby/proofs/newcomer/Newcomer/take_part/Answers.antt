use Rattle.std.proofs.Common.{sym, ◌∙◌}
use Rattle.kv_types.specs.declared.refusal.Refusal.TheVariants.{PositionGap, WrongEpoch}
use Rattle.standby.proofs.PartOutcomes.{Takes-cannot, Takes-had}
use Rattle.standby.proofs.StepLemmas.{misplaced, other_epoch}
use Rattle.standby.proofs.newcomer.Newcomer.take_part.Goals as goal

pub returns-then-part-epoch : goal.returns-then-part-epoch
returns-then-part-epoch g c =
    Takes-cannot g.E.Durable.device g.E.Durable.contents g.E.Durable.is_faulted g.E.Durable.staged g.K.Keyspace.table c.args.part c.args.self.now WrongEpoch
    (other_epoch (g.E.Durable.contents c.args.self.now.engine).current c.args.self.now.half c.args.part (λ same. c.if-part-epoch.true (same ∙ sym c.epoch.ensures)))

pub take_next-requires-clause-awaits : goal.take_next-requires-clause-awaits
take_next-requires-clause-awaits g c = c.requires

pub take_next-requires-clause-own : goal.take_next-requires-clause-own
take_next-requires-clause-own g c = c.if-part-epoch.false ∙ c.epoch.ensures

pub take_next-requires-clause-next : goal.take_next-requires-clause-next
take_next-requires-clause-next g c = c.in-GoesOn.ensures

pub take_first-requires-clause-awaits : goal.take_first-requires-clause-awaits
take_first-requires-clause-awaits g c = c.requires

pub take_first-requires-clause-own : goal.take_first-requires-clause-own
take_first-requires-clause-own g c = c.if-part-epoch.false ∙ c.epoch.ensures

pub take_first-requires-clause-begins : goal.take_first-requires-clause-begins
take_first-requires-clause-begins g c = c.in-Begins.ensures

pub returns-in-Has : goal.returns-in-Has
returns-in-Has g c =
    Takes-had g.E.Durable.device g.E.Durable.contents g.E.Durable.is_faulted g.E.Durable.staged g.K.Keyspace.table c.args.part c.args.self.now tt (c.if-part-epoch.false ∙ c.epoch.ensures) c.in-Has.ensures

pub returns-in-GoesOn : goal.returns-in-GoesOn
returns-in-GoesOn g c = c.take_next.ensures

pub returns-in-Begins : goal.returns-in-Begins
returns-in-Begins g c = c.take_first.ensures

pub returns-in-Misplaced : goal.returns-in-Misplaced
returns-in-Misplaced g c =
    let is = c.in-Misplaced.ensures in
    Takes-cannot g.E.Durable.device g.E.Durable.contents g.E.Durable.is_faulted g.E.Durable.staged g.K.Keyspace.table c.args.part c.args.self.now PositionGap
    (misplaced (g.E.Durable.contents c.args.self.now.engine).current c.args.self.now.half c.args.part (c.if-part-epoch.false ∙ c.epoch.ensures) is.0 is.1 is.2)
