use Rattle.std.proofs.Common.{sym, ◌∙◌}
use Rattle.kv_types.specs.declared.refusal.Refusal.TheVariants.{PositionGap, WrongEpoch}
use Rattle.standby.proofs.EndOutcomes.{Ends-cannot}
use Rattle.standby.proofs.StepLemmas.{end_misplaced, end_of_other_epoch}
use Rattle.standby.proofs.newcomer.Newcomer.end_copy.Goals as goal

pub returns-then-end-epoch : goal.returns-then-end-epoch
returns-then-end-epoch g c =
    Ends-cannot g.E.Durable.device g.E.Durable.contents g.E.Durable.is_faulted g.E.Durable.staged g.K.Keyspace.table c.args.end c.args.self.now WrongEpoch
    (end_of_other_epoch (g.E.Durable.contents c.args.self.now.engine).current c.args.self.now.half c.args.end (λ same. c.if-end-epoch.true (same ∙ sym c.epoch.ensures)))

pub end_whole-requires-clause-awaits : goal.end_whole-requires-clause-awaits
end_whole-requires-clause-awaits g c = c.requires

pub end_whole-requires-clause-own : goal.end_whole-requires-clause-own
end_whole-requires-clause-own g c = c.if-end-epoch.false ∙ c.epoch.ensures

pub end_whole-requires-clause-all : goal.end_whole-requires-clause-all
end_whole-requires-clause-all g c = c.in-Completes.ensures

pub end_empty-requires-clause-awaits : goal.end_empty-requires-clause-awaits
end_empty-requires-clause-awaits g c = c.requires

pub end_empty-requires-clause-own : goal.end_empty-requires-clause-own
end_empty-requires-clause-own g c = c.if-end-epoch.false ∙ c.epoch.ensures

pub end_empty-requires-clause-none : goal.end_empty-requires-clause-none
end_empty-requires-clause-none g c = c.in-Empties.ensures

pub returns-in-Completes : goal.returns-in-Completes
returns-in-Completes g c = c.end_whole.ensures

pub returns-in-Empties : goal.returns-in-Empties
returns-in-Empties g c = c.end_empty.ensures

pub returns-in-Misplaced : goal.returns-in-Misplaced
returns-in-Misplaced g c =
    Ends-cannot g.E.Durable.device g.E.Durable.contents g.E.Durable.is_faulted g.E.Durable.staged g.K.Keyspace.table c.args.end c.args.self.now PositionGap
    (end_misplaced (g.E.Durable.contents c.args.self.now.engine).current c.args.self.now.half c.args.end (c.if-end-epoch.false ∙ c.epoch.ensures) c.in-Misplaced.ensures.0 c.in-Misplaced.ensures.1)
