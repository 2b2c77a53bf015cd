use Rattle.std.proofs.Common.{sym, ◌∙◌}
use Rattle.world.proofs.PairFailing.{primary-fenced, primary-fences}
use Rattle.world.proofs.pair.Pair.fence.Goals as goal

pub returns-then-has_ended-clause-does : goal.returns-then-has_ended-clause-does
returns-then-has_ended-clause-does g c = λ history. primary-fenced _ (sym c.has_ended.ensures ∙ c.if-has_ended.true)

pub returns-clause-does : goal.returns-clause-does
returns-clause-does g c = λ history. primary-fences _ (sym c.has_ended.ensures ∙ c.if-has_ended.false) (g.met.E.Durable.sized c.args.self.now.primary.back.committer.engine)
