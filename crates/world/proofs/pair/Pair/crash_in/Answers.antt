use Rattle.std.proofs.Common.{sym, ◌∙◌}
use Rattle.world.proofs.PairLives.{between}
use Rattle.world.proofs.pair.Pair.crash_in.Goals as goal

pub returns-then-is_between : goal.returns-then-is_between
returns-then-is_between g c = rw (between c.args.call (sym c.is_between.ensures ∙ c.if-is_between.true)) (c.crash.ensures c.args.k)

pub cut-requires-clause-inside : goal.cut-requires-clause-inside
cut-requires-clause-inside g c = sym c.is_between.ensures ∙ c.if-is_between.false
