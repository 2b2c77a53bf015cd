use Rattle.std.proofs.Common.{◌≡◌, ◌≤◌, ◌*◌, ◌<◌, arith, sym, ◌∙◌, below_more}
use Rattle.images.proofs.unfinished.are_zeros.Goals as goal

pub loop-word-init : goal.loop-word-init
loop-word-init g c = λ k below from. absurd (omega (arith, below, from))

pub loop-word-preserved : goal.loop-word-preserved
loop-word-preserved g c = below_more _ _ c.loop-word.invariant (λ from. sym c.load.ensures ∙ c.if-load-ne0.false)

pub returns : goal.returns
returns g c = λ all k below from. c.loop-word.invariant k (omega (arith, below, c.loop-word-test.false)) from
