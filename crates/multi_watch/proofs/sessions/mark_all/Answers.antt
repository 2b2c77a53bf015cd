use Rattle.std.proofs.Common.{◌∙◌}
use Rattle.multi_watch.proofs.SessionsLemmas.{marked_next, marked_last}
use Rattle.multi_watch.proofs.sessions.mark_all.Goals as goal

pub loop-number-preserved : goal.loop-number-preserved
loop-number-preserved c = λ n.
    (marked_next c.args.key.now c.args.numbers.now c.loop-number.number-index n c.loop-number-test.true _ _ (c.mark.ensures n)
    ∙ c.loop-number.invariant n)

pub returns : goal.returns
returns c = λ n. (marked_last c.args.key.now c.args.numbers.now c.loop-number.number-index n c.loop-number-test.false _ ∙ c.loop-number.invariant n)
