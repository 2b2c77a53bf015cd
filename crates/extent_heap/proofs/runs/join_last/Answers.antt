use Rattle.std.proofs.Common.{sym, ◌∙◌}
use Rattle.std.proofs.lemmas.Bool.{true≢false}
use Rattle.extent_heap.proofs.JoinLemmas.{last_touches, last_apart}
use Rattle.extent_heap.proofs.runs.join_last.Goals as goal

pub returns-then-ends_at-clause-joins : goal.returns-then-ends_at-clause-joins
returns-then-ends_at-clause-joins c =
    last_touches c.args.runs c.pop_last-rest.result.0 c.in-Some.run' c.args.extent (rw c.in-Some.is at c.pop_last-rest.ensures.runs) (c.ends_at.ensures.0 c.if-ends_at.true)

pub returns-else-ends_at-clause-joins : goal.returns-else-ends_at-clause-joins
returns-else-ends_at-clause-joins c =
    last_apart c.args.runs c.pop_last-rest.result.0 c.in-Some.run' c.args.extent c.push.result (rw c.in-Some.is at c.pop_last-rest.ensures.runs)
    (λ touch. true≢false (sym (c.ends_at.ensures.1 touch) ∙ c.if-ends_at.false)) c.push.ensures.runs
