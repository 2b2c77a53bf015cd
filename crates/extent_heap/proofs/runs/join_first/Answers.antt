use Rattle.std.proofs.Common.{List, ◌++◌, sym, ap, ◌∙◌}
use Rattle.std.proofs.lemmas.Bool.{true≢false}
use Rattle.kv_types.specs.declared.place.Extent.{Extent}
use Rattle.extent_heap.specs.Runs.{some_run}
use Rattle.extent_heap.proofs.JoinLemmas.{first_touches, first_apart}
use Rattle.extent_heap.proofs.runs.join_first.Goals as goal

pub returns-then-ends_at-clause-joins : goal.returns-then-ends_at-clause-joins
returns-then-ends_at-clause-joins c =
    first_touches c.args.runs c.pop_first-first.result.1 c.in-Some.run' c.args.extent (rw c.in-Some.is at c.pop_first-first.ensures.runs) (c.ends_at.ensures.0 c.if-ends_at.true)

pub returns-else-ends_at-clause-joins : goal.returns-else-ends_at-clause-joins
returns-else-ends_at-clause-joins c =
    first_apart c.args.runs c.pop_first-first.result.1 c.in-Some.run' c.args.extent c.join.result (rw c.in-Some.is at c.pop_first-first.ensures.runs)
    (λ touch. true≢false (sym (c.ends_at.ensures.1 touch) ∙ c.if-ends_at.false))
    (c.join.ensures ∙ ap (λ (xs : List Extent). xs ++ c.pop_first-first.result.1) (c.push-first.ensures.runs ∙ ap (λ (xs : List Extent). xs ++ some_run c.in-Some.run') c.new.ensures))
