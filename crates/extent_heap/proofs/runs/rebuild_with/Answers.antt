use Rattle.std.proofs.Common.{List, ◌++◌, subst, ap, ◌∙◌}
use Rattle.kv_types.specs.declared.place.Extent.{Extent}
use Rattle.extent_heap.specs.Runs.{AreRuns}
use Rattle.extent_heap.proofs.RunsLemmas.{AreRuns-back}
use Rattle.extent_heap.proofs.JoinLemmas.{given_is}
use Rattle.extent_heap.proofs.runs.rebuild_with.Goals as goal

pub join_first-rest-requires-clause-ordered : goal.join_first-rest-requires-clause-ordered
join_first-rest-requires-clause-ordered c =
    let order = c.requires.ordered in
    record {
      low = order.low;
      high = order.high;
      small = order.small;
      are = AreRuns-back order.low order.high c.split-below.result.0 c.split-below.result.1 (subst (AreRuns order.low order.high) c.split-below.ensures.is order.are);
    }

pub returns-clause-given : goal.returns-clause-given
returns-clause-given c =
    given_is c.args.runs c.split-below.result.0 c.split-below.result.1 c.join_last-below.result.0 c.join_first-rest.result.1 c.args.extent c.join_last-below.result.1
    c.join_first-rest.result.0 c.join.result c.split-below.ensures c.join_last-below.ensures.joins c.join_first-rest.ensures.joins c.requires.some c.requires.apart
    (c.join.ensures ∙ ap (λ (xs : List Extent). xs ++ c.join_first-rest.result.1) c.push.ensures.runs)
