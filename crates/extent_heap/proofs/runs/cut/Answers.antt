use Rattle.std.proofs.Common.{◌+◌, List, subst, arith}
use Rattle.kv_types.specs.declared.place.Extent.{Extent}
use Rattle.extent_heap.specs.Split.{IsSplit}
use Rattle.extent_heap.proofs.CutLemmas.{first_line_in, line_small, some_below, cut_is}
use Rattle.extent_heap.proofs.runs.cut.Goals as goal

pub overflow_add-extent : goal.overflow_add-extent
overflow_add-extent c = omega (arith, line_small c.args.runs c.args.extent.first_line c.requires.ordered (first_line_in c.args.runs c.args.extent c.requires.some c.requires.part))

pub unreachable-requires : goal.unreachable-requires
unreachable-requires c =
    let none = rw c.in-None.is at c.pop_last-before.ensures.runs in
    some_below c.args.runs c.split-below.result.1 c.args.extent c.requires.ordered
    (subst (λ (xs : List Extent). IsSplit (c.args.extent.first_line + 1) c.args.runs xs c.split-below.result.1) none.0 c.split-below.ensures) c.requires.some c.requires.part

pub returns-clause-cut : goal.returns-clause-cut
returns-clause-cut c =
    cut_is c.args.runs c.split-below.result.0 c.split-below.result.1 c.pop_last-before.result.0 c.in-Some.run' c.args.extent c.requires.ordered c.split-below.ensures
    (rw c.in-Some.is at c.pop_last-before.ensures.runs) c.requires.some c.requires.part
