use Rattle.std.proofs.Common.{List, ◌++◌, ap, ◌∙◌}
use Rattle.kv_types.specs.declared.place.Extent.{Extent}
use Rattle.extent_heap.specs.Runs.{some_run}
use Rattle.extent_heap.proofs.CutLemmas.{claimed_is, back_of}
use Rattle.extent_heap.proofs.runs.rebuild_without.Goals as goal

pub returns-clause-claimed : goal.returns-clause-claimed
returns-clause-claimed c =
    let run = c.cut-before.result.1 in
    claimed_is c.args.runs c.args.extent c.cut-before.result.0 run c.cut-before.result.2 c.join.result c.requires.ordered c.cut-before.ensures.cut c.requires.some
    (c.join.ensures ∙ ap (λ (xs : List Extent). xs ++ c.cut-before.result.2)
    (c.push-before-2.ensures.runs ∙ ap (λ (xs : List Extent). xs ++ some_run (back_of run c.args.extent)) c.push-before.ensures.runs))
