use Rattle.std.proofs.Common.{◌≡◌, arith}
use Rattle.extent_heap.proofs.InPlaceLemmas.{run_small, shortened}
use Rattle.extent_heap.proofs.RunsLemmas.{line_bounds}
use Rattle.extent_heap.proofs.runs.shorten.Goals as goal

pub overflow_add-rest : goal.overflow_add-rest
overflow_add-rest c =
    let bounds = line_bounds c.in-Some.run' c.args.extent.first_line c.in-Some.ensures.has in
    omega (arith, bounds.0, c.if-run-extent-2.false, run_small c.args.runs.now c.args.extent.first_line c.in-Some.run' c.requires.ordered c.in-Some.ensures)

pub returns-clause-claimed : goal.returns-clause-claimed
returns-clause-claimed c = λ is_there.
    let bounds = line_bounds c.in-Some.run' c.args.extent.first_line c.in-Some.ensures.has in
    let first : c.args.extent.first_line ≡ c.in-Some.run'.first_line = omega (arith, bounds.0, c.if-run-extent.false) in
    shortened c.args.runs.now c.replace.new.self c.args.extent c.in-Some.run' c.requires.ordered c.requires.some first c.if-run-extent-2.false (c.replace.ensures.replaces is_there)
