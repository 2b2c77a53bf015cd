use Rattle.std.proofs.Common.{arith}
use Rattle.std.proofs.lemmas.Bool.Decides.{nat_tests}
use Rattle.extent_heap.proofs.PartLemmas.{part_within}
use Rattle.extent_heap.proofs.RunsLemmas.{line_bounds}
use Rattle.extent_heap.proofs.tree.Tree.holds.Goals as goal

pub returns-in-Some : goal.returns-in-Some
returns-in-Some c =
    let run = c.in-Some.run' in
    let bounds = line_bounds run c.args.extent.first_line c.in-Some.ensures.has in
    let from = bounds.0 in
    let below = bounds.1 in
    part_within c.args.self.now c.args.extent run _ c.in-Some.ensures (λ fits. grind (arith, nat_tests, fits, from, below)) (λ fits. grind (arith, nat_tests, fits, from, below))
