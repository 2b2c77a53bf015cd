use Rattle.std.proofs.Common.{◌≡◌, ◌++◌, ◌∷◌, sym, ap, ◌∙◌, arith}
use Rattle.extent_heap.specs.Tree.{runs_of}
use Rattle.extent_heap.proofs.RunsLemmas.{lacks_fork}
use Rattle.extent_heap.proofs.tree.Tree.+lacking.Goals as goal

pub returns-in-Some : goal.returns-in-Some
returns-in-Some t c =
    let lines = c.args.lines in
    let fork = c.in-Some.fork.value in
    let is : c.args.self.now ≡ fork.left ++ fork.run ∷ fork.right = sym c.self.view_is ∙ ap runs_of c.in-Some.is in
    let before = rw c.deref.ensures at c.lacking-before.ensures in
    let here = rw c.deref-in-Some.ensures at c.saturating_sub-here.ensures in
    let behind = rw c.deref-in-Some-2.ensures at c.lacking.ensures in
    rw is (omega (arith, before, here, behind, lacks_fork lines c.args.wanted fork.left fork.run fork.right))
