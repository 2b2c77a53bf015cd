use Rattle.std.proofs.Common.{◌≡◌, ◌++◌, ◌∷◌, sym, ap, ◌∙◌, arith}
use Rattle.extent_heap.specs.Tree.{runs_of}
use Rattle.extent_heap.proofs.BelowLemmas.{lacks_fork_below}
use Rattle.extent_heap.proofs.tree.Tree.+lacking_below.Goals as goal

pub returns-in-Some : goal.returns-in-Some
returns-in-Some t c =
    let lines = c.args.lines in
    let fork = c.in-Some.fork.value in
    let is : c.args.self.now ≡ fork.left ++ fork.run ∷ fork.right = sym c.self.view_is ∙ ap runs_of c.in-Some.is in
    let before = rw c.deref.ensures at c.lacking_below-before.ensures in
    let own = rw c.deref-in-Some.ensures at c.lines_below.ensures in
    let here = rw own at c.saturating_sub-here.ensures in
    let behind = rw c.deref-in-Some-2.ensures at c.lacking_below.ensures in
    rw is (omega (arith, before, here, behind, lacks_fork_below lines c.args.end c.args.wanted fork.left fork.run fork.right))
