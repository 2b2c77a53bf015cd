use Rattle.std.proofs.Common.{◌≡◌, List, [], ◌∷◌, ◌++◌, None, Some, sym, ap, ◌∙◌, arith}
use Rattle.kv_types.specs.declared.place.Extent.{Extent}
use Rattle.extent_heap.specs.Runs.{has_line}
use Rattle.extent_heap.specs.Tree.{runs_of}
use Rattle.extent_heap.proofs.FindLemmas.{find_before, find_here, find_behind}
use Rattle.extent_heap.proofs.tree.Tree.run_at.Goals as goal

pub loop-tree-preserved-then-line-deref : goal.loop-tree-preserved-then-line-deref
loop-tree-preserved-then-line-deref c = λ found finds.
    let fork = c.in-Some.fork.value in
    let is : c.loop-tree.tree.now ≡ fork.left ++ fork.run ∷ fork.right = sym c.tree.view_is ∙ ap runs_of c.in-Some.is in
    let below = rw c.deref.ensures at c.if-line-deref.true in
    c.loop-tree.invariant found (rw is (find_before fork.left fork.run fork.right c.args.line found below (rw c.deref-then-line-deref.ensures at finds)))

pub returns-then-line-deref-2 : goal.returns-then-line-deref-2
returns-then-line-deref-2 c =
    let fork = c.in-Some.fork.value in
    let is : c.loop-tree.tree.now ≡ fork.left ++ fork.run ∷ fork.right = sym c.tree.view_is ∙ ap runs_of c.in-Some.is in
    let from = rw c.deref.ensures at c.if-line-deref.false in
    let within = rw (c.deref-else-line-deref.ensures, c.deref-else-line-deref-2.ensures) at c.if-line-deref-2.true in
    rw c.deref-then-line-deref-2.ensures (c.loop-tree.invariant (Some fork.run) (rw is (find_here fork.left fork.run fork.right c.args.line from (omega arith))))

pub loop-tree-preserved : goal.loop-tree-preserved
loop-tree-preserved c = λ found finds.
    let fork = c.in-Some.fork.value in
    let is : c.loop-tree.tree.now ≡ fork.left ++ fork.run ∷ fork.right = sym c.tree.view_is ∙ ap runs_of c.in-Some.is in
    let from = rw c.deref.ensures at c.if-line-deref.false in
    let beyond = rw (c.deref-else-line-deref.ensures, c.deref-else-line-deref-2.ensures) at c.if-line-deref-2.false in
    c.loop-tree.invariant found (rw is (find_behind fork.left fork.run fork.right c.args.line found (omega arith) (rw c.deref-else-line-deref-2-2.ensures at finds)))

pub returns : goal.returns
returns c =
    let none : c.loop-tree.tree.now ≡ [] = sym c.tree.view_is ∙ ap runs_of c.in_default.is in
    c.loop-tree.invariant None (λ low high ordered. ap (λ (runs : List Extent). has_line runs c.args.line) none)
