use Rattle.std.proofs.Common.{sym, ap, ◌∙◌}
use Rattle.extent_heap.specs.Tree.{runs_of}
use Rattle.extent_heap.proofs.RunsLemmas.{fit_behind}
use Rattle.extent_heap.proofs.tree.Tree.+first_fit.Goals as goal

pub returns-else-deref-lines : goal.returns-else-deref-lines
returns-else-deref-lines t c =
    let fork = c.in-Some.fork.value in
    fit_behind c.args.lines fork.left fork.run fork.right c.args.self.now c.first_fit-else-deref-lines.result
    (sym c.self.view_is ∙ ap runs_of c.in-Some.is) (rw (c.longest.ensures, c.deref.ensures) at c.if-longest-lines.false)
    (rw c.deref-else-longest-lines.ensures at c.if-deref-lines.false) (rw c.deref-else-deref-lines.ensures at c.first_fit-else-deref-lines.ensures)
