use Rattle.std.proofs.Common.{◌≡◌, ◌∷◌, ◌++◌, sym, ap, ◌∙◌}
use Rattle.std.specs.Prelude.{Box}
use Rattle.std.specs.declared.alloc.Global.{Global}
use Rattle.extent_heap.specs.Tree.{runs_of, runs_at}
use Rattle.extent_heap.specs.declared.tree.Fork.{Fork}
use Rattle.extent_heap.proofs.ReplaceLemmas.{same_extent, replaced_here, replaced_before, replaced_behind}
use Rattle.extent_heap.proofs.tree.Tree.+replace.Goals as goal
use Rattle.extent_heap.proofs.tree.Tree.+replace.Goals.{then-eq, else-eq+then-run-deref, else-eq+else-run-deref}

pub returns-clause-replaces : goal.returns-clause-replaces
returns-clause-replaces t c = λ is_there.
    let run = c.args.run in
    let by = c.args.by in
    let fork = c.in-Some.fork.value in
    let old : c.args.self.now ≡ runs_at fork = sym c.self.view_is ∙ ap runs_of c.in-Some.is in
    let new : runs_at c.sum.new.self ≡ runs_at c.if-eq.fork.value = ap runs_at c.sum.ensures ∙ ap runs_at c.deref_mut-2.ensures.value in
    rw (old, new)
    (elim c.if-eq.branch [
      | then-eq w ↦
          let is : runs_at c.if-eq.fork.value ≡ fork.left ++ by ∷ fork.right =
          ap (λ (b : Box Fork Global). runs_at b.value) w.fork-is ∙ ap (λ (f : Fork). f.left ++ by ∷ f.right) w.deref_mut.ensures.value in
          rw is (replaced_here fork.left fork.run fork.right run by (same_extent fork.run run (rw (c.eq.ensures, c.deref.ensures) at w.if-eq.true)))
      | else-eq+then-run-deref w ↦
          let left = w.replace.new.self in
          let is : runs_at c.if-eq.fork.value ≡ left ++ fork.run ∷ fork.right =
          ap (λ (b : Box Fork Global). runs_at b.value) w.fork-is ∙ ap (λ (f : Fork). left ++ f.run ∷ f.right) w.deref_mut-then-run-deref.ensures.value in
          rw is
          (replaced_before fork.left fork.run fork.right run by left (rw w.deref_mut-then-run-deref.ensures.value at (w.replace.ensures.replaces (sym w.is_there-is ∙ is_there))))
      | else-eq+else-run-deref w ↦
          let right = w.replace-else-run-deref.new.self in
          let is : runs_at c.if-eq.fork.value ≡ fork.left ++ fork.run ∷ right =
          ap (λ (b : Box Fork Global). runs_at b.value) w.fork-is ∙ ap (λ (f : Fork). f.left ++ f.run ∷ right) w.deref_mut-else-run-deref.ensures.value in
          rw is
          (replaced_behind fork.left fork.run fork.right run by right (rw w.deref_mut-else-run-deref.ensures.value at (w.replace-else-run-deref.ensures.replaces (sym w.is_there-is ∙ is_there))))
    ])
