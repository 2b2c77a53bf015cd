use Rattle.std.proofs.Common.{◌≡◌, ◌∷◌, ◌++◌, Box, sym, ap, ◌∙◌}
use Rattle.std.specs.declared.alloc.Global.{Global}
use Rattle.extent_heap.specs.Tree.{runs_of, runs_at}
use Rattle.extent_heap.specs.declared.tree.Fork.{Fork}
use Rattle.extent_heap.proofs.SplitLemmas.{split_behind, split_before}
use Rattle.extent_heap.proofs.tree.Tree.+split.Goals as goal

pub returns-then-deref-line : goal.returns-then-deref-line
returns-then-deref-line t c =
    let fork = c.in-Some.fork.value in
    let below = c.split-below.result.0 in
    let rest = c.split-below.result.1 in
    let value : c.deref_mut.result.now ≡ fork = c.deref_mut.ensures.value ∙ ap (λ (b : Box Fork Global). b.value) c.in-Some.fork-is in
    let is : c.args.self ≡ runs_at fork = sym c.self.view_is ∙ ap runs_of c.in-Some.is in
    let whole : c.of.result ≡ fork.left ++ fork.run ∷ below =
    c.of.ensures ∙ ap (λ (f : Fork). f.left ++ f.run ∷ below) c.deref_mut-then-deref-line.ensures.value ∙ ap (λ (f : Fork). f.left ++ f.run ∷ below) value in
    let same : c.deref.result.now ≡ fork = cc c.deref.ensures in
    let less = rw same at c.if-deref-line.true in
    let inner = rw (c.replace-inner.ensures.value, value) at c.split-below.ensures in
    rw (is, whole) (split_behind c.args.line fork.left fork.run fork.right below rest less inner)

pub returns-else-deref-line : goal.returns-else-deref-line
returns-else-deref-line t c =
    let fork = c.in-Some.fork.value in
    let below = c.split-below-else-deref-line.result.0 in
    let rest = c.split-below-else-deref-line.result.1 in
    let value : c.deref_mut-else-deref-line.result.now ≡ fork = c.deref_mut-else-deref-line.ensures.value ∙ ap (λ (b : Box Fork Global). b.value) c.in-Some.fork-is in
    let is : c.args.self ≡ runs_at fork = sym c.self.view_is ∙ ap runs_of c.in-Some.is in
    let whole : c.of-else-deref-line.result ≡ rest ++ fork.run ∷ fork.right =
    c.of-else-deref-line.ensures ∙ ap (λ (f : Fork). rest ++ f.run ∷ f.right) c.deref_mut-else-deref-line-2.ensures.value ∙ ap (λ (f : Fork). rest ++ f.run ∷ f.right) value in
    let same : c.deref.result.now ≡ fork = cc c.deref.ensures in
    let less = rw same at c.if-deref-line.false in
    let inner = rw (c.replace-inner-else-deref-line.ensures.value, value) at c.split-below-else-deref-line.ensures in
    rw (is, whole) (split_before c.args.line fork.left fork.run fork.right below rest less inner)
