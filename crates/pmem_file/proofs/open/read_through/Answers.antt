use Rattle.std.proofs.Common.{◌≡◌, ℕ, ◌*◌, false, List, Option, rules, sym, subst, ap, ◌∙◌}
use Rattle.std.specs.Int.{div_ceil}
use Rattle.journal.specs.declared.shape.Head.{Head}
use Rattle.journal.specs.File.{lines_of_file}
use Rattle.pmem_file.specs.declared.run.TheConstants.{LINES_A_WRITE}
use Rattle.pmem_file.specs.Finding.{IsSeen, IsSeenWhere}
use Rattle.pmem_file.specs.Opening.{Step, steps_of, with_blocks}
use Rattle.pmem_file.proofs.OpenedLemmas.{read-through}
use Rattle.pmem_file.proofs.open.read_through.Goals as goal

pub returns-then-eq-clause-through : goal.returns-then-eq-clause-through
returns-then-eq-clause-through c =
    let head = c.loop.head in
    let file = c.in_ok-loaded.loaded.words in
    let looked = steps_of c.loop.opening.calls in
    let old = steps_of c.load_to_read.new.opening.calls in
    let steps = steps_of c.find_journal.new.opening.calls in
    let seen : IsSeen c.in-Some.now old steps =
    subst (λ (o : Option Head). IsSeenWhere o old steps) c.in-Some.is c.in_ok-now.ensures.seen in
    let same : c.in-Some.now ≡ head = search rules in
    let again : IsSeen head (with_blocks false file (div_ceil (lines_of_file head.shape) LINES_A_WRITE) looked) steps =
    subst (λ (n : ℕ). IsSeen head (with_blocks false file (div_ceil n LINES_A_WRITE) looked) steps) (sym c.loop.invariant.whole)
    (subst (λ (s : List Step). IsSeen head s steps) c.in_ok-loaded.ensures.noted (subst (λ (h : Head). IsSeen h old steps) same seen)) in
    read-through c.replayed_over.result head file c.loop.invariant.seen.0 looked steps
    (c.in_ok-loaded.ensures.words ∙ ap (λ (n : ℕ). 8 * n) (sym c.loop.invariant.whole)) c.replayed_over.ensures.made c.replayed_over.ensures.lines
    c.replayed_over.ensures.opening c.loop.invariant.seen.1 again
