use Rattle.std.proofs.Common.{◌≡◌, ℕ, ◌≤◌, ◌++◌, List, length, take, get_or, sym, ap, ◌∙◌, arith}
use Rattle.pmem_file.proofs.WordsLemmas.{whole, whole-used}
use Rattle.pmem_file.proofs.words.Words.compacted.Goals as goal

pub returns : goal.returns
returns c =
    let kept = c.self.inside.kept.items in
    let count = c.self.inside.count in
    let used = c.up_to_last.result in
    let items : c.extend_from_slice.new.self.items ≡ take used kept =
    c.in_ok-extend_from_slice.ensures.items ∙ ap (λ (l : List ℕ). l ++ c.split_at.result.0.now) c.in_ok-kept.ensures.items
    ∙ c.split_at.ensures.front ∙ ap (take used) c.deref.ensures.value in
    let within : used ≤ length kept = omega (arith, c.up_to_last.ensures.within, ap length c.deref-2.ensures.value) in
    ap (λ (l : List ℕ). whole l count) items
    ∙ whole-used kept used count within c.self.invariant.0
    (λ word beyond. ap (λ (l : List ℕ). get_or l word 0) (sym c.deref-2.ensures.value) ∙ c.up_to_last.ensures.zeros word beyond)
    ∙ c.self.view_is
