use Rattle.std.proofs.Common.{◌≡◌, ℕ, ◌+◌, List, [], ◌∷◌, ◌++◌, length, drop, get_or, sym, ap, ◌∙◌, arith, append_assoc}
use Rattle.std.proofs.lemmas.List.{append-nil, drop_more, drop_all}
use Rattle.pmem_file.proofs.WordsLemmas.{length-filled}
use Rattle.pmem_file.proofs.words.Words.split_off.Goals as goal

pub loop-word-preserved : goal.loop-word-preserved
loop-word-preserved c =
    let words = c.args.self.now in
    let kept = c.self.inside.kept.items in
    let count = c.self.inside.count in
    let i = c.loop-word.word in
    let size : length words ≡ count = ap length (sym c.self.view_is) ∙ length-filled kept count ∙ omega (arith, c.self.invariant.0) in
    let next : drop i words ≡ get_or words i 0 ∷ drop (i + 1) words = drop_more words i 0 (omega (arith, size, c.loop-word-test.true)) in
    ap (λ (l : List ℕ). l ++ drop (i + 1) words) c.in_ok-push.ensures.items
    ∙ append_assoc c.loop-word.taken.items (c.get.result ∷ []) (drop (i + 1) words)
    ∙ ap (λ (x : ℕ). c.loop-word.taken.items ++ x ∷ drop (i + 1) words) c.get.ensures
    ∙ ap (λ (l : List ℕ). c.loop-word.taken.items ++ l) (sym next)
    ∙ c.loop-word.invariant

pub returns-clause-taken : goal.returns-clause-taken
returns-clause-taken c =
    let words = c.args.self.now in
    let kept = c.self.inside.kept.items in
    let count = c.self.inside.count in
    let size : length words ≡ count = ap length (sym c.self.view_is) ∙ length-filled kept count ∙ omega (arith, c.self.invariant.0) in
    let none : drop c.loop-word.word words ≡ [] = drop_all c.loop-word.word words (omega (arith, size, c.loop-word-test.false)) in
    sym (append-nil c.loop-word.taken.items) ∙ ap (λ (l : List ℕ). c.loop-word.taken.items ++ l) (sym none) ∙ c.loop-word.invariant
