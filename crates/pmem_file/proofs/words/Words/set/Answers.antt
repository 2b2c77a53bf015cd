use Rattle.std.proofs.Common.{◌≡◌, ℕ, ◌+◌, ◌-◌, ◌<◌, ◌++◌, List, length, replicate, set, sym, ap, ◌∙◌, arith}
use Rattle.std.proofs.lemmas.List.{set-append_left, length-set}
use Rattle.pmem_file.proofs.WordsLemmas.{whole, whole-filled, length-filled}
use Rattle.pmem_file.proofs.words.Words.set.Goals as goal

pub returns : goal.returns
returns c =
    let kept = c.self.inside.kept.items in
    let count = c.self.inside.count in
    let word = c.args.word in
    let value = c.args.value in
    let filled = c.fill.new.words.items in
    let size : length c.args.self.now ≡ count = ap length (sym c.self.view_is) ∙ length-filled kept count ∙ omega (arith, c.self.invariant.0) in
    let below : word < count = omega (arith, c.requires, size) in
    let within : word < length filled = omega (arith, ap length c.fill.ensures.items, length-filled kept (word + 1)) in
    ap (λ (n : ℕ). set filled word value ++ replicate (count - n) 0) (length-set filled word value)
    ∙ sym (set-append_left filled (replicate (count - length filled) 0) word value within)
    ∙ ap (λ (words : List ℕ). set words word value)
    (ap (λ (xs : List ℕ). whole xs count) c.fill.ensures.items
    ∙ whole-filled kept count (word + 1) c.self.invariant.0 (omega (arith, below))
    ∙ c.self.view_is)
