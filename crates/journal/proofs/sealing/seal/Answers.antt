use Rattle.std.proofs.Common.{◌≡◌, ℕ, suc, ◌+◌, List, [], ◌∷◌, ◌++◌, length, drop, set, get_or, sym, ap, ◌∙◌, arith}
use Rattle.std.proofs.lemmas.List.{set_at}
use Rattle.journal.specs.Record.{zeros, lines_of}
use Rattle.journal.proofs.RecordLemmas.{added-words, drop-two}
use Rattle.journal.proofs.sealing.seal.Goals as goal

pub returns-clause-words : goal.returns-clause-words
returns-clause-words c =
    let numbers = c.args.numbers.now in
    let old = c.args.words.now.items in
    let image = λ (word : ℕ). get_or c.args.image.now word 0 in
    let n = length numbers in
    let lines = lines_of image numbers in
    let body = numbers ++ lines in
    let items : c.push_lines.new.words.items ≡ old ++ 0 ∷ n ∷ body =
    c.push_lines.ensures.words
    ∙ ap (λ (l : List ℕ). l ++ lines)
    (c.push_all.ensures.words ∙ ap (λ (l : List ℕ). l ++ numbers) (c.push_reserved-2.ensures.items ∙ ap (λ (l : List ℕ). l ++ n ∷ []) c.push_reserved.ensures.items))
    ∙ added-words old numbers lines n in
    let at : length old ≡ c.len-at.result = omega (arith, c.len-at.ensures) in
    let behind : c.split_at.result.1.now ≡ body =
    c.split_at.ensures.back ∙ ap (λ (l : List ℕ). drop (c.len-at.result + 2) l) (c.as_slice.ensures.value ∙ items) ∙ ap (λ (k : ℕ). drop (k + 2) (old ++ 0 ∷ n ∷ body)) (sym at)
    ∙ drop-two old body 0 n in
    let count : 1 + c.count_zeros.result ≡ suc (zeros body) = omega (arith, c.count_zeros.ensures.value ∙ ap zeros behind) in
    ap (λ (l : List ℕ). set l c.len-at.result (1 + c.count_zeros.result)) items
    ∙ set_at old 0 (n ∷ body) (1 + c.count_zeros.result) c.len-at.result at
    ∙ ap (λ (k : ℕ). old ++ k ∷ n ∷ body) count
