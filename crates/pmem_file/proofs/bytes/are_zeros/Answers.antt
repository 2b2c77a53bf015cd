use Rattle.std.proofs.Common.{◌≡◌, ℕ, ◌+◌, ◌*◌, ◌/◌, ◌≤◌, List, ◌∷◌, ◌++◌, length, drop, replicate, sym, ap, ◌∙◌, arith}
use Rattle.std.proofs.lemmas.List.{append-nil, length-drop}
use Rattle.pmem_file.specs.Byte.{words_in}
use Rattle.pmem_file.proofs.BytesLemmas.{words_in-next, words_in-short}
use Rattle.pmem_file.proofs.WordsLemmas.{zeros-more, zero-behind}
use Rattle.pmem_file.proofs.bytes.are_zeros.Goals as goal

pub returns-then-word_at-ne0 : goal.returns-then-word_at-ne0
returns-then-word_at-ne0 c =
    let bytes = c.args.bytes.now in
    let i = c.loop-i.i in
    let room : 8 * i + 8 ≤ length bytes = omega (arith, c.loop-i-test.true) in
    let split : words_in bytes ≡ replicate i 0 ++ c.word_at.result ∷ words_in (drop (8 * i + 8) bytes) =
    c.loop-i.invariant ∙ ap (λ (xs : List ℕ). replicate i 0 ++ xs) (words_in-next bytes (8 * i) room ∙ ap (λ (w : ℕ). w ∷ words_in (drop (8 * i + 8) bytes)) (sym c.word_at.ensures)) in
    (λ e. absurd (cc), λ all. let none = zero-behind i (length bytes / 8) c.word_at.result (words_in (drop (8 * i + 8) bytes)) (sym split ∙ all) in absurd (omega (arith, none, c.if-word_at-ne0.true)))

pub loop-i-preserved : goal.loop-i-preserved
loop-i-preserved c =
    let bytes = c.args.bytes.now in
    let i = c.loop-i.i in
    let room : 8 * i + 8 ≤ length bytes = omega (arith, c.loop-i-test.true) in
    let none : c.word_at.result ≡ 0 = omega (arith, c.if-word_at-ne0.false) in
    let next : 8 * i + 8 ≡ 8 * (i + 1) = omega arith in
    c.loop-i.invariant
    ∙ ap (λ (xs : List ℕ). replicate i 0 ++ xs) (words_in-next bytes (8 * i) room ∙ ap (λ (w : ℕ). w ∷ words_in (drop (8 * i + 8) bytes)) (sym c.word_at.ensures ∙ none))
    ∙ zeros-more i (words_in (drop (8 * i + 8) bytes))
    ∙ ap (λ (k : ℕ). replicate (i + 1) 0 ++ words_in (drop k bytes)) next

pub returns : goal.returns
returns c =
    let bytes = c.args.bytes.now in
    let end : c.loop-i.i ≡ length bytes / 8 = omega (arith, c.loop-i-test.false, c.loop-i.auto.i-end) in
    let rest = words_in-short (drop (8 * c.loop-i.i) bytes) (omega (arith, c.loop-i-test.false, length-drop (8 * c.loop-i.i) bytes)) in
    let all : words_in bytes ≡ replicate (length bytes / 8) 0 =
    c.loop-i.invariant ∙ ap (λ (xs : List ℕ). replicate c.loop-i.i 0 ++ xs) rest ∙ append-nil (replicate c.loop-i.i 0) ∙ ap (λ (n : ℕ). replicate n 0) end in
    (λ e. all, λ e. cc)
