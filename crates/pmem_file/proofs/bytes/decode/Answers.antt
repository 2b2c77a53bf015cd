use Rattle.std.proofs.Common.{◌≡◌, ℕ, ◌+◌, ◌*◌, ◌≤◌, List, [], ◌∷◌, ◌++◌, length, drop, sym, ap, ◌∙◌, arith, append_assoc}
use Rattle.std.proofs.lemmas.List.{append-nil, length-drop}
use Rattle.pmem_file.specs.Byte.{words_in}
use Rattle.pmem_file.proofs.BytesLemmas.{words_in-next, words_in-short, bytes_of-words_in}
use Rattle.pmem_file.proofs.bytes.decode.Goals as goal

pub loop-i-preserved : goal.loop-i-preserved
loop-i-preserved c =
    let bytes = c.args.bytes.now in
    let words = c.loop-i.words.items in
    let at = 8 * c.loop-i.i in
    let room : at + 8 ≤ length bytes = omega (arith, c.loop-i-test.true) in
    record {
      words =
          ap (λ (k : ℕ). c.push.new.self.items ++ words_in (drop k bytes)) (let e : 8 * (c.loop-i.i + 1) ≡ at + 8 = omega arith in e)
          ∙ ap (λ (xs : List ℕ). xs ++ words_in (drop (at + 8) bytes)) c.in_ok-push.ensures.items
          ∙ append_assoc words (c.word_at.result ∷ []) (words_in (drop (at + 8) bytes))
          ∙ ap (λ (x : ℕ). words ++ x ∷ words_in (drop (at + 8) bytes)) c.word_at.ensures
          ∙ ap (λ (xs : List ℕ). words ++ xs) (sym (words_in-next bytes at room))
          ∙ c.loop-i.invariant.words;
      count = omega (arith, c.in_ok-push.ensures.len, c.loop-i.invariant.count);
    }

pub returns-clause-words : goal.returns-clause-words
returns-clause-words c =
    let bytes = c.args.bytes.now in
    let words = c.loop-i.words.items in
    let none = words_in-short (drop (8 * c.loop-i.i) bytes) (omega (arith, c.loop-i-test.false, length-drop (8 * c.loop-i.i) bytes)) in
    sym (append-nil words) ∙ ap (λ (xs : List ℕ). words ++ xs) (sym none) ∙ c.loop-i.invariant.words

pub returns-clause-whole : goal.returns-clause-whole
returns-clause-whole c whole = bytes_of-words_in c.args.bytes.now whole (λ k. (c.type_inv.bytes k).fits)
