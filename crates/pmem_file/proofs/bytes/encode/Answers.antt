use Rattle.std.proofs.Common.{◌≡◌, ℕ, ◌++◌, List, take, get_or, true, not, is_ok, sym, ap, ◌∙◌, arith}
use Rattle.std.proofs.lemmas.List.{take_more, take_all}
use Rattle.pmem_file.specs.Byte.{bytes_of}
use Rattle.pmem_file.proofs.BytesLemmas.{bytes_of-more}
use Rattle.pmem_file.proofs.bytes.encode.Goals as goal

pub loop-word-preserved : goal.loop-word-preserved
loop-word-preserved c =
    let words = c.args.words.now in
    let i = c.loop-word.word-index in
    let done : is_ok c.extend_from_slice.result ≡ true = c.is_err.ensures.negation ∙ ap not c.if-is_err.false in (
      (rw done at c.extend_from_slice.ensures.items) ∙ ap (λ (bytes : List ℕ). bytes ++ c.to_le_bytes.result) c.loop-word.invariant.0
          ∙ ap (λ (bytes : List ℕ). bytes_of (take i words) ++ bytes) c.to_le_bytes.ensures
          ∙ sym (bytes_of-more (take i words) (get_or words i 0))
          ∙ ap bytes_of (sym (take_more words i 0 c.loop-word-test.true)),
      omega (arith, rw done at c.extend_from_slice.ensures.len, c.loop-word.invariant.1),
      omega (arith, c.extend_from_slice.ensures.capacity, c.loop-word.invariant.2),
    )

pub returns-clause-bytes : goal.returns-clause-bytes
returns-clause-bytes c = c.loop-word.invariant.0 ∙ ap bytes_of (take_all c.loop-word.word-index c.args.words.now c.loop-word-test.false)
