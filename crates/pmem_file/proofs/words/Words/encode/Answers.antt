use Rattle.std.proofs.Common.{◌≡◌, ℕ, ◌<◌, ◌++◌, List, length, take, drop, get_or, w64, true, not, is_ok, sym, ap, ◌∙◌, arith}
use Rattle.std.specs.Int.{to_le_bytes}
use Rattle.std.proofs.lemmas.List.{take_more, get_or-drop, length-drop}
use Rattle.pmem_file.specs.Byte.{bytes_of}
use Rattle.pmem_file.proofs.BytesLemmas.{bytes_of-more}
use Rattle.pmem_file.proofs.words.Words.encode.Goals as goal

pub loop-i-preserved : goal.loop-i-preserved
loop-i-preserved c =
    let words = c.args.self.now in
    let rest = drop c.args.first words in
    let i = c.loop-i.i in
    let within : i < length rest = omega (arith, c.loop-i-test.true, c.requires.within, length-drop c.args.first words) in
    let done : is_ok c.extend_from_slice.result ≡ true = c.is_err.ensures.negation ∙ ap not c.if-is_err.false in
    let value : c.get.result ≡ get_or rest i 0 = c.get.ensures ∙ sym (get_or-drop c.args.first words i 0) in (
      (rw done at c.extend_from_slice.ensures.items) ∙ ap (λ (bytes : List ℕ). bytes ++ c.to_le_bytes.result) c.loop-i.invariant.0
          ∙ ap (λ (bytes : List ℕ). bytes_of (take i rest) ++ bytes) (c.to_le_bytes.ensures ∙ ap (to_le_bytes w64) value)
          ∙ sym (bytes_of-more (take i rest) (get_or rest i 0))
          ∙ ap bytes_of (sym (take_more rest i 0 within)),
      omega (arith, rw done at c.extend_from_slice.ensures.len, c.loop-i.invariant.1),
      omega (arith, c.extend_from_slice.ensures.capacity, c.loop-i.invariant.2),
    )
