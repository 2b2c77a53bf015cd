use Rattle.std.proofs.Common.{◌≡◌, ℕ, ◌+◌, ◌*◌, ◌/◌, ◌%◌, ◌≤◌, List, length, vec_len, sym, ap, ◌∙◌, arith, length-append}
use Rattle.std.specs.Int.{div_ceil}
use Rattle.pmem_file.specs.declared.run.TheConstants.{LINES_A_WRITE}
use Rattle.pmem_file.specs.Byte.{words_in}
use Rattle.pmem_file.specs.Opening.{steps_of, with_block, with_blocks}
use Rattle.pmem_file.proofs.BytesLemmas.{length-words_in}
use Rattle.pmem_file.proofs.OpeningLemmas.{with_blocks-next}
use Rattle.pmem_file.proofs.reading.read_words.Goals as goal

pub loop-number-preserved : goal.loop-number-preserved
loop-number-preserved c =
    let number = c.loop-number.number in
    let words = c.loop-number.words in
    let bytes = c.deref.result.now in
    let before = steps_of c.args.opening.now.calls in
    let steps = steps_of c.loop-number.opening.calls in
    let offset = 64 * (LINES_A_WRITE * number) in
    let below : 1024 * number + 1 ≤ c.args.lines = omega (arith, c.loop-number-test.true, c.div_ceil-number-end.ensures) in
    let block : vec_len c.read_block.new.block ≡ 64 * c.min-count.result =
    omega (arith, c.read_block.ensures.length, c.truncate.ensures.len, c.min-count.ensures, c.loop-number.invariant.block) in
    let size : length bytes ≡ 64 * c.min-count.result = ap length c.deref.ensures.value ∙ omega (arith, block, c.read_block.new.block.ok.0) in
    let is : length words ≡ 8 * (LINES_A_WRITE * number) = omega (arith, below, c.loop-number.invariant.count) in
    let many : length (words_in bytes) ≡ length bytes / 8 = length-words_in bytes in
    let grown : length c.add.new.self ≡ length words + length (words_in bytes) = ap length c.in_ok-add.ensures.words ∙ length-append words (words_in bytes) in
    let short : length (words_in bytes) ≤ 8 * LINES_A_WRITE = omega (arith, many, size, c.min-count.ensures) in
    let whole : length bytes % 8 ≡ 0 = omega (arith, size) in
    let asked : steps_of c.read_block.new.self.calls ≡ with_block c.args.writes_back offset bytes steps =
    c.read_block.ensures.noted c.if-not-read_block.false
    ∙ ap (λ (held : List ℕ). with_block c.args.writes_back offset held steps) (sym c.deref.ensures.value) in
    record {
      count = omega (arith, below, grown, many, size, c.min-count.ensures, c.loop-number.invariant.count);
      block = omega (arith, block, c.min-count.ensures);
      read =
          asked
          ∙ with_blocks-next c.args.writes_back words bytes number before steps is short (c.in_ok-add.ensures.whole whole) c.loop-number.invariant.read
          ∙ ap (λ (now : List ℕ). with_blocks c.args.writes_back now (number + 1) before) (sym c.in_ok-add.ensures.words);
    }

pub returns-clause-noted : goal.returns-clause-noted
returns-clause-noted c =
    let end : c.loop-number.number ≡ div_ceil c.args.lines LINES_A_WRITE =
    omega (arith, c.loop-number-test.false, c.loop-number.auto.number-end, c.div_ceil-number-end.ensures) in
    c.loop-number.invariant.read
    ∙ ap (λ (blocks : ℕ). with_blocks c.args.writes_back c.loop-number.words blocks (steps_of c.args.opening.now.calls)) end
