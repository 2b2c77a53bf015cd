use Rattle.std.proofs.Common.{ℕ, List, ◌++◌, take, get_or, ap, ◌∙◌, arith, append_assoc}
use Rattle.journal.specs.Record.{line_of, lines_of}
use Rattle.journal.proofs.ReplayLemmas.{lines_of-more}
use Rattle.journal.proofs.sealing.push_lines.Goals as goal

pub loop-number-preserved : goal.loop-number-preserved
loop-number-preserved c =
    let numbers = c.args.numbers.now in
    let old = c.args.words.now.items in
    let i = c.loop-number.number-index in
    let image = λ (word : ℕ). get_or c.args.image.now word 0 in
    let number = get_or numbers i 0 in (
      c.push_line.ensures.words ∙ ap (λ (l : List ℕ). l ++ line_of image number) c.loop-number.invariant.0
          ∙ append_assoc old (lines_of image (take i numbers)) (line_of image number)
          ∙ ap (λ (l : List ℕ). old ++ l) (lines_of-more image numbers i c.loop-number-test.true),
      omega (arith, c.push_line.ensures.count, c.loop-number.invariant.1),
      c.push_line.ensures.capacity ∙ c.loop-number.invariant.2,
    )
