use Rattle.std.proofs.Common.{◌≡◌, ℕ, ◌+◌, ◌*◌, ◌≤◌, List, length, drop, get_or, sym, ap, ◌∙◌, arith}
use Rattle.std.proofs.lemmas.List.{drop-drop, drop_all}
use Rattle.journal.specs.Replay.{with_lines}
use Rattle.journal.proofs.ReplayLemmas.{with_lines-more}
use Rattle.journal.proofs.replaying.put_lines.Goals as goal

pub loop-number-preserved : goal.loop-number-preserved
loop-number-preserved c =
    let numbers = c.args.numbers.now in
    let words = c.args.words.now in
    let i = c.loop-number.number-index in
    let rest = c.loop-number.rest.now in
    let next : 8 * i + 8 ≡ 8 * (i + 1) = omega arith in (
      λ word.
          with_lines-more numbers rest c.split_at.result.0.now c.split_at.result.1.now i (λ w. get_or c.loop-number.image.items w 0)
          (λ w. get_or c.put_line.new.image.items w 0) c.loop-number-test.true c.split_at.ensures.front c.split_at.ensures.back c.put_line.ensures.image word
          ∙ c.loop-number.invariant.0 word,
      c.split_at.ensures.back ∙ ap (drop 8) c.loop-number.invariant.1 ∙ drop-drop 8 (8 * i) words ∙ ap (λ (k : ℕ). drop k words) next,
      c.put_line.ensures.capacity ∙ c.loop-number.invariant.2,
    )

pub returns-clause-image : goal.returns-clause-image
returns-clause-image c word =
    let numbers = c.args.numbers.now in
    let i = c.loop-number.number-index in
    let past : length numbers ≤ i = omega (arith, c.loop-number-test.false) in
    sym (ap (λ (ns : List ℕ). with_lines ns c.loop-number.rest.now (λ w. get_or c.loop-number.image.items w 0) word) (drop_all i numbers past))
    ∙ c.loop-number.invariant.0 word
