use Rattle.std.proofs.Common.{◌≡◌, ◌+◌, ◌*◌, length, ap, ◌∙◌, arith, lit<}
use Rattle.model.specs.declared.record.Gap.{Gap}
use Rattle.model.specs.ReadImage.{image_of}
use Rattle.model.proofs.LayoutLemmas.{gaps_fit}
use Rattle.model.proofs.ReadRecordLemmas.{pair_at, length-gaps_from, gaps_from-more}
use Rattle.model.proofs.image_words.read_gaps.Goals as goal

pub push-requires : goal.push-requires
push-requires c =
    let count = ap length c.loop-k.invariant ∙ length-gaps_from (image_of c.args.words.now) c.args.first c.loop-k.k in
    (lit< tt, omega (arith, gaps_fit c.args.layout))

pub loop-k-preserved : goal.loop-k-preserved
loop-k-preserved c =
    let image = image_of c.args.words.now in
    let gap : Gap = record { first = c.word_at.result; last = c.word_at-in-loop-k.result } in
    let same : gap ≡ pair_at image (c.args.first + 2 * c.loop-k.k) = λ i. record { first = c.word_at.ensures i; last = c.word_at-in-loop-k.ensures i } in
    let more = gaps_from-more image c.args.first c.loop-k.k in
    let pushed = c.push.ensures.items in
    let before = c.loop-k.invariant in
    cc
