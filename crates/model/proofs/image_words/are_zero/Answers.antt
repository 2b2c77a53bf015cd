use Rattle.std.proofs.Common.{sym, ◌∙◌, arith}
use Rattle.model.specs.ReadImage.{image_of}
use Rattle.model.proofs.ReadRecordLemmas.{AreZero-more, AreZero-at}
use Rattle.model.proofs.image_words.are_zero.Goals as goal

pub returns-then-word_at-ne0 : goal.returns-then-word_at-ne0
returns-then-word_at-ne0 c =
    let image = image_of c.args.words.now in
    (λ e. cc, λ zeros. absurd (c.if-word_at-ne0.true (c.word_at.ensures ∙ AreZero-at image c.args.first c.loop-k.k c.args.count (omega arith) zeros)))

pub loop-k-preserved : goal.loop-k-preserved
loop-k-preserved c = AreZero-more (image_of c.args.words.now) c.args.first c.loop-k.k c.loop-k.invariant (sym c.word_at.ensures ∙ c.if-word_at-ne0.false)
