use Rattle.std.proofs.Common.{◌*◌, ◌++◌, ◌∷◌, [], sym, ap, ◌∙◌, take, append_assoc, arith, get_or}
use Rattle.std.specs.List.{flat_map}
use Rattle.model.specs.declared.record.Gap.{Gap}
use Rattle.model.specs.Image.{gap_words}
use Rattle.wbl_record.proofs.RecordWords.{no_gap, zeros, gaps_words-more}
use Rattle.wbl_record.proofs.record.push_gaps.Goals as goal

pub loop-k-preserved : goal.loop-k-preserved
loop-k-preserved c =
    let gaps = c.args.gaps.now.items in
    let before = c.args.words.now.items in
    let all = flat_map gap_words gaps ++ zeros (2 * c.args.room) in
    let done = take (2 * c.loop-k.k) all in
    let gap = get_or gaps c.loop-k.k no_gap in
    c.push-in-loop-k.ensures.items ∙ ap (λ words. words ++ c.gap_at-gap.result.last ∷ []) (c.push.ensures.items ∙ ap (λ words. words ++ c.gap_at-gap.result.first ∷ []) c.loop-k.invariant)
    ∙ append_assoc (before ++ done) (c.gap_at-gap.result.first ∷ []) (c.gap_at-gap.result.last ∷ [])
    ∙ ap (λ (g : Gap). (before ++ done) ++ g.first ∷ g.last ∷ []) c.gap_at-gap.ensures
    ∙ append_assoc before done (gap.first ∷ gap.last ∷ [])
    ∙ ap (λ words. before ++ words) (sym (gaps_words-more gaps (2 * c.args.room) c.loop-k.k (omega arith)))
