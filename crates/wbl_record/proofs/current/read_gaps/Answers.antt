use Rattle.std.proofs.Common.{◌≡◌, ◌+◌, ◌*◌, length, ap, sym, ◌∙◌, arith, lit<, ◌++◌, ◌∷◌, []}
use Rattle.pmem.specs.Crash.{image_of}
use Rattle.model.specs.declared.record.Gap.{Gap}
use Rattle.model.specs.ReadImage.{gaps_from}
use Rattle.model.proofs.LayoutLemmas.{gaps_fit}
use Rattle.model.proofs.ReadRecordLemmas.{pair_at, length-gaps_from, gaps_from-more}
use Rattle.wbl_record.proofs.current.read_gaps.Goals as goal

pub push-requires : goal.push-requires
push-requires g c =
    let image = image_of (g.P.Pmem.state c.args.device.now).words in
    let count = ap length c.loop-k.invariant ∙ length-gaps_from image c.args.first c.loop-k.k in
    (lit< tt, omega (arith, gaps_fit c.args.layout))

pub loop-k-preserved : goal.loop-k-preserved
loop-k-preserved g c =
    let image = image_of (g.P.Pmem.state c.args.device.now).words in
    let gap : Gap = record { first = c.load.result; last = c.load-in-loop-k.result } in
    let first : c.load.result ≡ image (c.args.first + 2 * c.loop-k.k) = c.load.ensures in
    let last : c.load-in-loop-k.result ≡ image (c.args.first + 2 * c.loop-k.k + 1) = c.load-in-loop-k.ensures in
    let same : gap ≡ pair_at image (c.args.first + 2 * c.loop-k.k) = λ i. record { first = first i; last = last i } in
    c.push.ensures.items ∙ ap (λ gaps. gaps ++ gap ∷ []) c.loop-k.invariant
    ∙ ap (λ pair. gaps_from image c.args.first c.loop-k.k ++ pair ∷ []) same ∙ sym (gaps_from-more image c.args.first c.loop-k.k)
