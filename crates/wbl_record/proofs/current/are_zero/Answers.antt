use Rattle.std.proofs.Common.{sym, ◌∙◌, arith}
use Rattle.pmem.specs.Crash.{image_of}
use Rattle.model.proofs.ReadRecordLemmas.{AreZero-more, AreZero-at}
use Rattle.wbl_record.proofs.current.are_zero.Goals as goal

pub returns-then-load-ne0 : goal.returns-then-load-ne0
returns-then-load-ne0 g c =
    let image = image_of (g.P.Pmem.state c.args.device.now).words in
    (λ e. cc, λ zeros. absurd (c.if-load-ne0.true (c.load.ensures ∙ AreZero-at image c.args.first c.loop-k.k c.args.count (omega arith) zeros)))

pub loop-k-preserved : goal.loop-k-preserved
loop-k-preserved g c =
    AreZero-more (image_of (g.P.Pmem.state c.args.device.now).words) c.args.first c.loop-k.k c.loop-k.invariant (sym c.load.ensures ∙ c.if-load-ne0.false)
