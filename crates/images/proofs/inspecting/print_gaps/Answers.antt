use Rattle.std.proofs.Common.{sym, subst}
use Rattle.std.proofs.KnownBytes.{Appends-trans}
use Rattle.std.specs.Io.KnownBytes.{Appends}
use Rattle.images.proofs.PrintedLemmas.{gaps-more}
use Rattle.images.proofs.inspecting.print_gaps.Goals as goal

pub loop-gap-preserved : goal.loop-gap-preserved
loop-gap-preserved g c =
    subst (Appends (g.W.Write.contents c.args.writer.now) (g.W.Write.contents c.print_gap.new.writer)) (sym (gaps-more c.args.gaps.now c.loop-gap.gap-index (record { first = 0; last = 0 }) c.loop-gap-test.true))
    (Appends-trans _ _ _ _ _ c.loop-gap.invariant c.in_ok-print_gap.ensures)
