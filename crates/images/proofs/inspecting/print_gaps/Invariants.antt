use Rattle.std.specs.Prelude.{take}
use Rattle.std.specs.Io.KnownBytes.{Appends}
use Rattle.images.specs.Printed.{gap_lines}
use Rattle.images.proofs.inspecting.print_gaps.Given as goal

abbrev pub invariant-loop-gap : goal.invariant-loop-gap
invariant-loop-gap g l = Appends (g.W.Write.contents l.initial.writer) (g.W.Write.contents l.writer) (gap_lines (take l.gap-index l.gaps))
