use Rattle.std.proofs.Common.{◌≡◌}
use Rattle.pmem.specs.Crash.{image_of}
use Rattle.model.specs.ReadImage.{gaps_from}
use Rattle.wbl_record.proofs.current.read_gaps.Given as goal

abbrev pub invariant-loop-k : goal.invariant-loop-k
invariant-loop-k g l = l.gaps.items ≡ gaps_from (image_of (g.P.Pmem.state l.device).words) l.first l.k
