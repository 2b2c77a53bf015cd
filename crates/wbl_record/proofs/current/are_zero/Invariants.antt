use Rattle.pmem.specs.Crash.{image_of}
use Rattle.model.specs.ReadImage.{AreZero}
use Rattle.wbl_record.proofs.current.are_zero.Given as goal

abbrev pub invariant-loop-k : goal.invariant-loop-k
invariant-loop-k g l = AreZero (image_of (g.P.Pmem.state l.device).words) l.first l.k
