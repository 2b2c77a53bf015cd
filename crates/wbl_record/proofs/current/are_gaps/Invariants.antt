use Rattle.std.proofs.Common.{◌↔◌, drop}
use Rattle.wbl_record.specs.Current.{AreGaps}
use Rattle.wbl_record.proofs.current.are_gaps.Given as goal

abbrev pub invariant-loop-gap : goal.invariant-loop-gap
invariant-loop-gap l = AreGaps 0 l.gaps l.cp ↔ AreGaps l.low (drop l.gap-index l.gaps) l.cp
