use Rattle.std.proofs.Common.{rules}
use Rattle.marks.proofs.Gauges.{sets}
use Rattle.marks.proofs.gauge.GaugeSetter.set.Goals as goal

pub store-requires : goal.store-requires
store-requires c = (search rules, search rules, sets _ _ _ _ _)
