use Rattle.std.proofs.Common.{arith, lit<}
use Rattle.model.proofs.LayoutLemmas.{gaps_fit}
use Rattle.wbl_engine.proofs.reopening.with_open_gap.Goals as goal

pub push-requires : goal.push-requires
push-requires c = (lit< tt, omega (arith, c.requires.room, gaps_fit c.args.current.layout))
