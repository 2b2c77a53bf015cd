use Rattle.std.proofs.Common.{refl}
use Rattle.world.proofs.PairLemmas.{read-does}
use Rattle.world.proofs.pair.Pair.read.Goals as goal

pub returns-clause-does : goal.returns-clause-does
returns-clause-does g c = λ history. read-does c.args.c c.args.mark c.local.result c.args.self.now.remote _ c.read.new.self c.read.result c.local.ensures refl (c.read.ensures.goes history.transcript) c.read.ensures.seats
