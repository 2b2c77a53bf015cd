use Rattle.std.proofs.Common.{refl}
use Rattle.world.proofs.PairLink.{raise-does}
use Rattle.world.proofs.pair.Pair.raise_remote.Goals as goal

pub returns-clause-does : goal.returns-clause-does
returns-clause-does g c = λ history. raise-does _ c.known-known.result _ c.known-known.ensures refl
