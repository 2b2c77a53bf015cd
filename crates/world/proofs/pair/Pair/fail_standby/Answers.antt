use Rattle.std.proofs.Common.{refl}
use Rattle.world.proofs.PairFailing.{standby-asked}
use Rattle.world.proofs.pair.Pair.fail_standby.Goals as goal

pub returns-clause-does : goal.returns-clause-does
returns-clause-does g c = λ history.
    standby-asked _ _ c.args.n c.requires cc

pub returns-clause-leaves : goal.returns-clause-leaves
returns-clause-leaves g c = λ history. record { primary = λ idle. refl; standby = λ idle. cc; frames = refl; acknowledgements = refl; effect = c.fail_at.ensures.asked }
