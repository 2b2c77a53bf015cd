use Rattle.std.proofs.Common.{refl}
use Rattle.world.proofs.PairFailing.{primary-asked}
use Rattle.world.proofs.pair.Pair.fail_primary.Goals as goal

pub returns-clause-does : goal.returns-clause-does
returns-clause-does g c = λ history.
    let told = c.fail_at.ensures in
    primary-asked _ _ c.args.n c.requires (cc (told.work, told.aside, told.stage, told.local, told.asked, told.contents, told.faulted))

pub returns-clause-leaves : goal.returns-clause-leaves
returns-clause-leaves g c = λ history. record { primary = λ idle. cc; standby = λ idle. refl; frames = refl; acknowledgements = refl; effect = c.fail_at.ensures.asked }
