use Rattle.std.proofs.Common.{refl}
use Rattle.world.proofs.DeviceLemmas.{on-did}
use Rattle.world.proofs.PairClosing.{close-does}
use Rattle.world.proofs.pair.Pair.close_group.Goals as goal

pub returns-clause-does : goal.returns-clause-does
returns-clause-does g c = λ history.
    let closes = c.close.ensures in
    rw closes.committer (close-does _ c.close.new.back.work c.close.new.front.sequencer c.close.result closes.closed closes.none closes.cause closes.refused)

pub returns-clause-leaves : goal.returns-clause-leaves
returns-clause-leaves g c = λ history.
    rw c.close.ensures.committer
    (record { primary = λ idle. refl; standby = λ idle. refl; frames = refl; acknowledgements = refl; effect = on-did c.close.result c.close.ensures.closed (λ closes. closes.1) })
