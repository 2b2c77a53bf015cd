use Rattle.std.proofs.Common.{refl}
use Rattle.world.proofs.PairStopping.{fault-breaks, opening-breaks-in, primary-stops}
use Rattle.world.proofs.StepLemmas.{acts-is}
use Rattle.world.proofs.pair.Pair.reopen_primary_or_stop.Goals as goal

pub reopen_primary-result-requires : goal.reopen_primary-result-requires
reopen_primary-result-requires g c = (c.args.history.now, c.requires.world)

pub returns-then-is_fault : goal.returns-then-is_fault
returns-then-is_fault g c =
    rw c.stop_primary.ensures
    (primary-stops _ _ opening-breaks-in (fault-breaks (c.is_fault.ensures.0 c.if-is_fault.true) c.reopen_primary-result.ensures.broken c.args.history.now) c.if-self.true c.requires.world)

pub returns : goal.returns
returns g c =
    let came = c.reopen_primary-result.ensures in
    acts-is refl (came.does c.args.history.now) (came.leaves c.args.history.now)
