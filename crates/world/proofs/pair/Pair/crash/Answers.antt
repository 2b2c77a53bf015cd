use Rattle.world.proofs.pair.Pair.crash.Goals as goal

pub returns-in-Primary : goal.returns-in-Primary
returns-in-Primary g c = rw c.in-Primary.is c.crash_primary.ensures

pub returns-in-Standby : goal.returns-in-Standby
returns-in-Standby g c = rw c.in-Standby.is c.crash_standby.ensures
