use Rattle.world.proofs.pair.Pair.reopen_or_stop.Goals as goal

pub returns-in-Primary : goal.returns-in-Primary
returns-in-Primary g c = rw c.in-Primary.is c.reopen_primary_or_stop.ensures

pub returns-in-Standby : goal.returns-in-Standby
returns-in-Standby g c = rw c.in-Standby.is c.reopen_standby_or_stop.ensures
