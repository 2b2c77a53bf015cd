-- What a run of the pair over two new devices keeps.
use Rattle.std.specs.Prelude.{◌≡◌, List, ◌∷◌, []}
use Rattle.machine.specs.declared.event.Event.{Event}
use Rattle.pmem.specs.declared.sim.SimPmem.{SimPmem}
use Rattle.pmem.specs.Sim.{state_of, fresh}
use Rattle.world.specs.declared.trace.Trace.{Trace}
use Rattle.world.specs.Headline.{KeepsItsWord, devices_of, given_by}

-- The devices come back, and the run kept its word of what they held, new as they were, and of what they hold.
pub record KeepsPromise (events : List Event) (trace : Trace SimPmem) : Type 0 where
  pub primary : SimPmem
  pub standby : SimPmem
  pub devices : trace.devices.items ≡ primary ∷ standby ∷ []
  pub word : KeepsItsWord events trace.ended (given_by trace.done.items trace.history) (devices_of (fresh 4096) (fresh 4096)) (devices_of (state_of primary) (state_of standby))
