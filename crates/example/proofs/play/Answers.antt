use Rattle.std.proofs.Common.{◌≡◌, subst, [], List}
use Rattle.machine.specs.declared.event.Event.{Event}
use Rattle.pmem.specs.Device.{State}
use Rattle.pmem.specs.declared.sim.SimPmem.{SimPmem}
use Rattle.pmem.specs.Sim.{state_of, fresh}
use Rattle.world.specs.declared.trace.Trace.{Trace}
use Rattle.world.specs.Headline.{KeepsItsWord, devices_of, given_by}
use Rattle.example.proofs.play.Goals as goal

-- a run over devices in these states, which leaves these, keeps its word
abbrev KeepsFrom : List Event → Trace SimPmem → SimPmem → SimPmem → State → State → Type 0
KeepsFrom events trace primary' standby' primary standby =
    KeepsItsWord events trace.ended (given_by trace.done.items trace.history) (devices_of primary standby) (devices_of (state_of primary') (state_of standby'))

pub returns : goal.returns
returns c =
    let trace = c.run.result in
    let kept = c.run.ensures.kept c.in_ok-primary.primary c.in_ok-standby.standby [] c.in_ok-devices.ensures.items in
    record {
      primary = kept.0;
      standby = kept.1;
      devices = kept.2;
      word = subst (λ (primary : State). KeepsFrom c.args.events.now trace kept.0 kept.1 primary (fresh 4096)) c.in_ok-primary.ensures
          (subst (λ (standby : State). KeepsFrom c.args.events.now trace kept.0 kept.1 (state_of c.in_ok-primary.primary) standby) c.in_ok-standby.ensures kept.3);
    }
