use Rattle.std.proofs.Common.{ap}
use Rattle.pmem.specs.Device.{State}
use Rattle.wbl_engine.proofs.CrashLemmas.{half_asked, rest_asked}
use Rattle.wbl_engine.proofs.engine.WblEngineRestarting.fail_at.Goals as goal

pub invariant_of-self : goal.invariant_of-self
invariant_of-self g c =
    let self = c.args.self.now in
    record {
      at_rest = λ sound idle. rest_asked self.current (g.P.Pmem.state self.device) (g.P.Pmem.state c.fail_at.new.self) (ap (λ (d : State). d.words) c.fail_at.ensures) (ap (λ (d : State). d.lines) c.fail_at.ensures) (self.at_rest sound idle);
      half = λ sound begun. half_asked self.current (g.P.Pmem.state self.device) (g.P.Pmem.state c.fail_at.new.self) (ap (λ (d : State). d.words) c.fail_at.ensures) (ap (λ (d : State). d.lines) c.fail_at.ensures) (self.half sound begun);
      synced = λ sound. g.met.P.Crashing.durable c.fail_at.new.self;
    }
