use Rattle.wbl_engine.proofs.CrashLemmas.{half_asked, rest_asked}
use Rattle.wbl_engine.proofs.engine.WblEngineRestarting.keep_at.Goals as goal

pub invariant_of-self : goal.invariant_of-self
invariant_of-self g c =
    let self = c.args.self.now in
    record {
      at_rest = λ sound idle. rest_asked self.current (g.P.Pmem.state self.device) (g.P.Pmem.state c.keep_at.new.self) (c.keep_at.ensures.words) (c.keep_at.ensures.lines) (self.at_rest sound idle);
      half = λ sound begun. half_asked self.current (g.P.Pmem.state self.device) (g.P.Pmem.state c.keep_at.new.self) (c.keep_at.ensures.words) (c.keep_at.ensures.lines) (self.half sound begun);
      synced = λ sound. g.met.P.Crashing.durable c.keep_at.new.self;
    }
