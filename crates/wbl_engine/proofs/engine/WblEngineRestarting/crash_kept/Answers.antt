use Rattle.wbl_engine.proofs.CrashLemmas.{kept_left, kept_moments, unkept_left}
use Rattle.wbl_engine.proofs.engine.WblEngineRestarting.crash_kept.Goals as goal

pub returns-clause-left : goal.returns-clause-left
returns-clause-left g c = kept_left (g.P.Pmem.state c.args.self.now.device) (g.P.Pmem.state c.crash.new.self) c.crash.ensures.within

pub returns-clause-unkept : goal.returns-clause-unkept
returns-clause-unkept g c = unkept_left (g.P.Pmem.state c.args.self.now.device) (g.P.Pmem.state c.crash.new.self) c.crash.ensures.within

pub returns-clause-moments : goal.returns-clause-moments
returns-clause-moments g c = kept_moments c.crash.ensures.restarts
