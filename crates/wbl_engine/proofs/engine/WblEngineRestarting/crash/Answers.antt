use Rattle.wbl_engine.proofs.CrashLemmas.{crash_image, crash_moments, crash_picked, has_crashed}
use Rattle.wbl_engine.proofs.engine.WblEngineRestarting.crash.Goals as goal

pub returns-clause-image : goal.returns-clause-image
returns-clause-image g c = crash_image (has_crashed c.keep_at.ensures c.crash.ensures.restarts c.crash.ensures.within)

pub returns-clause-picked : goal.returns-clause-picked
returns-clause-picked g c = crash_picked c.args.picks.now (has_crashed c.keep_at.ensures c.crash.ensures.restarts c.crash.ensures.within) c.crash.ensures.picked

pub returns-clause-moments : goal.returns-clause-moments
returns-clause-moments g c = crash_moments (has_crashed c.keep_at.ensures c.crash.ensures.restarts c.crash.ensures.within)
