use Rattle.pmem.specs.Crash.{image_of}
use Rattle.pmem.specs.Runs.{LeavesOnly}
use Rattle.wbl_engine.specs.Reopening.{StaysReadable}
use Rattle.wbl_engine.proofs.ErasedGap.{IsWithoutGap, without_gap, without_succeeded, without_readable, without_cleared, without_moments}
use Rattle.wbl_engine.proofs.reopening.clear_oldest.Goals as goal
use Rattle.wbl_engine.proofs.reopening.clear_oldest.Given.{Over}
use Rattle.wbl_engine.proofs.reopening.clear_oldest.Goals.{After-write_next}

without : (g : Over) (c : After-write_next g) → IsWithoutGap c.args.current c.without_oldest_gap-next.result (g.P.Pmem.state c.args.device.now) (g.P.Pmem.state c.erase_gap.new.device)
without g c =
    without_gap c.without_oldest_gap-next.ensures.next c.without_oldest_gap-next.ensures.lawful c.requires.readable c.requires.some
    c.in_ok-erase_gap.ensures.readable c.in_ok-erase_gap.ensures.cleared c.in_ok-erase_gap.ensures.lines

moments : (g : Over) (c : After-write_next g) → LeavesOnly (g.P.Pmem.state c.args.device.now) (g.P.Pmem.state c.write_next.new.device)
    (StaysReadable (g.P.Pmem.state c.args.device.now).lines c.args.current (image_of (g.P.Pmem.state c.args.device.now).words))
moments g c = without_moments (without g c) c.in_ok-erase_gap.ensures.moments (c.write_next.ensures.moments c.args.current (without_succeeded (without g c)))

pub returns-in-Ok-clause-readable : goal.returns-in-Ok-clause-readable
returns-in-Ok-clause-readable g c = without_readable (without g (goal.at.returns-in-Ok-clause-readable g c).After-write_next) c.in-Ok.ensures.ok

pub returns-in-Ok-clause-cleared : goal.returns-in-Ok-clause-cleared
returns-in-Ok-clause-cleared g c = without_cleared (without g (goal.at.returns-in-Ok-clause-cleared g c).After-write_next) c.in-Ok.ensures.ok

pub returns-in-Ok-clause-moments : goal.returns-in-Ok-clause-moments
returns-in-Ok-clause-moments g c = moments g (goal.at.returns-in-Ok-clause-moments g c).After-write_next

pub returns-in-Err-clause-moments : goal.returns-in-Err-clause-moments
returns-in-Err-clause-moments g c = moments g (goal.at.returns-in-Err-clause-moments g c).After-write_next
