use Rattle.wbl_engine.proofs.ClearingLemmas.{AreStamped, stamped_lines}
use Rattle.wbl_engine.proofs.ErasedGap.{are_stamped, gap_moments, gap_readable, gap_cleared}
use Rattle.wbl_engine.proofs.Readable.{unchanged_stays}
use Rattle.wbl_engine.proofs.reopening.erase_gap.Goals as goal
use Rattle.wbl_engine.proofs.reopening.erase_gap.Given.{Over}
use Rattle.wbl_engine.proofs.reopening.erase_gap.Goals.{After-as_slice-2}

stamped : (g : Over) (c : After-as_slice-2 g) → AreStamped c.args.current.now (g.P.Pmem.state c.args.device.now) c.as_slice.result.now c.as_slice-2.result.now
stamped g c =
    are_stamped c.requires.readable c.requires.some c.oldest_gap.ensures c.in_ok-stamped.ensures.begins c.in_ok-stamped.ensures.ends
    c.as_slice.ensures.value c.as_slice-2.ensures.value

pub returns-in_err-stamped-clause-moments : goal.returns-in_err-stamped-clause-moments
returns-in_err-stamped-clause-moments g c = unchanged_stays c.requires.readable

pub erase_stamps-requires-clause-begins : goal.erase_stamps-requires-clause-begins
erase_stamps-requires-clause-begins g c =
    let are = stamped g (goal.at.erase_stamps-requires-clause-begins g c).After-as_slice-2 in
    (stamped_lines are c.requires.readable.many).0

pub erase_stamps-requires-clause-ends : goal.erase_stamps-requires-clause-ends
erase_stamps-requires-clause-ends g c =
    let are = stamped g (goal.at.erase_stamps-requires-clause-ends g c).After-as_slice-2 in
    (stamped_lines are c.requires.readable.many).1

pub returns-in-Ok-clause-readable : goal.returns-in-Ok-clause-readable
returns-in-Ok-clause-readable g c =
    let are = stamped g (goal.at.returns-in-Ok-clause-readable g c).After-as_slice-2 in
    gap_readable c.requires.readable are c.in-Ok.ensures.ok

pub returns-in-Ok-clause-cleared : goal.returns-in-Ok-clause-cleared
returns-in-Ok-clause-cleared g c =
    let are = stamped g (goal.at.returns-in-Ok-clause-cleared g c).After-as_slice-2 in
    gap_cleared c.requires.readable are c.in-Ok.ensures.ok

pub returns-in-Ok-clause-moments : goal.returns-in-Ok-clause-moments
returns-in-Ok-clause-moments g c =
    let are = stamped g (goal.at.returns-in-Ok-clause-moments g c).After-as_slice-2 in
    gap_moments c.requires.readable are c.in-Ok.ensures.ok.moments

pub returns-clause-moments : goal.returns-clause-moments
returns-clause-moments g c =
    let are = stamped g (goal.at.returns-clause-moments g c).After-as_slice-2 in
    gap_moments c.requires.readable are c.in-Err.ensures.err.moments
