use Rattle.std.proofs.Common.{◌<◌, length, subst, sym}
use Rattle.model.specs.declared.record.Record.{Record}
use Rattle.model.specs.Layout.{max_gaps}
use Rattle.wbl_engine.specs.Reopening.{is_cleared}
use Rattle.wbl_engine.proofs.ErasedGap.{cleared_beside}
use Rattle.wbl_engine.proofs.RoomLemmas.{beside_room, has_limits, reopened_moments}
use Rattle.wbl_engine.proofs.reopening.write_reopened.Goals as goal

pub add_open_gap-requires-clause-room : goal.add_open_gap-requires-clause-room
add_open_gap-requires-clause-room g c =
    subst (λ (q : Record). length q.gaps.items < max_gaps q.layout) (sym c.in_ok-roomy.ensures.next)
    (has_limits c.args.current c.requires.readable.undamaged.current.lawful c.requires.limits).room

pub returns-in-Ok-clause-cleared : goal.returns-in-Ok-clause-cleared
returns-in-Ok-clause-cleared g c =
    let r = c.args.current in
    let d = g.P.Pmem.state c.args.device.now in
    let b = g.P.Pmem.state c.make_room.new.device in
    cleared_beside (is_cleared r) c.in_ok-roomy.ensures.cleared
    (λ word beside.
    c.in-Ok.ensures.beside word (beside_room r c.in_ok-roomy.roomy d.lines b.lines word c.in_ok-roomy.ensures.next c.in_ok-roomy.ensures.lines beside))

pub returns-in-Ok-clause-moments : goal.returns-in-Ok-clause-moments
returns-in-Ok-clause-moments g c =
    reopened_moments c.in_ok-roomy.roomy c.in_ok-roomy.ensures.next c.requires.readable c.in_ok-roomy.ensures.cleared c.in_ok-roomy.ensures.lines
    c.in_ok-roomy.ensures.moments c.add_open_gap.ensures.moments

pub returns-in-Err-clause-moments : goal.returns-in-Err-clause-moments
returns-in-Err-clause-moments g c =
    reopened_moments c.in_ok-roomy.roomy c.in_ok-roomy.ensures.next c.requires.readable c.in_ok-roomy.ensures.cleared c.in_ok-roomy.ensures.lines
    c.in_ok-roomy.ensures.moments c.add_open_gap.ensures.moments
