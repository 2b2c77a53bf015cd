use Rattle.std.proofs.Common.{ap, subst, sym, ◌∙◌}
use Rattle.pmem.specs.Crash.{image_of}
use Rattle.pmem.specs.Runs.{LeavesOnly}
use Rattle.model.specs.declared.record.Record.{Record}
use Rattle.wbl_engine.specs.AtRest.{IsAtRest, contents_of}
use Rattle.wbl_engine.specs.Contents.{IsDurable}
use Rattle.wbl_engine.specs.Reopening.{IsShown, Reopens, StaysReadable}
use Rattle.wbl_engine.proofs.Readable.{readable_durable, readable_rest, settled_readable, settled_stays}
use Rattle.wbl_engine.proofs.ReadingLemmas.{undamaged_unique}
use Rattle.wbl_engine.proofs.ReopenedContents.{over_low, reopened_over, reopens}
use Rattle.wbl_engine.proofs.RoomLemmas.{room_layout}
use Rattle.wbl_engine.proofs.ShownLists.{shows}
use Rattle.wbl_engine.proofs.reopening.reopen_device.Goals as goal

pub returns-in_err-current-clause-moments : goal.returns-in_err-current-clause-moments
returns-in_err-current-clause-moments g c r whole = settled_stays r (g.P.Pmem.state c.args.device.now) c.requires.settled whole

pub write_reopened-requires-clause-readable : goal.write_reopened-requires-clause-readable
write_reopened-requires-clause-readable g c =
    settled_readable c.in_ok-current.current (g.P.Pmem.state c.args.device.now) c.in_ok-current.ensures.many c.in_ok-current.ensures.few
    c.requires.settled c.in_ok-current.ensures.undamaged

pub returns-in_err-next-clause-moments : goal.returns-in_err-next-clause-moments
returns-in_err-next-clause-moments g c r whole =
    let d = g.P.Pmem.state c.args.device.now in
    subst (λ (q : Record). LeavesOnly d (g.P.Pmem.state c.write_reopened.new.device) (StaysReadable d.lines q (image_of d.words)))
    (sym (undamaged_unique c.in_ok-current.current r c.in_ok-current.ensures.undamaged.current whole)) c.write_reopened.ensures.moments

pub returns-clause-reopens : goal.returns-clause-reopens
returns-clause-reopens g c =
    let d = g.P.Pmem.state c.args.device.now in
    let over =
    reopened_over (g.P.Pmem.state c.args.device.now) (g.P.Pmem.state c.write_reopened.new.device) c.in_ok-current.ensures.undamaged
    c.in_ok-next.ensures.readable c.in_ok-next.ensures.cleared c.in_ok-next.ensures.lines in
    subst (λ (q : Record). Reopens d.lines (image_of d.words) c.args.role (contents_of q (g.P.Pmem.state c.write_reopened.new.device))
    c.in_ok-current.versions.counted.items c.in_ok-current.versions.gapped.items) (sym c.in_ok-next.ensures.next)
    (reopens c.args.role c.in_ok-current.versions.counted.items c.in_ok-current.versions.gapped.items over c.in_ok-current.ensures.role c.in_ok-current.ensures.limits
    c.in_ok-current.ensures.counted c.in_ok-current.ensures.gapped)

pub returns-clause-rest : goal.returns-clause-rest
returns-clause-rest g c =
    let over =
    reopened_over (g.P.Pmem.state c.args.device.now) (g.P.Pmem.state c.write_reopened.new.device) c.in_ok-current.ensures.undamaged
    c.in_ok-next.ensures.readable c.in_ok-next.ensures.cleared c.in_ok-next.ensures.lines in
    subst (λ (q : Record). IsAtRest q (g.P.Pmem.state c.write_reopened.new.device)) (sym c.in_ok-next.ensures.next) (readable_rest over.readable (over_low over))

pub returns-clause-durable : goal.returns-clause-durable
returns-clause-durable g c =
    subst (λ (q : Record). IsDurable (g.P.Pmem.state c.write_reopened.new.device) (contents_of q (g.P.Pmem.state c.write_reopened.new.device)))
    (sym c.in_ok-next.ensures.next) (readable_durable c.in_ok-next.ensures.readable)

pub returns-clause-moments : goal.returns-clause-moments
returns-clause-moments g c r whole =
    let d = g.P.Pmem.state c.args.device.now in
    subst (λ (q : Record). LeavesOnly d (g.P.Pmem.state c.write_reopened.new.device) (StaysReadable d.lines q (image_of d.words)))
    (sym (undamaged_unique c.in_ok-current.current r c.in_ok-current.ensures.undamaged.current whole)) c.write_reopened.ensures.moments

pub returns-clause-shown : goal.returns-clause-shown
returns-clause-shown g c =
    let over =
    reopened_over (g.P.Pmem.state c.args.device.now) (g.P.Pmem.state c.write_reopened.new.device) c.in_ok-current.ensures.undamaged
    c.in_ok-next.ensures.readable c.in_ok-next.ensures.cleared c.in_ok-next.ensures.lines in
    subst (λ (q : Record). IsShown (contents_of q (g.P.Pmem.state c.write_reopened.new.device)) c.in_ok-current.versions.counted.items
    c.in_ok-current.versions.gapped.items (image_of (g.P.Pmem.state c.write_reopened.new.device).words)) (sym c.in_ok-next.ensures.next)
    (shows c.in_ok-current.versions.counted.items c.in_ok-current.versions.gapped.items over c.in_ok-current.ensures.counted
    c.in_ok-current.ensures.gapped)

pub returns-clause-layout : goal.returns-clause-layout
returns-clause-layout g c =
    ap (λ (q : Record). q.layout) c.in_ok-next.ensures.next ∙ room_layout c.in_ok-current.current ∙ c.in_ok-current.ensures.layout
