use Rattle.std.proofs.Common.{List, true, sym, ap, subst, ◌∙◌}
use Rattle.kv_types.specs.declared.place.EntryNo.{EntryNo}
use Rattle.pmem.specs.Runs.{LeavesOnly}
use Rattle.model.specs.declared.record.Record.{Record}
use Rattle.wbl_record.specs.Record.{IsEitherRecord, IsRecorded, IsSucceeded}
use Rattle.wbl_record.proofs.Results.{on_err_from}
use Rattle.wbl_engine.specs.AtRest.{IsAtRest, contents_of}
use Rattle.wbl_engine.specs.Copying.{IsHalf, staged_of}
use Rattle.wbl_engine.specs.Freeing.{Clears}
use Rattle.wbl_engine.proofs.ClearingLemmas.{IsClearing, clear_moments, cleared_rest, clearing, clears, erase_moments, keeps_versions, recorded_erased, stamped_lines}
use Rattle.wbl_engine.proofs.HalfClearing.{half_cleared, staged_cleared}
use Rattle.wbl_engine.proofs.clearing.clear_oldest.Goals as goal
use Rattle.wbl_engine.proofs.clearing.clear_oldest.Given.{Over}
use Rattle.wbl_engine.proofs.clearing.clear_oldest.Goals.{After-as_slice-2}

begins : (g : Over) (c : After-as_slice-2 g) → IsClearing c.args.current.now (g.P.Pmem.state c.args.device.now) c.as_slice.result.now c.as_slice-2.result.now
begins g c = clearing c.requires.quiet c.requires.some c.as_slice.ensures.value c.as_slice-2.ensures.value c.requires.begins c.requires.ends

pub erase_stamps-requires-clause-begins : goal.erase_stamps-requires-clause-begins
erase_stamps-requires-clause-begins g c =
    let begun = begins g (goal.at.erase_stamps-requires-clause-begins g c).After-as_slice-2 in
    (stamped_lines begun.stamped begun.rest.many).0

pub erase_stamps-requires-clause-ends : goal.erase_stamps-requires-clause-ends
erase_stamps-requires-clause-ends g c =
    let begun = begins g (goal.at.erase_stamps-requires-clause-ends g c).After-as_slice-2 in
    (stamped_lines begun.stamped begun.rest.many).1

pub returns-in_err-erase_stamps-clause-stays : goal.returns-in_err-erase_stamps-clause-stays
returns-in_err-erase_stamps-clause-stays g c =
    let begun = begins g (goal.at.returns-in_err-erase_stamps-clause-stays g c).After-as_slice-2 in
    let failed = c.in_err-erase_stamps.ensures.err in
    on_err_from c.from_residual.result
    (keeps_versions begun (g.P.Pmem.state c.erase_stamps.new.device) failed.stays.lines (λ word matters. failed.newest word))

pub returns-in_err-erase_stamps-clause-moments : goal.returns-in_err-erase_stamps-clause-moments
returns-in_err-erase_stamps-clause-moments g c =
    let begun = begins g (goal.at.returns-in_err-erase_stamps-clause-moments g c).After-as_slice-2 in
    erase_moments begun c.in_err-erase_stamps.ensures.err.moments

pub returns-in_err-write_durably-clause-stays : goal.returns-in_err-write_durably-clause-stays
returns-in_err-write_durably-clause-stays g c =
    let begun = begins g (goal.at.returns-in_err-write_durably-clause-stays g c).After-as_slice-2 in
    let staged = c.in_ok-erase_stamps.ensures.ok in
    let after = g.P.Pmem.state c.write_durably.new.device in
    let fault = c.in_err-write_durably.ensures.err in
    on_err_from c.from_residual-in_err-write_durably.result
    (keeps_versions begun after (fault.stays.lines ∙ staged.stays.lines)
    (recorded_erased after c.without_oldest_gap-next.result (ap (λ (q : Record). q.layout) c.without_oldest_gap-next.ensures.next) begun staged fault.newest))

pub returns-in_err-write_durably-clause-moments : goal.returns-in_err-write_durably-clause-moments
returns-in_err-write_durably-clause-moments g c =
    let begun = begins g (goal.at.returns-in_err-write_durably-clause-moments g c).After-as_slice-2 in
    let b = g.P.Pmem.state c.erase_stamps.new.device in
    let after = g.P.Pmem.state c.write_durably.new.device in
    clear_moments begun c.without_oldest_gap-next.ensures.lawful c.in_ok-erase_stamps.ensures.ok
    (subst (λ (q : Record). (current : Record) → IsSucceeded b current q → LeavesOnly b after (IsEitherRecord b current q))
    c.without_oldest_gap-next.ensures.next c.write_durably.ensures.moments)

pub returns-clause-rest : goal.returns-clause-rest
returns-clause-rest g c rest =
    let begun = begins g (goal.at.returns-clause-rest g c).After-as_slice-2 in
    let next = c.without_oldest_gap-next in
    let b = g.P.Pmem.state c.erase_stamps.new.device in
    let after = g.P.Pmem.state c.write_durably.new.device in
    subst (λ (q : Record). IsAtRest q after) (sym next.ensures.next)
    (cleared_rest begun next.ensures.lawful c.in_ok-erase_stamps.ensures.ok rest
    (subst (λ (q : Record). IsRecorded b after q) next.ensures.next c.in_ok-write_durably.ensures.ok))

pub returns-clause-clears : goal.returns-clause-clears
returns-clause-clears g c =
    let begun = begins g (goal.at.returns-clause-clears g c).After-as_slice-2 in
    let r = c.args.current.now in
    let d = g.P.Pmem.state c.args.device.now in
    let staged = c.in_ok-erase_stamps.ensures.ok in
    let after = g.P.Pmem.state c.write_durably.new.device in
    let next = c.without_oldest_gap-next in
    let recorded = c.in_ok-write_durably.ensures.ok in
    subst (λ (l : List EntryNo). Clears (contents_of r d) l (contents_of next.result after)) c.as_slice.ensures.value
    (subst (λ (q : Record). Clears (contents_of r d) c.as_slice.result.now (contents_of q after)) (sym next.ensures.next)
    (clears begun after (recorded.stays.lines ∙ staged.stays.lines)
    (recorded_erased after next.result (ap (λ (q : Record). q.layout) next.ensures.next) begun staged recorded.newest)))

pub returns-clause-moments : goal.returns-clause-moments
returns-clause-moments g c =
    let begun = begins g (goal.at.returns-clause-moments g c).After-as_slice-2 in
    let b = g.P.Pmem.state c.erase_stamps.new.device in
    let after = g.P.Pmem.state c.write_durably.new.device in
    clear_moments begun c.without_oldest_gap-next.ensures.lawful c.in_ok-erase_stamps.ensures.ok
    (subst (λ (q : Record). (current : Record) → IsSucceeded b current q → LeavesOnly b after (IsEitherRecord b current q))
    c.without_oldest_gap-next.ensures.next c.write_durably.ensures.moments)

pub returns-clause-half : goal.returns-clause-half
returns-clause-half g c half =
    let begun = begins g (goal.at.returns-clause-half g c).After-as_slice-2 in
    let next = c.without_oldest_gap-next in
    let b = g.P.Pmem.state c.erase_stamps.new.device in
    let after = g.P.Pmem.state c.write_durably.new.device in
    subst (λ (q : Record). IsHalf q after) (sym next.ensures.next)
    (half_cleared half begun.stamped next.ensures.lawful c.in_ok-erase_stamps.ensures.ok
    (subst (λ (q : Record). IsRecorded b after q) next.ensures.next c.in_ok-write_durably.ensures.ok))

pub returns-clause-staged : goal.returns-clause-staged
returns-clause-staged g c half i =
    let begun = begins g (goal.at.returns-clause-staged g c).After-as_slice-2 in
    let next = c.without_oldest_gap-next in
    let b = g.P.Pmem.state c.erase_stamps.new.device in
    let after = g.P.Pmem.state c.write_durably.new.device in
    ap (λ (q : Record). staged_of true q after i) next.ensures.next
    ∙ staged_cleared half begun.stamped next.ensures.lawful c.in_ok-erase_stamps.ensures.ok
    (subst (λ (q : Record). IsRecorded b after q) next.ensures.next c.in_ok-write_durably.ensures.ok) i
