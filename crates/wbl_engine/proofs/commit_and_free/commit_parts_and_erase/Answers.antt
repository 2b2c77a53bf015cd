use Rattle.std.proofs.lemmas.Result.{on_ok_weaker, on_err_weaker}
use Rattle.pmem.proofs.Leaving.{LeavesOnly-weaken}
use Rattle.wbl_record.proofs.Results.{on_err_from}
use Rattle.std.proofs.Common.{inl}
use Rattle.model.specs.Layout.{directory_room, entries_of_lines}
use Rattle.model.proofs.GroupsLemmas.{placed_in_more}
use Rattle.model.proofs.LayoutLemmas.{entries_fit}
use Rattle.wbl_engine.specs.AtRest.{contents_of}
use Rattle.wbl_engine.specs.Committing.{after_parts}
use Rattle.wbl_engine.specs.Freeing.{KeepsFreedOr, after_free}
use Rattle.wbl_engine.specs.Stage.{puts_of_parts}
use Rattle.wbl_engine.proofs.CommitAndFree.{both_moments, both_partly, both_rest, both_same, first_fails, later_fails}
use Rattle.wbl_engine.proofs.Committing.{committing}
use Rattle.wbl_engine.proofs.EndsWithin.{ends_within}
use Rattle.wbl_engine.proofs.FreeingLemmas.{ended_lines}
use Rattle.wbl_engine.proofs.commit_and_free.commit_parts_and_erase.Goals as goal

pub stage_and_erase-requires-clause-placed : goal.stage_and_erase-requires-clause-placed
stage_and_erase-requires-clause-placed g c =
    let lines = (g.P.Pmem.state c.args.device.now).lines in
    placed_in_more (entries_of_lines c.args.current.now.layout lines) (directory_room lines) lines (puts_of_parts c.args.parts.now)
    (entries_fit c.args.current.now.layout lines) c.requires.asked.placed

pub stage_and_erase-requires-clause-ends : goal.stage_and_erase-requires-clause-ends
stage_and_erase-requires-clause-ends g c =
    ends_within c.args.current.now (g.P.Pmem.state c.args.device.now) c.args.parts.now c.args.next.now.position c.requires.rest c.requires.asked

pub stage_and_erase-requires-clause-begins : goal.stage_and_erase-requires-clause-begins
stage_and_erase-requires-clause-begins g c =
    ended_lines c.args.current.now (g.P.Pmem.state c.args.device.now) c.args.entries.now c.requires.rest c.requires.ended

pub returns-in_err-stage_and_erase-clause-stays : goal.returns-in_err-stage_and_erase-clause-stays
returns-in_err-stage_and_erase-clause-stays g c =
    let begun = committing c.args.next.now c.requires.rest c.requires.asked c.in_err-stage_and_erase.ensures.writable in
    on_err_from c.from_residual.result (first_fails c.args.entries.now begun c.requires.ended c.requires.freed c.in_err-stage_and_erase.ensures.err)

pub returns-in_err-stage_and_erase-clause-moments : goal.returns-in_err-stage_and_erase-clause-moments
returns-in_err-stage_and_erase-clause-moments g c =
    let begun = committing c.args.next.now c.requires.rest c.requires.asked c.in_err-stage_and_erase.ensures.writable in
    let old = contents_of c.args.current.now (g.P.Pmem.state c.args.device.now) in
    LeavesOnly-weaken (KeepsFreedOr c.args.entries.now old (after_parts (after_free c.args.entries.now old) c.args.parts.now c.args.next.now.position c.args.next.now.epoch c.args.next.now.floor))
    (λ image partly. inl (both_partly c.args.entries.now begun c.requires.ended image partly)) c.in_err-stage_and_erase.ensures.err.moments

pub returns-clause-rest : goal.returns-clause-rest
returns-clause-rest g c =
    let begun = committing c.args.next.now c.requires.rest c.requires.asked c.in_ok-stage_and_erase.ensures.writable in
    on_ok_weaker c.write_durably.result
    (λ recorded. both_rest c.args.entries.now begun c.requires.ended c.requires.freed c.in_ok-stage_and_erase.ensures.ok c.requires.after c.requires.lawful recorded)
    c.write_durably.ensures.ok

pub returns-clause-moved : goal.returns-clause-moved
returns-clause-moved g c =
    let begun = committing c.args.next.now c.requires.rest c.requires.asked c.in_ok-stage_and_erase.ensures.writable in
    on_ok_weaker c.write_durably.result
    (λ recorded. both_same c.args.entries.now begun c.requires.ended c.requires.freed c.in_ok-stage_and_erase.ensures.ok c.requires.after recorded) c.write_durably.ensures.ok

pub returns-clause-stays : goal.returns-clause-stays
returns-clause-stays g c =
    let begun = committing c.args.next.now c.requires.rest c.requires.asked c.in_ok-stage_and_erase.ensures.writable in
    on_err_weaker c.write_durably.result
    (λ fault. later_fails c.args.entries.now begun c.requires.ended c.requires.freed c.in_ok-stage_and_erase.ensures.ok c.requires.after fault) c.write_durably.ensures.err

pub returns-clause-moments : goal.returns-clause-moments
returns-clause-moments g c =
    let begun = committing c.args.next.now c.requires.rest c.requires.asked c.in_ok-stage_and_erase.ensures.writable in
    both_moments c.args.entries.now begun c.requires.ended c.requires.freed c.in_ok-stage_and_erase.ensures.ok c.requires.after c.write_durably.ensures.moments
