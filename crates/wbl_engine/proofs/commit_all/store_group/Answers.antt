use Rattle.std.proofs.Common.{subst}
use Rattle.std.specs.Prelude.{OnOk}
use Rattle.std.proofs.lemmas.Result.{on_ok_weaker, on_err_weaker}
use Rattle.pmem.specs.Runs.{LeavesOnly}
use Rattle.model.specs.Group.{Contents}
use Rattle.model.specs.Layout.{directory_room, entries_of_lines}
use Rattle.model.proofs.GroupsLemmas.{placed_in_more}
use Rattle.model.proofs.LayoutLemmas.{entries_fit}
use Rattle.wbl_record.proofs.Results.{on_err_from}
use Rattle.wbl_engine.specs.AtRest.{contents_of}
use Rattle.wbl_engine.specs.Committing.{AreCommittable}
use Rattle.wbl_engine.specs.Contents.{Same}
use Rattle.wbl_engine.specs.Stage.{puts_of_parts}
use Rattle.wbl_engine.proofs.Committing.{KeepsEither, committing, first_fault, stage_moments, later_fault, done_rest, done_same, done_moments}
use Rattle.wbl_engine.proofs.EndsWithin.{ends_within}
use Rattle.wbl_engine.proofs.GroupParts.{group_asked, group_contents, group_record}
use Rattle.wbl_engine.proofs.commit_all.store_group.Given.{Over}
use Rattle.wbl_engine.proofs.commit_all.store_group.Goals as goal
use Rattle.wbl_engine.proofs.commit_all.store_group.Goals.{After-as_slice}

asked : (g : Over) (c : After-as_slice g) → AreCommittable (contents_of c.args.current.now (g.P.Pmem.state c.args.device.now)) c.as_slice.result.now c.args.next.now.position
asked g c =
    group_asked (contents_of c.args.current.now (g.P.Pmem.state c.args.device.now)) c.args.group.now c.as_slice.ensures.value c.requires.after c.requires.asked

pub stage_parts-requires-clause-placed : goal.stage_parts-requires-clause-placed
stage_parts-requires-clause-placed g c =
    let lines = (g.P.Pmem.state c.args.device.now).lines in
    placed_in_more (entries_of_lines c.args.current.now.layout lines) (directory_room lines) lines (puts_of_parts c.as_slice.result.now)
    (entries_fit c.args.current.now.layout lines) (asked g c).placed

pub stage_parts-requires-clause-ends : goal.stage_parts-requires-clause-ends
stage_parts-requires-clause-ends g c =
    ends_within c.args.current.now (g.P.Pmem.state c.args.device.now) c.as_slice.result.now c.args.next.now.position c.requires.rest (asked g c)

pub returns-in_err-stage_parts-clause-stays : goal.returns-in_err-stage_parts-clause-stays
returns-in_err-stage_parts-clause-stays g c =
    let begun = committing c.args.next.now c.requires.rest (asked g (goal.at.returns-in_err-stage_parts-clause-stays g c).After-as_slice) c.in_err-stage_parts.ensures.writable in
    on_err_from c.from_residual.result (first_fault begun c.in_err-stage_parts.ensures.err)

pub returns-in_err-stage_parts-clause-moments : goal.returns-in_err-stage_parts-clause-moments
returns-in_err-stage_parts-clause-moments g c =
    let d = g.P.Pmem.state c.args.device.now in
    let begun = committing c.args.next.now c.requires.rest (asked g (goal.at.returns-in_err-stage_parts-clause-moments g c).After-as_slice) c.in_err-stage_parts.ensures.writable in
    subst (λ (new : Contents). LeavesOnly d (g.P.Pmem.state c.stage_parts.new.device) (KeepsEither (contents_of c.args.current.now d) new))
    (group_contents (contents_of c.args.current.now d) c.args.group.now c.as_slice.ensures.value c.requires.after)
    (stage_moments begun c.in_err-stage_parts.ensures.err.moments)

pub returns-clause-rest : goal.returns-clause-rest
returns-clause-rest g c =
    let old = contents_of c.args.current.now (g.P.Pmem.state c.args.device.now) in
    let begun = committing c.args.next.now c.requires.rest (asked g (goal.at.returns-clause-rest g c).After-as_slice) c.in_ok-stage_parts.ensures.writable in
    on_ok_weaker c.write_next.result
    (λ recorded. done_rest begun (group_record old c.args.group.now c.as_slice.ensures.value c.requires.after) c.in_ok-stage_parts.ensures.ok c.requires.lawful recorded)
    c.write_next.ensures.ok

pub returns-clause-moved : goal.returns-clause-moved
returns-clause-moved g c =
    let old = contents_of c.args.current.now (g.P.Pmem.state c.args.device.now) in
    let begun = committing c.args.next.now c.requires.rest (asked g (goal.at.returns-clause-moved g c).After-as_slice) c.in_ok-stage_parts.ensures.writable in
    subst (λ (new : Contents). OnOk c.write_next.result (Same new (contents_of c.args.next.now (g.P.Pmem.state c.write_next.new.device))))
    (group_contents old c.args.group.now c.as_slice.ensures.value c.requires.after)
    (on_ok_weaker c.write_next.result
    (λ recorded. done_same begun (group_record old c.args.group.now c.as_slice.ensures.value c.requires.after) c.in_ok-stage_parts.ensures.ok recorded)
    c.write_next.ensures.ok)

pub returns-clause-stays : goal.returns-clause-stays
returns-clause-stays g c =
    let old = contents_of c.args.current.now (g.P.Pmem.state c.args.device.now) in
    let begun = committing c.args.next.now c.requires.rest (asked g (goal.at.returns-clause-stays g c).After-as_slice) c.in_ok-stage_parts.ensures.writable in
    on_err_weaker c.write_next.result
    (λ fault. later_fault begun (group_record old c.args.group.now c.as_slice.ensures.value c.requires.after) c.in_ok-stage_parts.ensures.ok fault)
    c.write_next.ensures.err

pub returns-clause-moments : goal.returns-clause-moments
returns-clause-moments g c =
    let d = g.P.Pmem.state c.args.device.now in
    let old = contents_of c.args.current.now d in
    let begun = committing c.args.next.now c.requires.rest (asked g (goal.at.returns-clause-moments g c).After-as_slice) c.in_ok-stage_parts.ensures.writable in
    subst (λ (new : Contents). LeavesOnly d (g.P.Pmem.state c.write_next.new.device) (KeepsEither old new))
    (group_contents old c.args.group.now c.as_slice.ensures.value c.requires.after)
    (done_moments begun (group_record old c.args.group.now c.as_slice.ensures.value c.requires.after) c.in_ok-stage_parts.ensures.ok c.write_next.ensures.moments)
