use Rattle.std.proofs.lemmas.Result.{on_ok_weaker, on_err_weaker}
use Rattle.model.specs.Layout.{directory_room, entries_of_lines}
use Rattle.model.proofs.GroupsLemmas.{placed_in_more}
use Rattle.model.proofs.LayoutLemmas.{entries_fit}
use Rattle.wbl_engine.specs.Stage.{puts_of_parts}
use Rattle.wbl_engine.proofs.Committing.{committing, first_fault, stage_moments, later_fault, done_rest, done_same, done_moments}
use Rattle.wbl_engine.proofs.EndsWithin.{ends_within}
use Rattle.wbl_record.proofs.Results.{on_err_from}
use Rattle.wbl_engine.proofs.commit.commit_parts.Goals as goal

pub stage_parts-requires-clause-placed : goal.stage_parts-requires-clause-placed
stage_parts-requires-clause-placed g c =
    let lines = (g.P.Pmem.state c.args.device.now).lines in
    placed_in_more (entries_of_lines c.args.current.now.layout lines) (directory_room lines) lines (puts_of_parts c.args.parts.now)
    (entries_fit c.args.current.now.layout lines) c.requires.asked.placed

pub stage_parts-requires-clause-ends : goal.stage_parts-requires-clause-ends
stage_parts-requires-clause-ends g c =
    ends_within c.args.current.now (g.P.Pmem.state c.args.device.now) c.args.parts.now c.args.next.now.position c.requires.rest c.requires.asked

pub returns-in_err-stage_parts-clause-stays : goal.returns-in_err-stage_parts-clause-stays
returns-in_err-stage_parts-clause-stays g c =
    let begun = committing c.args.next.now c.requires.rest c.requires.asked c.in_err-stage_parts.ensures.writable in
    on_err_from c.from_residual.result (first_fault begun c.in_err-stage_parts.ensures.err)

pub returns-in_err-stage_parts-clause-moments : goal.returns-in_err-stage_parts-clause-moments
returns-in_err-stage_parts-clause-moments g c =
    let begun = committing c.args.next.now c.requires.rest c.requires.asked c.in_err-stage_parts.ensures.writable in
    stage_moments begun c.in_err-stage_parts.ensures.err.moments

pub returns-clause-rest : goal.returns-clause-rest
returns-clause-rest g c =
    let begun = committing c.args.next.now c.requires.rest c.requires.asked c.in_ok-stage_parts.ensures.writable in
    on_ok_weaker c.write_durably.result
    (λ recorded. done_rest begun c.requires.after c.in_ok-stage_parts.ensures.ok c.requires.lawful recorded)
    c.write_durably.ensures.ok

pub returns-clause-moved : goal.returns-clause-moved
returns-clause-moved g c =
    let begun = committing c.args.next.now c.requires.rest c.requires.asked c.in_ok-stage_parts.ensures.writable in
    on_ok_weaker c.write_durably.result (λ recorded. done_same begun c.requires.after c.in_ok-stage_parts.ensures.ok recorded) c.write_durably.ensures.ok

pub returns-clause-stays : goal.returns-clause-stays
returns-clause-stays g c =
    let begun = committing c.args.next.now c.requires.rest c.requires.asked c.in_ok-stage_parts.ensures.writable in
    on_err_weaker c.write_durably.result (λ fault. later_fault begun c.requires.after c.in_ok-stage_parts.ensures.ok fault) c.write_durably.ensures.err

pub returns-clause-moments : goal.returns-clause-moments
returns-clause-moments g c =
    let begun = committing c.args.next.now c.requires.rest c.requires.asked c.in_ok-stage_parts.ensures.writable in
    done_moments begun c.requires.after c.in_ok-stage_parts.ensures.ok c.write_durably.ensures.moments
