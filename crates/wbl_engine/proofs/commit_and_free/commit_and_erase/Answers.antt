use Rattle.std.proofs.Common.{subst}
use Rattle.std.specs.Prelude.{OnOk}
use Rattle.pmem.specs.Runs.{LeavesOnly}
use Rattle.model.specs.Group.{Contents}
use Rattle.wbl_engine.specs.AtRest.{contents_of}
use Rattle.wbl_engine.specs.Contents.{Same}
use Rattle.wbl_engine.specs.Freeing.{KeepsFreedOr, after_free}
use Rattle.wbl_engine.proofs.GroupParts.{group_asked, group_contents, group_record}
use Rattle.wbl_engine.proofs.commit_and_free.commit_and_erase.Goals as goal

pub commit_parts_and_erase-requires-clause-asked : goal.commit_parts_and_erase-requires-clause-asked
commit_parts_and_erase-requires-clause-asked g c =
    group_asked (contents_of c.args.current.now (g.P.Pmem.state c.args.device.now)) c.args.group.now
    c.as_slice.ensures.value c.requires.after c.requires.asked

pub commit_parts_and_erase-requires-clause-freed : goal.commit_parts_and_erase-requires-clause-freed
commit_parts_and_erase-requires-clause-freed g c =
    group_asked (after_free c.args.entries.now (contents_of c.args.current.now (g.P.Pmem.state c.args.device.now))) c.args.group.now
    c.as_slice.ensures.value c.requires.after c.requires.freed

pub commit_parts_and_erase-requires-clause-after : goal.commit_parts_and_erase-requires-clause-after
commit_parts_and_erase-requires-clause-after g c =
    group_record (contents_of c.args.current.now (g.P.Pmem.state c.args.device.now)) c.args.group.now
    c.as_slice.ensures.value c.requires.after

pub returns-clause-moved : goal.returns-clause-moved
returns-clause-moved g c =
    let old = after_free c.args.entries.now (contents_of c.args.current.now (g.P.Pmem.state c.args.device.now)) in
    subst (λ (new : Contents). OnOk c.commit_parts_and_erase.result (Same new (contents_of c.args.next.now (g.P.Pmem.state c.commit_parts_and_erase.new.device))))
    (group_contents old c.args.group.now c.as_slice.ensures.value c.requires.after) c.commit_parts_and_erase.ensures.moved

pub returns-clause-moments : goal.returns-clause-moments
returns-clause-moments g c =
    let d = g.P.Pmem.state c.args.device.now in
    let old = contents_of c.args.current.now d in
    subst (λ (new : Contents). LeavesOnly d (g.P.Pmem.state c.commit_parts_and_erase.new.device) (KeepsFreedOr c.args.entries.now old new))
    (group_contents (after_free c.args.entries.now old) c.args.group.now c.as_slice.ensures.value c.requires.after) c.commit_parts_and_erase.ensures.moments
