use Rattle.std.proofs.Common.{subst}
use Rattle.std.specs.Prelude.{OnOk}
use Rattle.pmem.specs.Runs.{LeavesOnly}
use Rattle.model.specs.Group.{Contents}
use Rattle.wbl_engine.specs.AtRest.{contents_of}
use Rattle.wbl_engine.specs.Contents.{Same}
use Rattle.wbl_engine.proofs.Committing.{KeepsEither}
use Rattle.wbl_engine.proofs.GroupParts.{relocation_asked, relocation_contents, relocation_record}
use Rattle.wbl_engine.proofs.relocating.commit_relocation.Goals as goal

pub commit_parts-requires-clause-asked : goal.commit_parts-requires-clause-asked
commit_parts-requires-clause-asked g c =
    relocation_asked (contents_of c.args.current.now (g.P.Pmem.state c.args.device.now)) c.args.parts.now
    c.requires.after c.requires.asked

pub commit_parts-requires-clause-after : goal.commit_parts-requires-clause-after
commit_parts-requires-clause-after g c =
    relocation_record (contents_of c.args.current.now (g.P.Pmem.state c.args.device.now)) c.args.parts.now
    c.requires.after

pub returns-clause-moved : goal.returns-clause-moved
returns-clause-moved g c =
    let old = contents_of c.args.current.now (g.P.Pmem.state c.args.device.now) in
    subst (λ (new : Contents). OnOk c.commit_parts.result (Same new (contents_of c.args.next.now (g.P.Pmem.state c.commit_parts.new.device))))
    (relocation_contents old c.args.parts.now c.requires.after) c.commit_parts.ensures.moved

pub returns-clause-moments : goal.returns-clause-moments
returns-clause-moments g c =
    let d = g.P.Pmem.state c.args.device.now in
    let old = contents_of c.args.current.now d in
    subst (λ (new : Contents). LeavesOnly d (g.P.Pmem.state c.commit_parts.new.device) (KeepsEither old new))
    (relocation_contents old c.args.parts.now c.requires.after) c.commit_parts.ensures.moments
