use Rattle.std.proofs.Common.{ℕ, inl, subst}
use Rattle.pmem.specs.Runs.{LeavesOnly}
use Rattle.pmem.proofs.Leaving.{none_leaves}
use Rattle.model.specs.Floor.{floored}
use Rattle.model.specs.Group.{after_group}
use Rattle.wbl_engine.specs.AtRest.{contents_of}
use Rattle.wbl_engine.specs.Committing.{under_floor}
use Rattle.wbl_engine.specs.Contents.{Same}
use Rattle.wbl_engine.specs.Freeing.{KeepsFreedOr, after_free}
use Rattle.wbl_engine.proofs.CommitAndFree.{keeps_yet}
use Rattle.wbl_engine.proofs.Erased.{rest_keeps}
use Rattle.wbl_engine.proofs.HalfLemmas.{half_keeps}
use Rattle.wbl_engine.proofs.LawfulLemmas.{not_exhausted}
use Rattle.wbl_engine.proofs.SuccessorLemmas.{floor_after, record_at_floor}
use Rattle.wbl_engine.proofs.engine.WblEngineDurable.commit_and_free.Goals as goal

pub returns-then-self-2-clause-moments : goal.returns-then-self-2-clause-moments
returns-then-self-2-clause-moments g c sound =
    let r = c.args.self.now.current in
    let d = g.P.Pmem.state c.args.self.now.device in
    none_leaves d
    (KeepsFreedOr c.args.entries.now (contents_of r d)
    (after_group (floored c.args.floor (after_free c.args.entries.now (contents_of r d))) c.args.group.now))
    (λ image is.
    inl (keeps_yet c.args.entries.now (contents_of r d) image (half_keeps (c.args.self.now.half sound c.if-self-2.true) image is)))

pub returns-in_default-clause-moments : goal.returns-in_default-clause-moments
returns-in_default-clause-moments g c sound =
    let r = c.args.self.now.current in
    let d = g.P.Pmem.state c.args.self.now.device in
    none_leaves d
    (KeepsFreedOr c.args.entries.now (contents_of r d)
    (after_group (floored c.args.floor (after_free c.args.entries.now (contents_of r d))) c.args.group.now))
    (λ image is. inl (keeps_yet c.args.entries.now (contents_of r d) image (rest_keeps r d (c.args.self.now.at_rest sound c.if-self-2.false) image is)))

pub commit_and_erase-requires-clause-after : goal.commit_and_erase-requires-clause-after
commit_and_erase-requires-clause-after g c = record_at_floor c.args.self.now.current c.in-Some.next c.args.group.now c.args.floor c.in-Some.ensures.next

pub returns-in-Ok-clause-moved : goal.returns-in-Ok-clause-moved
returns-in-Ok-clause-moved g c =
    let old = after_free c.args.entries.now (contents_of c.args.self.now.current (g.P.Pmem.state c.args.self.now.device)) in
    let new = contents_of c.in-Some.next (g.P.Pmem.state c.commit_and_erase.new.device) in
    subst (λ (floor : ℕ). Same (after_group (under_floor floor old) c.args.group.now) new) (floor_after c.args.self.now.current c.in-Some.next c.args.group.now c.args.floor c.in-Some.ensures.next) c.in-Ok.ensures.moved

pub returns-in-Ok-clause-durable : goal.returns-in-Ok-clause-durable
returns-in-Ok-clause-durable g c = rest_keeps c.in-Some.next (g.P.Pmem.state c.commit_and_erase.new.device) c.in-Ok.ensures.rest

pub returns-in-Ok-clause-moments : goal.returns-in-Ok-clause-moments
returns-in-Ok-clause-moments g c sound =
    let d = g.P.Pmem.state c.args.self.now.device in
    let old = contents_of c.args.self.now.current d in
    subst
    (λ (floor : ℕ). LeavesOnly d (g.P.Pmem.state c.commit_and_erase.new.device)
    (KeepsFreedOr c.args.entries.now old (after_group (under_floor floor (after_free c.args.entries.now old)) c.args.group.now)))
    (floor_after c.args.self.now.current c.in-Some.next c.args.group.now c.args.floor c.in-Some.ensures.next) c.commit_and_erase.ensures.moments

pub returns-in-Err-clause-moments : goal.returns-in-Err-clause-moments
returns-in-Err-clause-moments g c sound =
    let d = g.P.Pmem.state c.args.self.now.device in
    let old = contents_of c.args.self.now.current d in
    subst
    (λ (floor : ℕ). LeavesOnly d (g.P.Pmem.state c.commit_and_erase.new.device)
    (KeepsFreedOr c.args.entries.now old (after_group (under_floor floor (after_free c.args.entries.now old)) c.args.group.now)))
    (floor_after c.args.self.now.current c.in-Some.next c.args.group.now c.args.floor c.in-Some.ensures.next) c.commit_and_erase.ensures.moments

pub returns-in-Ok-clause-exhausts : goal.returns-in-Ok-clause-exhausts
returns-in-Ok-clause-exhausts g c sound exhausts =
    absurd (not_exhausted c.args.floor (contents_of c.args.self.now.current (g.P.Pmem.state c.args.self.now.device)) c.args.group.now c.in-Some.next
    c.in-Some.ensures.next c.in-Some.ensures.lawful c.in-Some.ensures.other exhausts)

pub returns-in-Err-clause-exhausts : goal.returns-in-Err-clause-exhausts
returns-in-Err-clause-exhausts g c sound exhausts =
    absurd (not_exhausted c.args.floor (contents_of c.args.self.now.current (g.P.Pmem.state c.args.self.now.device)) c.args.group.now c.in-Some.next
    c.in-Some.ensures.next c.in-Some.ensures.lawful c.in-Some.ensures.other exhausts)
