use Rattle.std.proofs.Common.{◌≡◌, ℕ, true, false, inl, ap, subst, sym}
use Rattle.pmem.specs.Runs.{LeavesOnly}
use Rattle.pmem.proofs.Leaving.{none_leaves}
use Rattle.model.specs.declared.record.Record.{Record}
use Rattle.model.specs.Group.{Versions}
use Rattle.wbl_engine.specs.AtRest.{contents_of}
use Rattle.wbl_engine.specs.Contents.{Same}
use Rattle.wbl_engine.specs.Copying.{IsCopied, after_copy, staged_of}
use Rattle.wbl_engine.proofs.Committing.{KeepsEither}
use Rattle.wbl_engine.proofs.Erased.{rest_keeps}
use Rattle.wbl_engine.proofs.HalfLemmas.{sound_half, sound_keeps, staged_same}
use Rattle.wbl_engine.proofs.engine.WblEngineDurable.commit_staged.Goals as goal
use Rattle.wbl_engine.proofs.engine.WblEngineDurable.commit_staged.Given.{Over}
use Rattle.wbl_engine.proofs.engine.WblEngineDurable.commit_staged.Goals.{After-end_copy}

pub returns-in_default-clause-moments : goal.returns-in_default-clause-moments
returns-in_default-clause-moments g c sound =
    let self = c.args.self.now in
    let d = g.P.Pmem.state self.device in
    let old = contents_of self.current d in
    none_leaves d (KeepsEither old (after_copy old (staged_of self.copying self.current d) c.args.position))
    (λ image is. inl (sound_keeps self.copying (self.at_rest sound) (self.half sound) image is))

pub end_copy-requires-clause-half : goal.end_copy-requires-clause-half
end_copy-requires-clause-half g c =
    let self = c.args.self.now in
    sound_half self.copying (self.at_rest c.if-self.false) (self.half c.if-self.false) c.requires.newcomer c.requires.empty

pub end_copy-requires-clause-asked : goal.end_copy-requires-clause-asked
end_copy-requires-clause-asked g c =
    let self = c.args.self.now in
    let d = g.P.Pmem.state self.device in
    let same = sym (staged_same self.copying (self.at_rest c.if-self.false) (self.half c.if-self.false)) in
    subst (λ (position : ℕ). IsCopied (contents_of self.current d) (staged_of true self.current d) position)
    (sym (ap (λ (q : Record). q.position) c.in-Some.ensures.next))
    (subst (λ (staged : Versions). IsCopied (contents_of self.current d) staged c.args.position) same c.requires)

pub returns-clause-moved : goal.returns-clause-moved
returns-clause-moved g c =
    let self = c.args.self.now in
    let d = g.P.Pmem.state self.device in
    let same = staged_same self.copying (self.at_rest c.if-self.false) (self.half c.if-self.false) in
    subst
    (λ (staged : Versions). Same (after_copy (contents_of self.current d) staged c.args.position) (contents_of c.in-Some.next (g.P.Pmem.state c.end_copy.new.device)))
    same
    (subst
    (λ (position : ℕ). Same (after_copy (contents_of self.current d) (staged_of true self.current d) position)
    (contents_of c.in-Some.next (g.P.Pmem.state c.end_copy.new.device)))
    (ap (λ (q : Record). q.position) c.in-Some.ensures.next) c.in-Ok.ensures.moved)

pub returns-clause-durable : goal.returns-clause-durable
returns-clause-durable g c = rest_keeps c.in-Some.next (g.P.Pmem.state c.end_copy.new.device) c.in-Ok.ensures.rest

moments : (g : Over) (c : After-end_copy g) → c.args.self.now.faulted ≡ false → LeavesOnly (g.P.Pmem.state c.args.self.now.device) (g.P.Pmem.state c.end_copy.new.device)
    (KeepsEither (contents_of c.args.self.now.current (g.P.Pmem.state c.args.self.now.device))
    (after_copy (contents_of c.args.self.now.current (g.P.Pmem.state c.args.self.now.device))
    (staged_of c.args.self.now.copying c.args.self.now.current (g.P.Pmem.state c.args.self.now.device)) c.args.position))
moments g c sound =
    let self = c.args.self.now in
    let d = g.P.Pmem.state self.device in
    let old = contents_of self.current d in
    subst (λ (staged : Versions). LeavesOnly d (g.P.Pmem.state c.end_copy.new.device) (KeepsEither old (after_copy old staged c.args.position)))
    (staged_same self.copying (self.at_rest sound) (self.half sound))
    (subst
    (λ (position : ℕ). LeavesOnly d (g.P.Pmem.state c.end_copy.new.device) (KeepsEither old (after_copy old (staged_of true self.current d) position)))
    (ap (λ (q : Record). q.position) c.in-Some.ensures.next) c.end_copy.ensures.moments)

pub returns-clause-moments : goal.returns-clause-moments
returns-clause-moments g c sound = moments g (goal.at.returns-clause-moments g c).After-end_copy sound

pub returns-in_default-end_copy-clause-moments : goal.returns-in_default-end_copy-clause-moments
returns-in_default-end_copy-clause-moments g c sound = moments g (goal.at.returns-in_default-end_copy-clause-moments g c).After-end_copy sound
