use Rattle.std.proofs.Common.{◌∙◌, ◌<◌, inl, inr, ap, subst, sym}
use Rattle.pmem.specs.Runs.{LeavesOnly}
use Rattle.pmem.proofs.Leaving.{none_leaves}
use Rattle.model.specs.declared.record.Record.{Record}
use Rattle.model.specs.Floor.{floor_raised}
use Rattle.wbl_engine.specs.AtRest.{contents_of}
use Rattle.wbl_engine.specs.Contents.{Same}
use Rattle.wbl_engine.specs.Freeing.{KeepsFreed, after_free, extents_of}
use Rattle.wbl_engine.specs.Raising.{under}
use Rattle.wbl_engine.proofs.Erased.{rest_keeps}
use Rattle.wbl_engine.proofs.FreeingLemmas.{ended_extents, ended_lines}
use Rattle.wbl_engine.proofs.HalfLemmas.{half_keeps, none_ended, sound_keeps, uncounted_none}
use Rattle.wbl_engine.proofs.RaisingLemmas.{nothing_freed, raised_map, rises}
use Rattle.wbl_engine.proofs.engine.WblEngineDurable.free.Goals as goal

pub returns-in_default-clause-moments : goal.returns-in_default-clause-moments
returns-in_default-clause-moments g c sound =
    let r = c.args.self.now.current in
    let d = g.P.Pmem.state c.args.self.now.device in
    none_leaves d (KeepsFreed c.args.entries.now (contents_of r d) (floor_raised c.args.floor (contents_of r d)))
    (λ image is. inl (sound_keeps c.args.self.now.copying (c.args.self.now.at_rest sound) (c.args.self.now.half sound) image is))

pub returns-then-self-2-clause-entries : goal.returns-then-self-2-clause-entries
returns-then-self-2-clause-entries g c =
    let self = c.args.self.now in
    c.none.ensures.entries
    ∙ sym (none_ended (contents_of self.current (g.P.Pmem.state self.device)) c.args.entries.now
    (uncounted_none self.current (g.P.Pmem.state self.device) (self.half c.if-self.false c.if-self-2.true).half.uncounted) c.requires)

pub returns-then-self-2-clause-extents : goal.returns-then-self-2-clause-extents
returns-then-self-2-clause-extents g c =
    let self = c.args.self.now in
    let old = contents_of self.current (g.P.Pmem.state self.device) in
    c.none.ensures.extents
    ∙ sym (ap (extents_of old.versions) (none_ended old c.args.entries.now
    (uncounted_none self.current (g.P.Pmem.state self.device) (self.half c.if-self.false c.if-self-2.true).half.uncounted) c.requires))

pub returns-then-self-2-clause-moved : goal.returns-then-self-2-clause-moved
returns-then-self-2-clause-moved g c =
    let self = c.args.self.now in
    let d = g.P.Pmem.state self.device in
    let half = self.half c.if-self.false c.if-self-2.true in
    nothing_freed c.args.floor (contents_of self.current d) c.args.entries.now (c.in-Some.ensures.newcomer half.newcomer)
    (uncounted_none self.current d half.half.uncounted) c.requires

pub returns-then-self-2-clause-map : goal.returns-then-self-2-clause-map
returns-then-self-2-clause-map g c = λ s map. map

pub returns-then-self-2-clause-durable : goal.returns-then-self-2-clause-durable
returns-then-self-2-clause-durable g c = half_keeps (c.args.self.now.half c.if-self.false c.if-self-2.true)

pub returns-then-self-2-clause-moments : goal.returns-then-self-2-clause-moments
returns-then-self-2-clause-moments g c sound =
    let r = c.args.self.now.current in
    let d = g.P.Pmem.state c.args.self.now.device in
    none_leaves d (KeepsFreed c.args.entries.now (contents_of r d) (floor_raised c.args.floor (contents_of r d)))
    (λ image is. inl (half_keeps (c.args.self.now.half sound c.if-self-2.true) image is))

pub freed_by-requires : goal.freed_by-requires
freed_by-requires g c =
    let self = c.args.self.now in
    ended_lines self.current (g.P.Pmem.state self.device) c.args.entries.now (self.at_rest c.if-self.false c.if-self-2.false) c.requires

pub returns-in_err-freed-clause-moments : goal.returns-in_err-freed-clause-moments
returns-in_err-freed-clause-moments g c sound =
    let r = c.args.self.now.current in
    let d = g.P.Pmem.state c.args.self.now.device in
    none_leaves d (KeepsFreed c.args.entries.now (contents_of r d) (floor_raised c.args.floor (contents_of r d)))
    (λ image is. inl (rest_keeps r d (c.args.self.now.at_rest sound c.if-self-2.false) image is))

pub returns-clause-extents : goal.returns-clause-extents
returns-clause-extents g c =
    let self = c.args.self.now in
    c.in_ok-freed.ensures.extents ∙ ended_extents self.current (g.P.Pmem.state self.device) c.args.entries.now c.requires

pub returns-clause-moved : goal.returns-clause-moved
returns-clause-moved g c =
    let old = contents_of c.args.self.now.current (g.P.Pmem.state c.args.self.now.device) in
    let new = contents_of c.in-Some.next (g.P.Pmem.state c.free_under.new.device) in
    subst (λ (q : Record). Same (after_free c.args.entries.now (under q old)) new) c.in-Some.ensures.next c.in-Ok.ensures.moved

pub returns-clause-map : goal.returns-clause-map
returns-clause-map g c =
    raised_map c.args.floor (contents_of c.args.self.now.current (g.P.Pmem.state c.args.self.now.device))
    (contents_of c.in-Some.next (g.P.Pmem.state c.free_under.new.device)) c.args.entries.now c.requires (returns-clause-moved g c)

pub returns-clause-durable : goal.returns-clause-durable
returns-clause-durable g c = rest_keeps c.in-Some.next (g.P.Pmem.state c.free_under.new.device) c.in-Ok.ensures.rest

pub returns-clause-moments : goal.returns-clause-moments
returns-clause-moments g c sound =
    let d = g.P.Pmem.state c.args.self.now.device in
    let old = contents_of c.args.self.now.current d in
    subst (λ (q : Record). LeavesOnly d (g.P.Pmem.state c.free_under.new.device) (KeepsFreed c.args.entries.now old (under q old))) c.in-Some.ensures.next
    c.free_under.ensures.moments

pub returns-in_default-free_under-clause-stays : goal.returns-in_default-free_under-clause-stays
returns-in_default-free_under-clause-stays g c is_fault sound =
    elim c.in_default-free_under.ensures.stays [
      | inl before ↦ inl (rises c.args.self.now.current.floor c.args.floor (subst (λ (q : Record). c.args.self.now.current.floor < q.floor) c.in-Some.ensures.next before.0), before.1)
      | inr erased ↦ inr erased
    ]

pub returns-in_default-free_under-clause-moments : goal.returns-in_default-free_under-clause-moments
returns-in_default-free_under-clause-moments g c sound =
    let d = g.P.Pmem.state c.args.self.now.device in
    let old = contents_of c.args.self.now.current d in
    subst (λ (q : Record). LeavesOnly d (g.P.Pmem.state c.free_under.new.device) (KeepsFreed c.args.entries.now old (under q old))) c.in-Some.ensures.next
    c.free_under.ensures.moments
