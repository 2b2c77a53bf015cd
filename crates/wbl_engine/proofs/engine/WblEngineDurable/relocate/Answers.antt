use Rattle.std.proofs.Common.{◌≡◌, ℕ, ◌<◌, List, [], ◌∷◌, length, Some, inl, refl, arith}
use Rattle.model.specs.declared.group.Part.{Part}
use Rattle.model.specs.Group.{Contents, Versions}
use Rattle.model.specs.Image.{Version}
use Rattle.pmem.proofs.Leaving.{none_leaves}
use Rattle.wbl_engine.specs.AtRest.{contents_of}
use Rattle.wbl_engine.specs.Relocating.{AreMadeAgain, IsRelocation, after_relocation}
use Rattle.wbl_engine.proofs.Committing.{KeepsEither}
use Rattle.wbl_engine.proofs.Erased.{rest_keeps}
use Rattle.wbl_engine.proofs.HalfLemmas.{held_idle, held_rest, sound_keeps, sound_lawful}
use Rattle.wbl_engine.proofs.RelocatingLemmas.{contents_consistent, relocated_keeps}
use Rattle.wbl_engine.proofs.engine.WblEngineDurable.relocate.Goals as goal

-- the first version that is moved
first_moved : (position : ℕ) (versions : Versions) (parts : List Part) → 0 < length parts → AreMadeAgain position versions parts
    → (entry : ℕ) × (version : Version) × (versions entry ≡ Some version)
first_moved position versions [] some each = absurd (omega (arith, some))
first_moved position versions (part ∷ parts) some each = (each.1.entry, each.1.version, each.1.held)

moved : {contents : Contents} {parts : List Part} → IsRelocation contents parts
    → (entry : ℕ) × (version : Version) × (contents.versions entry ≡ Some version)
moved {contents} {parts} is = first_moved contents.current.position contents.versions parts is.some is.each

pub returns-in_default-clause-moments : goal.returns-in_default-clause-moments
returns-in_default-clause-moments g c sound =
    let r = c.args.self.now.current in
    let d = g.P.Pmem.state c.args.self.now.device in
    none_leaves d (KeepsEither (contents_of r d) (after_relocation (contents_of r d) c.args.parts.now))
    (λ image is. inl (sound_keeps c.args.self.now.copying (c.args.self.now.at_rest sound) (c.args.self.now.half sound) image is))

pub commit_relocation-requires-clause-rest : goal.commit_relocation-requires-clause-rest
commit_relocation-requires-clause-rest g c =
    let self = c.args.self.now in
    held_rest self.copying (self.at_rest c.if-self.false) (self.half c.if-self.false) (moved c.requires).0 (moved c.requires).1 (moved c.requires).2

pub returns-clause-map : goal.returns-clause-map
returns-clause-map g c =
    let r = c.args.self.now.current in
    let d = g.P.Pmem.state c.args.self.now.device in
    relocated_keeps (contents_consistent r d) c.requires _ c.in-Ok.ensures.moved

pub returns-clause-durable : goal.returns-clause-durable
returns-clause-durable g c = rest_keeps c.in-Some.next (g.P.Pmem.state c.commit_relocation.new.device) c.in-Ok.ensures.rest

pub relocated_record-requires : goal.relocated_record-requires
relocated_record-requires g c =
    let self = c.args.self.now in
    record { lawful = sound_lawful self.copying (self.at_rest c.if-self.false) (self.half c.if-self.false); few = c.requires.few }

pub invariant_of-self-2 : goal.invariant_of-self-2
invariant_of-self-2 g c =
    let self = c.args.self.now in
    record {
      at_rest = λ sound idle. c.in-Ok.ensures.rest;
      half = λ sound begun.
          absurd (held_idle self.copying (self.at_rest c.if-self.false) (self.half c.if-self.false) (moved c.requires).0 (moved c.requires).1
          (moved c.requires).2 begun);
      synced = λ sound. c.in-Ok.ensures.synced;
    }

pub returns-clause-copy : goal.returns-clause-copy
returns-clause-copy g c =
    let self = c.args.self.now in (
      refl,
      λ begun.
          absurd (held_idle self.copying (self.at_rest c.if-self.false) (self.half c.if-self.false) (moved c.requires).0 (moved c.requires).1
          (moved c.requires).2 begun),
    )

pub returns-in_default-commit_relocation-clause-copy : goal.returns-in_default-commit_relocation-clause-copy
returns-in_default-commit_relocation-clause-copy g c =
    let self = c.args.self.now in (
      refl,
      λ begun.
          absurd (held_idle self.copying (self.at_rest c.if-self.false) (self.half c.if-self.false) (moved c.requires).0 (moved c.requires).1
          (moved c.requires).2 begun),
    )
