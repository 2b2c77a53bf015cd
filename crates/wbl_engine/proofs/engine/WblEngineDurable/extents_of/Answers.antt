use Rattle.std.proofs.Common.{◌≡◌, ◌∙◌, map}
use Rattle.std.proofs.lemmas.Result.{IfOk-weaker}
use Rattle.kv_types.specs.declared.place.EntryNo.{EntryNo}
use Rattle.pmem.specs.Crash.{image_of}
use Rattle.wbl_engine.specs.AtRest.{contents_of}
use Rattle.wbl_engine.specs.Erasing.{extent_in}
use Rattle.wbl_engine.specs.Freeing.{extents_of}
use Rattle.wbl_engine.proofs.FreeingLemmas.{ended_extents, listed_lines}
use Rattle.wbl_engine.proofs.HalfLemmas.{sound_many}
use Rattle.wbl_engine.proofs.engine.WblEngineDurable.extents_of.Goals as goal

pub named_extents-requires : goal.named_extents-requires
named_extents-requires g c =
    let self = c.args.self.now in
    listed_lines self.current (g.P.Pmem.state self.device) c.args.entries.now (sound_many self.copying (self.at_rest c.requires.sound) (self.half c.requires.sound)) c.requires.ended

pub returns : goal.returns
returns g c =
    let r = c.args.self.now.current in
    let d = g.P.Pmem.state c.args.self.now.device in
    let entries = c.args.entries.now in
    IfOk-weaker c.named_extents.result (λ extents. extents.items ≡ map (λ (entry : EntryNo). extent_in (image_of d.words) entry.0) entries)
    (λ extents. extents.items ≡ extents_of (contents_of r d).versions entries) (λ extents named. named ∙ ended_extents r d entries c.requires.ended) c.named_extents.ensures
