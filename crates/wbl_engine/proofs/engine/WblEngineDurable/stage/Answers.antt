use Rattle.std.proofs.Common.{◌∙◌, ap, subst, sym}
use Rattle.model.specs.Group.{Versions, with_puts}
use Rattle.wbl_engine.specs.AtRest.{contents_of}
use Rattle.wbl_engine.specs.Copying.{AreStageable}
use Rattle.wbl_engine.proofs.HalfLemmas.{half_keeps, sound_half, staged_same}
use Rattle.wbl_engine.proofs.engine.WblEngineDurable.stage.Goals as goal

pub stage_part-requires-clause-half : goal.stage_part-requires-clause-half
stage_part-requires-clause-half g c =
    let self = c.args.self.now in
    sound_half self.copying (self.at_rest c.if-self.false) (self.half c.if-self.false) c.requires.newcomer c.requires.empty

pub stage_part-requires-clause-asked : goal.stage_part-requires-clause-asked
stage_part-requires-clause-asked g c =
    let self = c.args.self.now in
    let d = g.P.Pmem.state self.device in
    let same = sym (staged_same self.copying (self.at_rest c.if-self.false) (self.half c.if-self.false)) in
    subst (λ (staged : Versions). AreStageable (contents_of self.current d) staged c.args.puts.now) same c.requires

pub returns-clause-staged : goal.returns-clause-staged
returns-clause-staged g c =
    let self = c.args.self.now in
    let d = g.P.Pmem.state self.device in
    let same = staged_same self.copying (self.at_rest c.if-self.false) (self.half c.if-self.false) in
    λ i. c.in-Ok.ensures.staged i ∙ ap (λ (staged : Versions). with_puts c.args.position c.args.puts.now staged i) same

pub returns-clause-durable : goal.returns-clause-durable
returns-clause-durable g c = half_keeps c.in-Ok.ensures.half
