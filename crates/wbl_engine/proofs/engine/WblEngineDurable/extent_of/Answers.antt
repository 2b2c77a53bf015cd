use Rattle.wbl_engine.proofs.ExtentLemmas.{extent_is, line_within}
use Rattle.wbl_engine.proofs.HalfLemmas.{held_rest, sound_many}
use Rattle.wbl_engine.proofs.engine.WblEngineDurable.extent_of.Goals as goal

pub extent_of-requires : goal.extent_of-requires
extent_of-requires g c =
    let self = c.args.self.now in
    line_within self.current (g.P.Pmem.state self.device) (sound_many self.copying (self.at_rest c.requires.sound) (self.half c.requires.sound)) c.args.entry.0 c.requires.within

pub returns : goal.returns
returns g c version held =
    let self = c.args.self.now in
    extent_is (held_rest self.copying (self.at_rest c.requires.sound) (self.half c.requires.sound) c.args.entry.0 version held) c.args.entry.0 c.requires.within version held c.extent_of.result c.extent_of.ensures
