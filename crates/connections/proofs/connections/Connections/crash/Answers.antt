use Rattle.std.proofs.Common.{refl}
use Rattle.connections.proofs.OverLemmas.{crashed-stands}
use Rattle.connections.proofs.connections.Connections.crash.Goals as goal

pub returns-clause-goes : goal.returns-clause-goes
returns-clause-goes c = λ machines list stand.
    crashed-stands c.args.self.now _ c.args.transcript.now c.cut.new.self machines list c.args.position stand c.end_all.ensures.seats c.end_all.ensures.unseated c.end_all.ensures.count
    c.cut.ensures.calls c.cut.ensures.positions c.cut.ensures.room c.cut.ensures.released refl
