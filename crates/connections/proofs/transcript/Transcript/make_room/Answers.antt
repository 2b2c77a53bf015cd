use Rattle.std.proofs.Common.{◌∙◌, arith}
use Rattle.connections.proofs.PositionsLemmas.{room-made}
use Rattle.connections.proofs.transcript.Transcript.make_room.Goals as goal

pub returns-clause-stands : goal.returns-clause-stands
returns-clause-stands c = λ machines list told. record {
  calls_are = c.reserve_exact-2.ensures.items ∙ told.calls_are;
  positions = c.reserve_exact.ensures.items ∙ told.positions;
  positions_room = room-made c.args.self.now.calls c.reserve_exact-2.new.self c.reserve_exact.new.self list c.max-more.result told.calls_are (c.reserve_exact.ensures.items ∙ told.positions)
      (omega (arith, c.if-len-capacity.false, c.len.ensures, c.capacity.ensures)) c.in_ok-reserve_exact-2.ensures.capacity_exact c.in_ok-reserve_exact.ensures.ok;
  released = told.released;
}
