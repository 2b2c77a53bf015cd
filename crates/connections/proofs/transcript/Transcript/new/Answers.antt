use Rattle.std.proofs.Common.{ap, arith, map, ℕ, Vec, Global}
use Rattle.connections.proofs.transcript.Transcript.new.Goals as goal

pub returns-clause-stands : goal.returns-clause-stands
returns-clause-stands c = record {
  calls_are = c.in_ok-with_capacity.ensures.items;
  positions = c.in_ok-with_capacity-2.ensures.items;
  positions_room = omega (arith, c.in_ok-with_capacity.ensures.exact, c.in_ok-with_capacity-2.ensures.exact);
  released = ap (map (λ (bytes : Vec ℕ Global). bytes.items)) c.new.ensures.items;
}
