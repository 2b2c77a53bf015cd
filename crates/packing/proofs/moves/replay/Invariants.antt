use Rattle.std.proofs.Common.{◌≡◌, drop}
use Rattle.packing.specs.Moves.{AreMoves, after_moves}
use Rattle.packing.proofs.moves.replay.Given as goal

abbrev pub invariant-loop-step : goal.invariant-loop-step
invariant-loop-step l = record {
  are : AreMoves l.first l.end l.left.items (drop l.step-index l.moves) → AreMoves l.first l.end l.extents l.moves;
  only : AreMoves l.first l.end l.extents l.moves → AreMoves l.first l.end l.left.items (drop l.step-index l.moves);
  after : after_moves l.left.items (drop l.step-index l.moves) ≡ after_moves l.extents l.moves;
}
