use Rattle.std.proofs.Common.{◌≡◌, drop, length}
use Rattle.packing.specs.Moves.{AreMoves, after_moves}
use Rattle.packing.specs.Taken.{AllTaken}
use Rattle.packing.proofs.taken.shows.Given as goal

abbrev pub invariant-loop-step : goal.invariant-loop-step
invariant-loop-step l = record {
  are : AreMoves l.first l.lines l.left.items (drop l.step-index l.moves) → AreMoves l.first l.lines l.extents l.moves;
  after : after_moves l.left.items (drop l.step-index l.moves) ≡ after_moves l.extents l.moves;
  taken : AllTaken l.taken.items l.left.items;
  lines : length l.taken.items ≡ l.lines;
}
