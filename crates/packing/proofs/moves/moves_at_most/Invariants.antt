use Rattle.std.proofs.Common.{◌≡◌, ◌+◌, drop}
use Rattle.packing.specs.Moves.{lines_moved}
use Rattle.packing.proofs.moves.moves_at_most.Given as goal

abbrev pub invariant-loop-step : goal.invariant-loop-step
invariant-loop-step l = l.left + lines_moved l.moves ≡ l.most + lines_moved (drop l.step-index l.moves)
