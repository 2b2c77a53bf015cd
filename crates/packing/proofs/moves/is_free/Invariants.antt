use Rattle.std.proofs.Common.{◌≡◌, drop}
use Rattle.packing.specs.Moves.{is_free}
use Rattle.packing.proofs.moves.is_free.Given as goal

abbrev pub invariant-loop-extent : goal.invariant-loop-extent
invariant-loop-extent l = is_free l.wanted (drop l.extent-index l.extents) ≡ is_free l.wanted l.extents
