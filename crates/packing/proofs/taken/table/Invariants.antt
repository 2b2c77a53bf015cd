use Rattle.std.proofs.Common.{◌≡◌, length}
use Rattle.packing.specs.Taken.{AreTaken}
use Rattle.packing.proofs.taken.table.Given as goal

abbrev pub invariant-loop-extent : goal.invariant-loop-extent
invariant-loop-extent l = record {
  taken : AreTaken l.taken.items l.extent-index l.extents;
  lines : length l.taken.items ≡ l.lines;
}
