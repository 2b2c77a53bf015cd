use Rattle.std.proofs.Common.{ℕ, List, drop}
use Rattle.kv_types.specs.declared.place.Extent.{Extent}
use Rattle.packing.specs.Sliding.{CanSlide, IsInOrder}
use Rattle.packing.proofs.SlideLemmas.{HasSlid}
use Rattle.packing.proofs.sliding.slide.Given as goal

abbrev pub invariant-loop-one : goal.invariant-loop-one
invariant-loop-one l = (lines : ℕ) (extents : List Extent) → IsInOrder extents l.placed → CanSlide l.first l.end lines l.need extents
    → HasSlid l.first l.end lines extents l.slid.moves.items l.slid.floor (drop l.one-index l.placed)
