use Rattle.std.proofs.Common.{◌≡◌}
use Rattle.pmem.specs.Runs.{LeavesOnly}
use Rattle.model.specs.Group.{Contents}
use Rattle.wbl_migrate.specs.Leaving.{AreLeaving, HasLeft, IsHeld, MovesEnded}
use Rattle.wbl_migrate.specs.Moving.{HoldsBy}
use Rattle.wbl_migrate.proofs.leaving.move_all_ended.Given as goal

abbrev pub invariant-loop-index : goal.invariant-loop-index
invariant-loop-index g l = record {
  so_far : (contents : Contents) → IsHeld l.current (g.P.Pmem.state l.fn.device) contents
      → AreLeaving contents l.versions.counted.items l.versions.gapped.items l.cleared l.fn.places.items 0
      → HasLeft l.current (g.P.Pmem.state l.device) contents l.versions.counted.items l.versions.gapped.items l.cleared l.places.items l.index;
  failures : (g.P.Pmem.state l.device).failures ≡ (g.P.Pmem.state l.fn.device).failures;
  line_count : (g.P.Pmem.state l.device).lines ≡ (g.P.Pmem.state l.fn.device).lines;
  asked_moment : (g.P.Pmem.state l.device).kept ≡ (g.P.Pmem.state l.fn.device).kept;
  moments : (contents : Contents) → IsHeld l.current (g.P.Pmem.state l.fn.device) contents
      → AreLeaving contents l.versions.counted.items l.versions.gapped.items l.cleared l.fn.places.items 0
      → LeavesOnly (g.P.Pmem.state l.fn.device) (g.P.Pmem.state l.device) (HoldsBy MovesEnded contents);
}
