use Rattle.std.proofs.Common.{◌≡◌, take, map}
use Rattle.kv_types.specs.declared.place.EntryNo.{EntryNo}
use Rattle.pmem.specs.Crash.{image_of}
use Rattle.wbl_engine.specs.Erasing.{extent_in}
use Rattle.wbl_engine.proofs.freeing.named_extents.Given as goal

abbrev pub invariant-loop-entry : goal.invariant-loop-entry
invariant-loop-entry g l =
    l.extents.items ≡ map (λ (entry : EntryNo). extent_in (image_of (g.P.Pmem.state l.device).words) entry.0) (take l.entry-index l.entries)
