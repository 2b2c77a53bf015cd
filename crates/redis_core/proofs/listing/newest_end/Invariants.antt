use Rattle.std.proofs.Common.{◌≡◌, drop}
use Rattle.redis_core.specs.Sequencing as listing
use Rattle.redis_core.proofs.listing.newest_end.Given as goal

abbrev pub invariant-loop-part : goal.invariant-loop-part
invariant-loop-part l = listing.newest_end l.newest (drop l.part-index l.parts) ≡ listing.newest_end l.fn.newest l.parts
