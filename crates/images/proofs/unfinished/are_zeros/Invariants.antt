use Rattle.std.proofs.Common.{◌≡◌, ◌≤◌, ℕ, ◌*◌, ◌<◌}
use Rattle.pmem.specs.Crash.{image_of}
use Rattle.images.proofs.unfinished.are_zeros.Given as goal

abbrev pub invariant-loop-word : goal.invariant-loop-word
invariant-loop-word g l = (k : ℕ) → k < l.word → 8 * l.first ≤ k → image_of (g.P.Pmem.state l.device).words k ≡ 0
