use Rattle.std.proofs.Common.{◌≡◌, ℕ, ◌≤◌, length, get_or}
use Rattle.pmem_file.proofs.words.up_to_last.Given as goal

abbrev pub invariant-loop-count : goal.invariant-loop-count
invariant-loop-count l = (l.count ≤ length l.fn.words) × ((word : ℕ) → l.count ≤ word → get_or l.fn.words word 0 ≡ 0)

abbrev pub decreases-loop-count : goal.decreases-loop-count
decreases-loop-count l = l.count
