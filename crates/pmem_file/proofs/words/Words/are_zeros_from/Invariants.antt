use Rattle.std.proofs.Common.{◌≡◌, ℕ, ◌<◌, ◌≤◌, get_or}
use Rattle.pmem_file.proofs.words.Words.are_zeros_from.Given as goal

abbrev pub invariant-loop-word : goal.invariant-loop-word
invariant-loop-word l = (w : ℕ) → l.first ≤ w → w < l.word → get_or l.self w 0 ≡ 0
