use Rattle.std.proofs.Common.{◌≡◌, ◌++◌, drop}
use Rattle.pmem_file.proofs.words.Words.split_off.Given as goal

abbrev pub invariant-loop-word : goal.invariant-loop-word
invariant-loop-word l = l.taken.items ++ drop l.word l.self ≡ drop l.at l.self
