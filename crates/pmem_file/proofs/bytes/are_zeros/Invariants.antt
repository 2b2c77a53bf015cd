use Rattle.std.proofs.Common.{◌≡◌, ◌*◌, ◌++◌, drop, replicate}
use Rattle.pmem_file.specs.Byte.{words_in}
use Rattle.pmem_file.proofs.bytes.are_zeros.Given as goal

abbrev pub invariant-loop-i : goal.invariant-loop-i
invariant-loop-i l = words_in l.bytes ≡ replicate l.i 0 ++ words_in (drop (8 * l.i) l.bytes)
