use Rattle.std.proofs.Common.{◌≡◌, ◌*◌, ◌≤◌, vec_len, vec_capacity, drop, take}
use Rattle.pmem_file.specs.Byte.{bytes_of}
use Rattle.pmem_file.proofs.words.Words.encode.Given as goal

abbrev pub invariant-loop-i : goal.invariant-loop-i
invariant-loop-i l =
    (l.buffer.items ≡ bytes_of (take l.i (drop l.first l.self)))
    × (vec_len l.buffer ≡ 8 * l.i)
    × (vec_capacity l.fn.buffer ≤ vec_capacity l.buffer)
