use Rattle.std.proofs.Common.{◌≡◌, ◌*◌, ◌≤◌, vec_len, vec_capacity, take}
use Rattle.pmem_file.specs.Byte.{bytes_of}
use Rattle.pmem_file.proofs.bytes.encode.Given as goal

abbrev pub invariant-loop-word : goal.invariant-loop-word
invariant-loop-word l =
    (l.buffer.items ≡ bytes_of (take l.word-index l.words))
    × (vec_len l.buffer ≡ 8 * l.word-index)
    × (vec_capacity l.fn.buffer ≤ vec_capacity l.buffer)
