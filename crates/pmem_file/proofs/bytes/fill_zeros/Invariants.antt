use Rattle.std.proofs.Common.{◌≡◌, ◌-◌, ◌≤◌, vec_len, vec_capacity, replicate}
use Rattle.pmem_file.proofs.bytes.fill_zeros.Given as goal

abbrev pub invariant-loop-buffer : goal.invariant-loop-buffer
invariant-loop-buffer l =
    (l.buffer.items ≡ replicate (vec_len l.buffer) 0)
    × (vec_len l.buffer ≤ l.count)
    × (vec_capacity l.fn.buffer ≤ vec_capacity l.buffer)

abbrev pub decreases-loop-buffer : goal.decreases-loop-buffer
decreases-loop-buffer l = l.count - vec_len l.buffer
