use Rattle.std.proofs.Common.{◌≡◌, ◌+◌, ◌*◌, ◌++◌, drop, vec_len}
use Rattle.pmem_file.specs.Byte.{words_in}
use Rattle.pmem_file.proofs.bytes.decode.Given as goal

abbrev pub invariant-loop-i : goal.invariant-loop-i
invariant-loop-i l =
    record {
      words : l.words.items ++ words_in (drop (8 * l.i) l.bytes) ≡ l.fn.words.items ++ words_in l.bytes;
      count : vec_len l.words ≡ vec_len l.fn.words + l.i;
    }
