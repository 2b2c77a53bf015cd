use Rattle.std.proofs.Common.{◌≡◌, ◌*◌, ◌-◌, ◌≤◌, min, length, vec_len}
use Rattle.pmem_file.specs.Opening.{steps_of, with_blocks}
use Rattle.pmem_file.proofs.reading.read_words.Given as goal

abbrev pub invariant-loop-number : goal.invariant-loop-number
invariant-loop-number l =
    record {
      count : length l.words ≡ 8 * min l.lines (1024 * l.number);
      block : 64 * min 1024 (l.lines - 1024 * l.number) ≤ vec_len l.block;
      read : steps_of l.opening.calls ≡ with_blocks l.writes_back l.words l.number (steps_of l.fn.opening.calls);
    }
