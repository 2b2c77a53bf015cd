use Rattle.std.proofs.Common.{◌≡◌, ◌+◌, ◌-◌, ◌≤◌, drop, length, vec_capacity}
use Rattle.pmem_file.specs.Call.{read_of, calls_of}
use Rattle.pmem_file.specs.Written.{from}
use Rattle.pmem_file.proofs.WritesLemmas.{Going}
use Rattle.pmem_file.proofs.logged_file.LoggedFile.write_words.Given as goal

abbrev pub invariant-loop-rest : goal.invariant-loop-rest
invariant-loop-rest l =
    record {
      going : Going l.first (length l.words) (from l.first l.words) (calls_of l.fn.self.calls) l.at (calls_of l.self.calls);
      rest : l.rest ≡ drop (l.at - l.first) l.words;
      all : l.at + length l.rest ≡ l.first + length l.words;
      read : read_of l.self.calls ≡ read_of l.fn.self.calls;
      capacity : vec_capacity l.fn.buffer ≤ vec_capacity l.buffer;
    }

abbrev pub decreases-loop-rest : goal.decreases-loop-rest
decreases-loop-rest l = length l.rest
