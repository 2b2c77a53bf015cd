use Rattle.std.proofs.Common.{◌≡◌, ◌+◌, ◌≤◌, vec_capacity}
use Rattle.pmem_file.specs.Call.{read_of, calls_of}
use Rattle.pmem_file.specs.Written.{blank}
use Rattle.pmem_file.proofs.WritesLemmas.{Going}
use Rattle.pmem_file.proofs.logged_file.LoggedFile.write_zeros.Given as goal

abbrev pub invariant-loop-left : goal.invariant-loop-left
invariant-loop-left l =
    record {
      going : Going l.first l.count blank (calls_of l.fn.self.calls) l.at (calls_of l.self.calls);
      all : l.at + l.left ≡ l.first + l.count;
      read : read_of l.self.calls ≡ read_of l.fn.self.calls;
      capacity : vec_capacity l.fn.buffer ≤ vec_capacity l.buffer;
    }

abbrev pub decreases-loop-left : goal.decreases-loop-left
decreases-loop-left l = l.left
