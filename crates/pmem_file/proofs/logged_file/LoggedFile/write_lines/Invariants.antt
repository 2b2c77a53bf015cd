use Rattle.std.proofs.Common.{◌≡◌, ◌≤◌, drop, vec_capacity}
use Rattle.pmem_file.specs.Call.{read_of, calls_of}
use Rattle.pmem_file.proofs.CallsLemmas.{Writing}
use Rattle.pmem_file.proofs.logged_file.LoggedFile.write_lines.Given as goal

abbrev pub invariant-loop-line : goal.invariant-loop-line
invariant-loop-line l =
    record {
      writing : Writing l.words l.lines (calls_of l.fn.self.calls) l.run.first l.run.count (drop l.line-index l.later) (calls_of l.self.calls);
      read : read_of l.self.calls ≡ read_of l.fn.self.calls;
      capacity : vec_capacity l.fn.buffer ≤ vec_capacity l.buffer;
    }
