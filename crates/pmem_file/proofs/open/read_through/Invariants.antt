use Rattle.std.proofs.Common.{◌≡◌, ◌≤◌, List}
use Rattle.journal.specs.File.{lines_of_file}
use Rattle.model.specs.declared.image.TheConstants.{MIN_LINES, MAX_LINES}
use Rattle.pmem_file.specs.Opening.{Step, steps_of}
use Rattle.pmem_file.specs.Finding.{IsSeen}
use Rattle.pmem_file.proofs.open.read_through.Given as goal

abbrev pub invariant-loop : goal.invariant-loop
invariant-loop l =
    record {
      whole : lines_of_file l.head.shape ≡ l.lines;
      many : MIN_LINES ≤ l.head.shape.lines;
      few : l.head.shape.lines ≤ MAX_LINES;
      seen : (before : List Step) × IsSeen l.head before (steps_of l.opening.calls);
    }
