use Rattle.std.proofs.Common.{◌≡◌, ℕ, length}
use Rattle.pmem_file.specs.Noted.{is_noted}
use Rattle.pmem_file.proofs.NotingLemmas.{IsNoting}
use Rattle.pmem_file.proofs.file_journal.FileJournal.note_recorded.Given as goal

abbrev pub invariant-loop-record : goal.invariant-loop-record
invariant-loop-record l =
    record {
      noting : IsNoting l.lines l.part l.rest (λ (line : ℕ). is_noted l.fn.self.recorded line) (λ (line : ℕ). is_noted l.self.recorded line);
      lines : l.lines ≡ l.self.head.shape.lines;
      head : l.self.head ≡ l.fn.self.head;
      used : l.self.used ≡ l.fn.self.used;
      sealed : l.self.sealed ≡ l.fn.self.sealed;
    }

abbrev pub decreases-loop-record : goal.decreases-loop-record
decreases-loop-record l = length l.rest
