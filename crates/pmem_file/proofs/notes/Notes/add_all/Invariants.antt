use Rattle.std.proofs.Common.{◌≡◌, ℕ, ◌||◌, take, vec_len}
use Rattle.pmem_file.specs.Line.{has_line}
use Rattle.pmem_file.specs.Noted.{is_noted}
use Rattle.pmem_file.proofs.notes.Notes.add_all.Given as goal

abbrev pub invariant-loop-line : goal.invariant-loop-line
invariant-loop-line l =
    record {
      noted : (line : ℕ) → is_noted l.self line ≡ (is_noted l.fn.self line || has_line (take l.line-index l.lines) line);
      marks : vec_len l.self.marks ≡ vec_len l.fn.self.marks;
    }
