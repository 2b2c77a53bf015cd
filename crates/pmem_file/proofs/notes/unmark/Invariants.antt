use Rattle.std.proofs.Common.{◌≡◌, ℕ, true, false, drop, vec_len, get_or}
use Rattle.pmem_file.specs.Line.{has_line}
use Rattle.pmem_file.proofs.notes.unmark.Given as goal

abbrev pub invariant-loop-line : goal.invariant-loop-line
invariant-loop-line l =
    ((other : ℕ) → get_or l.marks.items other false ≡ true → has_line (drop l.line-index l.lines) other ≡ true)
    × (vec_len l.marks ≡ vec_len l.fn.marks)
