-- The lines that wait for a fence.
use Rattle.std.specs.Prelude.{ℕ, Bool, false, slice_index_or}
use Rattle.pmem_file.specs.declared.notes.Notes.{Notes}

-- whether a line is noted
abbrev pub is_noted : Notes → ℕ → Bool
is_noted notes line = slice_index_or notes.marks.items line false
