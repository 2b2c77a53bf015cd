use Rattle.std.proofs.Common.{ℕ, List, sym, ap, ◌∙◌}
use Rattle.pmem_file.specs.Line.{has_line}
use Rattle.pmem_file.proofs.LinesLemmas.{marked-none}
use Rattle.pmem_file.proofs.notes.Notes.clear.Goals as goal

pub invariant_of-self-clause-listed : goal.invariant_of-self-clause-listed
invariant_of-self-clause-listed c line =
    c.unmark.ensures.none line ∙ sym (ap (λ (xs : List ℕ). has_line xs line) c.clear.ensures.items)

pub invariant_of-self-clause-counted : goal.invariant_of-self-clause-counted
invariant_of-self-clause-counted c = c.clear.ensures.len ∙ sym (marked-none c.unmark.new.marks.items c.unmark.ensures.none)
