use Rattle.std.proofs.Common.{ℕ, sym, ◌∙◌}
use Rattle.std.proofs.lemmas.List.Sorted.{IsNonDecreasingBy-from_sort}
use Rattle.pmem_file.proofs.LinesLemmas.{has_line-permuted}
use Rattle.pmem_file.proofs.notes.Notes.sort.Goals as goal

pub invariant_of-self-clause-listed : goal.invariant_of-self-clause-listed
invariant_of-self-clause-listed c line =
    let notes = c.args.self.now in
    notes.listed line ∙ sym (has_line-permuted notes.lines.items c.sort_unstable.new.self.items c.sort_unstable.ensures.permutation line)

pub returns-clause-sorted : goal.returns-clause-sorted
returns-clause-sorted c = IsNonDecreasingBy-from_sort (λ (x : ℕ). x) c.sort_unstable.new.self.items c.sort_unstable.ensures.sorted
