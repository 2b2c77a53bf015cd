use Rattle.std.proofs.Common.{◌≡◌, ℕ, Bool, false, List, get_or, sym, ap, ◌∙◌, rules}
use Rattle.pmem_file.specs.Line.{has_line}
use Rattle.pmem_file.proofs.LinesLemmas.{unmarked, marked-none}
use Rattle.pmem_file.proofs.notes.Notes.new.Goals as goal
use Rattle.pmem_file.proofs.notes.Notes.new.Goals.{In_ok-vec}

all_unmarked : (c : In_ok-vec) (line : ℕ) → get_or c.in_ok-vec.field-0.items line false ≡ false
all_unmarked c line =
    ap (λ (marks : List Bool). get_or marks line false) (c.in_ok-vec.ensures.items_if_clones_equal (λ y q. search rules)) ∙ unmarked c.args.lines line

pub invariant_of-result-clause-listed : goal.invariant_of-result-clause-listed
invariant_of-result-clause-listed c line =
    all_unmarked c line ∙ sym (ap (λ (xs : List ℕ). has_line xs line) c.in_ok-with_capacity.ensures.items)

pub invariant_of-result-clause-counted : goal.invariant_of-result-clause-counted
invariant_of-result-clause-counted c = c.in_ok-with_capacity.ensures.len ∙ sym (marked-none c.in_ok-vec.field-0.items (all_unmarked c))
