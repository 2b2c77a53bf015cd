use Rattle.std.proofs.Common.{ℕ, List, length, sym, ap, ◌∙◌, arith}
use Rattle.pmem_file.specs.Line.{has_line}
use Rattle.pmem_file.proofs.LinesLemmas.{marked-le, marked-below}
use Rattle.pmem_file.proofs.notes.Notes.lines.Goals as goal

pub returns-clause-within : goal.returns-clause-within
returns-clause-within c line has =
    let notes = c.args.self.now in
    let below = marked-below notes.marks.items line (notes.listed line ∙ sym (ap (λ (ls : List ℕ). has_line ls line) c.deref.ensures.value) ∙ has) in
    omega (arith, below, notes.marks.ok.0)

pub returns-clause-few : goal.returns-clause-few
returns-clause-few c =
    let notes = c.args.self.now in
    omega (arith, ap length c.deref.ensures.value, marked-le notes.marks.items, notes.counted, notes.lines.ok.0, notes.marks.ok.0)
