use Rattle.std.proofs.Common.{◌≡◌, ℕ, ◌+◌, ◌<◌, true, false, List, ◌∷◌, drop, length, get_or, refl, inl, inr, sym, ap, ◌∙◌, arith, get_or-set_other}
use Rattle.std.proofs.lemmas.List.{at_drop_more, drop_all}
use Rattle.std.proofs.lemmas.Bool.Decides.{nat_tests}
use Rattle.pmem.proofs.Staging.{same_or_other}
use Rattle.pmem_file.specs.Line.{has_line}
use Rattle.pmem_file.proofs.LinesLemmas.{marked-below, not_marked, has_line-at, cleared}
use Rattle.pmem_file.proofs.notes.unmark.Goals as goal

pub loop-line-init : goal.loop-line-init
loop-line-init c = (λ other e. sym (c.requires other) ∙ e, refl)

pub index_mut-requires : goal.index_mut-requires
index_mut-requires c =
    let marks = c.args.marks.now in
    let line = get_or c.args.lines.now c.loop-line.line-index 0 in
    let below = marked-below marks.items line (c.requires line ∙ has_line-at c.args.lines.now c.loop-line.line-index c.loop-line-test.true) in
    omega (arith, below, c.loop-line.invariant.1, marks.ok.0)

pub loop-line-preserved : goal.loop-line-preserved
loop-line-preserved c =
    let lines = c.args.lines.now in
    let marks = c.loop-line.marks.items in
    let line = get_or lines c.loop-line.line-index 0 in
    let below : line < length marks =
    omega (arith, marked-below c.args.marks.now.items line (c.requires line ∙ has_line-at lines c.loop-line.line-index c.loop-line-test.true), c.loop-line.invariant.1, c.args.marks.now.ok.0, c.loop-line.marks.ok.0) in (
      (λ other e.
          elim (same_or_other other line) [
            | inl same ↦ absurd (cleared marks line other below same e)
            | inr apart ↦
                let was : get_or marks other false ≡ true = sym (get_or-set_other marks line other false false apart) ∙ e in
                let listed = c.loop-line.invariant.0 other was in
                let more : has_line (line ∷ drop (c.loop-line.line-index + 1) lines) other ≡ true =
                sym (at_drop_more (λ (xs : List ℕ). has_line xs other) lines c.loop-line.line-index 0 c.loop-line-test.true) ∙ listed in
                grind (arith, nat_tests, more, apart)
          ]),
      c.loop-line.invariant.1,
    )

pub returns-clause-none : goal.returns-clause-none
returns-clause-none c line =
    not_marked c.loop-line.marks.items line
    (λ e. sym (ap (λ (xs : List ℕ). has_line xs line) (drop_all c.loop-line.line-index c.args.lines.now c.loop-line-test.false)) ∙ c.loop-line.invariant.0 line e)
