use Rattle.std.proofs.Common.{◌≡◌, ℕ, ◌<◌, Bool, true, false, ◌||◌, ◌==◌, List, take, get_or, vec_len, refl, sym, ap, ◌∙◌, arith}
use Rattle.std.proofs.lemmas.List.{take_more, take_all}
use Rattle.std.proofs.Math.Bool.{or-false}
use Rattle.pmem_file.specs.Line.{has_line}
use Rattle.pmem_file.specs.Noted.{is_noted}
use Rattle.pmem_file.proofs.LinesLemmas.{has_line-push, has_line-at}
use Rattle.pmem_file.proofs.notes.Notes.add_all.Goals as goal

or-turned : (a b c : Bool) → (a || (b || c)) ≡ (b || (a || c))
or-turned true true c = refl
or-turned true false c = refl
or-turned false true c = refl
or-turned false false c = refl

pub loop-line-init : goal.loop-line-init
loop-line-init c = record { noted = λ line. sym (or-false (is_noted c.args.self.now line)); marks = refl }

pub add-requires : goal.add-requires
add-requires c =
    let lines = c.args.lines.now in
    let line = get_or lines c.loop-line.line-index 0 in
    let below : line < vec_len c.args.self.now.marks = c.requires line (has_line-at lines c.loop-line.line-index c.loop-line-test.true) in
    omega (arith, below, c.loop-line.invariant.marks)

pub loop-line-preserved : goal.loop-line-preserved
loop-line-preserved c =
    let lines = c.args.lines.now in
    let i = c.loop-line.line-index in
    let line = get_or lines i 0 in
    record {
      noted = λ other.
          c.add.ensures.noted other
          ∙ ap (λ (b : Bool). (other == line) || b) (c.loop-line.invariant.noted other)
          ∙ or-turned (other == line) (is_noted c.args.self.now other) (has_line (take i lines) other)
          ∙ ap (λ (b : Bool). is_noted c.args.self.now other || b)
          (sym (ap (λ (ls : List ℕ). has_line ls other) (take_more lines i 0 c.loop-line-test.true) ∙ has_line-push (take i lines) line other));
      marks = c.add.ensures.lines ∙ c.loop-line.invariant.marks;
    }

pub returns-clause-noted : goal.returns-clause-noted
returns-clause-noted c line =
    c.loop-line.invariant.noted line
    ∙ ap (λ (ls : List ℕ). is_noted c.args.self.now line || has_line ls line) (take_all c.loop-line.line-index c.args.lines.now c.loop-line-test.false)
