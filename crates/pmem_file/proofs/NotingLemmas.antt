-- The lines of the records of a journal, noted one record after another.
use Rattle.std.proofs.Common.{◌≡◌, ℕ, Bool, true, false, ◌||◌, List, [], ◌∷◌, sym, subst, ap, ◌∙◌}
use Rattle.std.proofs.Math.Bool.{or-false, or_assoc}
use Rattle.std.proofs.lemmas.Bool.{true≢false}
use Rattle.journal.specs.Record.{Record}
use Rattle.journal.specs.Journal.{IsJournal, passes, record_in, behind}
use Rattle.journal.specs.Replay.{is_recorded, has_line as same_in}
use Rattle.pmem_file.specs.Line.{has_line}
use Rattle.pmem_file.proofs.ReplayedLemmas.{same-lines}

-- Of all records of a journal some are noted, and the others are in what is left
abbrev pub IsNoting : ℕ → List ℕ → List ℕ → (ℕ → Bool) → (ℕ → Bool) → Type 0
IsNoting lines part rest first now =
    (all : List Record) → IsJournal lines part all
    → (more : List Record) × IsJournal lines rest more × ((line : ℕ) → (now line || is_recorded more line) ≡ (first line || is_recorded all line))

pub noting-next : (lines : ℕ) (part rest later numbers : List ℕ) (first now next : ℕ → Bool) → passes lines rest ≡ true → numbers ≡ (record_in rest).numbers
    → later ≡ behind rest → ((line : ℕ) → next line ≡ (now line || has_line numbers line)) → IsNoting lines part rest first now
    → IsNoting lines part later first next
noting-next lines part rest later numbers first now next whole are is noted noting all journal =
    let was = noting all journal in
    step was.0 was.1 was.2
  where
    step : (more : List Record) → IsJournal lines rest more → ((line : ℕ) → (now line || is_recorded more line) ≡ (first line || is_recorded all line))
        → (more : List Record) × IsJournal lines later more × ((line : ℕ) → (next line || is_recorded more line) ≡ (first line || is_recorded all line))
    step [] none same = absurd (true≢false (sym whole ∙ none))
    step (r ∷ more) some same = (
      more,
      subst (λ (words : List ℕ). IsJournal lines words more) (sym is) some.2,
      λ line.
          ap (λ (b : Bool). b || is_recorded more line)
          (noted line ∙ ap (λ (b : Bool). now line || b)
          (sym (same-lines numbers line) ∙ ap (λ (ns : List ℕ). same_in ns line) (are ∙ sym (ap (λ (x : Record). x.numbers) some.1))))
          ∙ or_assoc (now line) (same_in r.numbers line) (is_recorded more line) ∙ same line,
    )

pub noted-all : (lines : ℕ) (part rest : List ℕ) (first now : ℕ → Bool) → passes lines rest ≡ false → IsNoting lines part rest first now
    → (all : List Record) → IsJournal lines part all → (line : ℕ) → now line ≡ (first line || is_recorded all line)
noted-all lines part rest first now none noting all journal line =
    let was = noting all journal in
    end was.0 was.1 (was.2 line)
  where
    end : (more : List Record) → IsJournal lines rest more → (now line || is_recorded more line) ≡ (first line || is_recorded all line)
        → now line ≡ (first line || is_recorded all line)
    end [] empty same = sym (or-false (now line)) ∙ same
    end (r ∷ more) some same = absurd (true≢false (sym some.0 ∙ none))
