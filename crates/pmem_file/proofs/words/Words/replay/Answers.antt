use Rattle.std.proofs.Common.{◌≡◌, ℕ, ◌≤◌, List, length, take, get_or, inl, inr, sym, ap, ◌∙◌, arith}
use Rattle.std.proofs.lemmas.Bool.{cases_lt}
use Rattle.std.proofs.lemmas.List.{get_or-take, get_or_past, length-take}
use Rattle.journal.specs.Replay.{replayed}
use Rattle.journal.proofs.ReplayLemmas.{replayed-at}
use Rattle.pmem_file.proofs.WordsLemmas.{length-filled, whole-at}
use Rattle.pmem_file.proofs.ReplayedLemmas.{replayed-none, journal-beyond}
use Rattle.pmem_file.proofs.words.Words.replay.Goals as goal

pub returns-clause-replayed : goal.returns-clause-replayed
returns-clause-replayed c =
    let words = c.args.self.now in
    let kept = c.self.inside.kept.items in
    let count = c.self.inside.count in
    let size : length words ≡ count = ap length (sym c.self.view_is) ∙ length-filled kept count ∙ omega (arith, c.self.invariant.0) in
    let all = c.replay.new.image.items in
    let cut = c.truncate.new.self.items in
    let records = c.replay.ensures.replayed.0 in
    let old : (word : ℕ) → get_or kept word 0 ≡ get_or words word 0 =
    λ word. sym (whole-at kept count word) ∙ ap (λ (l : List ℕ). get_or l word 0) c.self.view_is in
    let made : (word : ℕ) → get_or all word 0 ≡ replayed records (λ w. get_or words w 0) word =
    λ word.
    c.replay.ensures.replayed.3 word
    ∙ replayed-at records (λ w. get_or kept w 0) (λ w. get_or words w 0) word (λ none. old word) in (
      records,
      c.replay.ensures.replayed.1,
      λ word.
          whole-at cut count word ∙ ap (λ (l : List ℕ). get_or l word 0) c.truncate.ensures.items
          ∙ elim (cases_lt word count) [
            | inl inside ↦ get_or-take count all word 0 inside ∙ made word
            | inr beyond ↦
                let short : length (take count all) ≤ word = omega (arith, beyond, length-take count all) in
                get_or_past (take count all) word 0 short
                ∙ sym (get_or_past words word 0 (omega (arith, beyond, size)))
                ∙ sym (replayed-none records (λ w. get_or words w 0) word
                (journal-beyond c.args.lines c.args.journal.now records word c.replay.ensures.replayed.1 (omega (arith, beyond, size, c.requires))))
          ],
    )
