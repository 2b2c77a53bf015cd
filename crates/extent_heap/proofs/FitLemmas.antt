-- The lowest run that is long enough.
use Rattle.std.proofs.Common.{ℕ, ◌+◌, ◌<◌, ◌≤◌, ◌||◌, IsTrue, List, [], ◌∷◌, ◌++◌, sym, ap, subst, ◌∙◌, arith}
use Rattle.std.proofs.lemmas.Bool.{or_right, true≢false}
use Rattle.kv_types.specs.declared.place.Extent.{Extent}
use Rattle.extent_heap.specs.Extents.{is_line_of}
use Rattle.extent_heap.specs.Runs.{has_line, AreRuns, longest, IsFirstFit}
use Rattle.extent_heap.proofs.RunsLemmas.{has_line-append, at_run, line_within, line_behind, none_below}

-- so many lines in a row are in runs
abbrev pub InRuns : List Extent → ℕ → ℕ → Type 0
InRuns runs first lines = (line : ℕ) → first ≤ line → line < first + lines → IsTrue (has_line runs line)

-- the first of them is in no run if all begin behind it
pub not_before : (low high first : ℕ) (runs : List Extent) → AreRuns low high runs → IsTrue (has_line runs first) → low ≤ first
not_before low high first runs ordered is = grind (arith, none_below low high runs first ordered)

-- they do not begin in a run that is shorter
not_in : (low high lines first : ℕ) (run : Extent) (runs : List Extent) → AreRuns low high (run ∷ runs) → run.lines < lines → InRuns (run ∷ runs) first lines → run.first_line + run.lines ≤ first
not_in low high lines first run runs ordered short are =
    let end = run.first_line + run.lines in
    let from = not_before run.first_line high first (run ∷ runs) (omega arith, ordered.1, ordered.2, ordered.3) (are first (omega arith) (omega arith)) in
    grind (arith, are end, line_behind run end, none_below (end + 1) high runs end ordered.3)

skip_one : (low high lines first : ℕ) (run : Extent) (runs : List Extent) → AreRuns low high (run ∷ runs) → run.lines < lines → InRuns (run ∷ runs) first lines → InRuns runs first lines
skip_one low high lines first run runs ordered short are =
    let behind = not_in low high lines first run runs ordered short are in
    λ line from below. rw (line_behind run line (omega arith)) at (are line from below)

-- they are behind all runs that are shorter
skip : (low high lines first : ℕ) (before rest : List Extent) → AreRuns low high (before ++ rest) → longest before < lines → InRuns (before ++ rest) first lines → InRuns rest first lines
skip low high lines first [] rest ordered short are = are
skip low high lines first (x ∷ xs) rest ordered short are =
    skip (x.first_line + x.lines + 1) high lines first xs rest ordered.3 (omega arith) (skip_one low high lines first x (xs ++ rest) ordered (omega arith) are)

-- where all runs are shorter, there are none
pub no_fit : (low high lines first : ℕ) (runs : List Extent) → AreRuns low high runs → longest runs < lines → ¬ InRuns runs first lines
no_fit low high lines first [] ordered short are = true≢false (sym (are first (omega arith) (omega arith)))
no_fit low high lines first (x ∷ xs) ordered short are =
    no_fit (x.first_line + x.lines + 1) high lines first xs ordered.3 (omega arith) (skip_one low high lines first x xs ordered (omega arith) are)

module _ (low high lines : ℕ) (runs : List Extent) (run : Extent) where
  -- no such lines begin below the first fit
  pub fit_lowest : AreRuns low high runs → IsFirstFit lines runs run → 0 < lines → (first : ℕ) → InRuns runs first lines → run.first_line ≤ first
  fit_lowest ordered fit some first are =
      let ordered' : AreRuns low high (fit.before ++ run ∷ fit.after) = subst (AreRuns low high) fit.is ordered in
      let rest = skip low high lines first fit.before (run ∷ fit.after) ordered' fit.shorter (subst (λ (xs : List Extent). InRuns xs first lines) fit.is are) in
      let at = at_run low high fit.before run fit.after ordered' in
      not_before run.first_line high first (run ∷ fit.after) (omega arith, at.some, at.within, at.behind) (rest first (omega arith) (omega arith))

  -- its first lines are in it
  pub fit_in : AreRuns low high runs → IsFirstFit lines runs run → InRuns runs run.first_line lines
  fit_in ordered fit line from below =
      ap (λ (xs : List Extent). has_line xs line) fit.is ∙ has_line-append fit.before (run ∷ fit.after) line
      ∙ or_right (has_line fit.before line) (is_line_of run line || has_line fit.after line) (rw (line_within run line from (omega (arith, fit.fits))))
