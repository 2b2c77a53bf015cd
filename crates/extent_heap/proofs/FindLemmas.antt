-- The run that has a line, found at a fork.
use Rattle.std.proofs.Common.{ℕ, ◌+◌, ◌<◌, ◌≤◌, List, ◌∷◌, ◌++◌, Option, None, Some, refl, sym, ap, ◌∙◌, append_assoc, arith}
use Rattle.kv_types.specs.declared.place.Extent.{Extent}
use Rattle.extent_heap.specs.OneRun.{FindsRun}
use Rattle.extent_heap.proofs.RunsLemmas.{has_line-append, at_run, line_within, line_below, line_behind, none_below, none_above}

module _ (left : List Extent) (run : Extent) (right : List Extent) (line : ℕ) where
  -- a line below the run is looked for before it
  pub find_before : (found : Option Extent) → line < run.first_line → FindsRun left line found → FindsRun (left ++ run ∷ right) line found
  find_before None below none = λ low high ordered.
      let at = at_run low high left run right ordered in
      has_line-append left (run ∷ right) line
      ∙ rw (none low run.first_line at.before, line_below run line below, none_below (run.first_line + run.lines + 1) high right line at.behind (omega arith))
  find_before (Some r) below has = record {
    before = has.before;
    behind = has.behind ++ run ∷ right;
    is = ap (λ (xs : List Extent). xs ++ run ∷ right) has.is ∙ append_assoc has.before (r ∷ has.behind) (run ∷ right);
    has = has.has;
  }

  pub find_here : run.first_line ≤ line → line < run.first_line + run.lines → FindsRun (left ++ run ∷ right) line (Some run)
  find_here from below = record { before = left; behind = right; is = refl; has = line_within run line from below }

  -- one above it, behind it
  pub find_behind : (found : Option Extent) → run.first_line + run.lines ≤ line → FindsRun right line found → FindsRun (left ++ run ∷ right) line found
  find_behind None above none = λ low high ordered.
      let at = at_run low high left run right ordered in
      has_line-append left (run ∷ right) line
      ∙ rw (none_above low run.first_line left line at.before (omega arith), line_behind run line above, none (run.first_line + run.lines + 1) high at.behind)
  find_behind (Some r) above has = record {
    before = left ++ run ∷ has.before;
    behind = has.behind;
    is = ap (λ (xs : List Extent). left ++ run ∷ xs) has.is ∙ sym (append_assoc left (run ∷ has.before) (r ∷ has.behind));
    has = has.has;
  }
