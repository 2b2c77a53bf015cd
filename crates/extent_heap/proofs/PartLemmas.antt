-- Whether one run holds all lines of an extent.
use Rattle.std.proofs.Common.{◌≡◌, ℕ, ◌+◌, ◌≤◌, Bool, false, IsTrue, List, ◌∷◌, ap, subst, ◌∙◌, arith}
use Rattle.kv_types.specs.declared.place.Extent.{Extent}
use Rattle.extent_heap.specs.OneRun.{HasRun}
use Rattle.extent_heap.specs.Runs.{has_line, AreRuns, TellsPart}
use Rattle.extent_heap.proofs.RunsLemmas.{has_line-append, at_run, line_bounds, line_within, line_behind, none_below, none_above}

-- the run that has the extent's first line holds all, where the extent does not end behind it
pub part_within : (runs : List Extent) (extent run : Extent) (holds : Bool) → HasRun runs extent.first_line run → (IsTrue holds → extent.first_line + extent.lines ≤ run.first_line + run.lines)
    → (extent.first_line + extent.lines ≤ run.first_line + run.lines → IsTrue holds) → TellsPart runs extent holds
part_within runs extent run holds has fits long =
    let first = line_bounds run extent.first_line has.has in
    let from = first.0 in
    let below = first.1 in
    let in_runs = λ (line : ℕ). ap (λ (xs : List Extent). has_line xs line) has.is ∙ has_line-append has.before (run ∷ has.behind) line in
    record {
      is = λ is line of.
          let bounds = line_bounds extent line of in
          let high = bounds.1 in
          let low = bounds.0 in
          let end = fits is in
          let at = line_within run line (omega arith) (omega arith) in
          grind (arith, in_runs line, at);
      only = λ low high ordered part.
          let at = at_run low high has.before run has.behind (subst (AreRuns low high) has.is ordered) in
          let gap = run.first_line + run.lines in
          let none = none_above low run.first_line has.before gap at.before (omega arith) in
          let none_behind = none_below (gap + 1) high has.behind gap at.behind (omega arith) in
          let out : has_line runs gap ≡ false = in_runs gap ∙ rw (none, line_behind run gap (omega arith), none_behind) in
          long (grind (arith, part gap, line_within extent gap, out));
    }
