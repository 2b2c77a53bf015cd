-- Splitting a list of runs at a fork.
use Rattle.std.proofs.Common.{ℕ, ◌+◌, ◌<◌, ◌≤◌, List, [], ◌∷◌, ◌++◌, sym, ap, ◌∙◌, append_assoc, arith}
use Rattle.std.specs.List.{AllByRecursion}
use Rattle.kv_types.specs.declared.place.Extent.{Extent}
use Rattle.extent_heap.specs.Runs.{AreRuns}
use Rattle.extent_heap.specs.Split.{IsSplit, AllBelow, AllFrom}
use Rattle.extent_heap.proofs.RunsLemmas.{at_run}

-- runs that end below the line begin below it
begin_below : (low high line : ℕ) (xs : List Extent) → AreRuns low high xs → high ≤ line → AllBelow line xs
begin_below low high line [] runs less = tt
begin_below low high line (x ∷ xs) runs less = let within = runs.2 in (omega arith, begin_below (x.first_line + x.lines + 1) high line xs runs.3 less)

pub begin_from : (low high line : ℕ) (xs : List Extent) → AreRuns low high xs → line ≤ low → AllFrom line xs
begin_from low high line [] runs less = tt
begin_from low high line (x ∷ xs) runs less = let from = runs.0 in (omega arith, begin_from (x.first_line + x.lines + 1) high line xs runs.3 (omega arith))

both : (P : Extent → Type 0) (xs ys : List Extent) → AllByRecursion P xs → AllByRecursion P ys → AllByRecursion P (xs ++ ys)
both P [] ys h k = k
both P (x ∷ xs) ys h k = (h.0, both P xs ys h.1 k)

-- the line is behind the fork's first line
pub split_behind : (line : ℕ) (left : List Extent) (run : Extent) (right below rest : List Extent) → run.first_line < line → IsSplit line right below rest → IsSplit line (left ++ run ∷ right) (left ++ run ∷ below) rest
split_behind line left run right below rest less split = record {
  is = ap (λ (xs : List Extent). left ++ run ∷ xs) split.is ∙ sym (append_assoc left (run ∷ below) rest);
  below_begins = λ low high runs.
      let at = at_run low high left run right runs in
      both (λ (r : Extent). r.first_line < line) left (run ∷ below) (begin_below low run.first_line line left at.before (omega arith)) (less, split.below_begins (run.first_line + run.lines + 1) high at.behind);
  rest_begins = λ low high runs. split.rest_begins (run.first_line + run.lines + 1) high (at_run low high left run right runs).behind;
}

-- the line is not behind it
pub split_before : (line : ℕ) (left : List Extent) (run : Extent) (right below rest : List Extent) → line ≤ run.first_line → IsSplit line left below rest → IsSplit line (left ++ run ∷ right) below (rest ++ run ∷ right)
split_before line left run right below rest less split = record {
  is = ap (λ (xs : List Extent). xs ++ run ∷ right) split.is ∙ append_assoc below rest (run ∷ right);
  below_begins = λ low high runs. split.below_begins low run.first_line (at_run low high left run right runs).before;
  rest_begins = λ low high runs.
      let at = at_run low high left run right runs in
      both (λ (r : Extent). line ≤ r.first_line) rest (run ∷ right) (split.rest_begins low run.first_line at.before) (less, begin_from (run.first_line + run.lines + 1) high line right at.behind (omega arith));
}
