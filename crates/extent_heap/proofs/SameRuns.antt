-- Runs are determined by their lines.
use Rattle.std.proofs.Common.{◌≡◌, ℕ, ◌+◌, ◌<◌, ◌≤◌, Bool, false, ◌||◌, IsTrue, List, [], ◌∷◌, refl, sym, ap, ap₂, ◌∙◌, arith}
use Rattle.std.proofs.lemmas.Bool.{true≢false}
use Rattle.kv_types.specs.declared.place.Extent.{Extent}
use Rattle.extent_heap.specs.Extents.{is_line_of}
use Rattle.extent_heap.specs.Runs.{has_line, AreRuns}
use Rattle.extent_heap.proofs.RunsLemmas.{line_within, line_bounds, line_behind, none_below, none_above}
use Rattle.extent_heap.proofs.FitLemmas.{not_before}

pub end_of_line : (end : ℕ) (runs : List Extent) (line : ℕ) → AreRuns 0 (end + 1) runs → IsTrue (has_line runs line) → line < end
end_of_line end runs line ordered is = grind (arith, none_above 0 (end + 1) runs line ordered)

-- the first line of the first run is in the runs
first_in : (run : Extent) (runs : List Extent) → 0 < run.lines → IsTrue (has_line (run ∷ runs) run.first_line)
first_in run runs some = rw (line_within run run.first_line (omega arith) (omega arith))

-- the line behind the first run is in none
none_behind : (high : ℕ) (run : Extent) (runs : List Extent) → AreRuns (run.first_line + run.lines + 1) high runs → has_line (run ∷ runs) (run.first_line + run.lines) ≡ false
none_behind high run runs ordered =
    rw (line_behind run (run.first_line + run.lines) (omega arith)) (none_below (run.first_line + run.lines + 1) high runs (run.first_line + run.lines) ordered (omega arith))

-- a first run that begins where another begins does not end behind it, if all its lines are in the other's runs
no_longer : (high high' : ℕ) (run : Extent) (runs : List Extent) (run' : Extent) (runs' : List Extent) → AreRuns (run.first_line + run.lines + 1) high runs → run.first_line ≡ run'.first_line → 0 < run.lines
    → ((line : ℕ) → has_line (run ∷ runs) line ≡ has_line (run' ∷ runs') line) → run'.lines ≤ run.lines
no_longer high high' run runs run' runs' ordered first some same =
    let end = run.first_line + run.lines in
    grind (arith, line_within run' end, same end, none_behind high run runs ordered)

rest_same : (x a b : Bool) → (IsTrue x → (a ≡ false) × (b ≡ false)) → (x || a) ≡ (x || b) → a ≡ b
rest_same x a b none same = grind arith

pub runs_same : (low high low' high' : ℕ) (xs ys : List Extent) → AreRuns low high xs → AreRuns low' high' ys → ((line : ℕ) → has_line xs line ≡ has_line ys line) → xs ≡ ys
runs_same low high low' high' [] [] ordered ordered' same = refl
runs_same low high low' high' [] (y ∷ ys) ordered ordered' same = absurd (true≢false (sym (first_in y ys ordered'.1) ∙ sym (same y.first_line)))
runs_same low high low' high' (x ∷ xs) [] ordered ordered' same = absurd (true≢false (sym (first_in x xs ordered.1) ∙ same x.first_line))
runs_same low high low' high' (x ∷ xs) (y ∷ ys) ordered ordered' same =
    let from = not_before y.first_line high' x.first_line (y ∷ ys) (omega arith, ordered'.1, ordered'.2, ordered'.3) (sym (same x.first_line) ∙ first_in x xs ordered.1) in
    let from' = not_before x.first_line high y.first_line (x ∷ xs) (omega arith, ordered.1, ordered.2, ordered.3) (same y.first_line ∙ first_in y ys ordered'.1) in
    let first : x.first_line ≡ y.first_line = omega arith in
    let less = no_longer high high' x xs y ys ordered.3 first ordered.1 same in
    let more = no_longer high' high y ys x xs ordered'.3 (sym first) ordered'.1 (λ line. sym (same line)) in
    let count : x.lines ≡ y.lines = omega arith in
    let one : x ≡ y = ap₂ (λ (f l : ℕ). record x { first_line = f; lines = l }) first count in
    let rest = runs_same (x.first_line + x.lines + 1) high (y.first_line + y.lines + 1) high' xs ys ordered.3 ordered'.3
    (λ line. rest_same (is_line_of x line) (has_line xs line) (has_line ys line)
    (λ is.
    let below = (line_bounds x line is).1 in
    (none_below (x.first_line + x.lines + 1) high xs line ordered.3 (omega arith), none_below (y.first_line + y.lines + 1) high' ys line ordered'.3 (omega arith)))
    (same line ∙ ap (λ (e : Extent). is_line_of e line || has_line ys line) (sym one))) in
    ap₂ (λ (r : Extent) (rs : List Extent). r ∷ rs) one rest
