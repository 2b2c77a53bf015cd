-- Facts on lists of runs.
use Rattle.std.proofs.Common.{◌≡◌, ℕ, ◌+◌, ◌-◌, ◌/◌, ◌<◌, ◌≤◌, ◌==◌, max, false, ◌||◌, IsTrue, List, [], ◌∷◌, ◌++◌, length, Option, None, Some, MatchOption, refl, sym, ap, subst, ◌∙◌, append_assoc, arith}
use Rattle.std.proofs.Math.Nat.{div-eq_of_lt}
use Rattle.std.proofs.lemmas.Bool.Decides.{nat_tests}
use Rattle.std.proofs.Math.Bool.{or_assoc, or-false}
use Rattle.std.proofs.lemmas.Bool.{cond_both}
use Rattle.kv_types.specs.declared.place.Extent.{Extent}
use Rattle.extent_heap.specs.Extents.{is_line_of}
use Rattle.extent_heap.specs.Runs.{has_line, AreRuns, longest, pieces, total, some_run, IsFirstFit}

-- ---- the longest run

longest-append : (xs ys : List Extent) → longest (xs ++ ys) ≡ max (longest xs) (longest ys)
longest-append [] ys = omega arith
longest-append (x ∷ xs) ys = omega (arith, longest-append xs ys)

pub longest_fork : (left : List Extent) (run : Extent) (right : List Extent) → longest (left ++ run ∷ right) ≡ max (max (longest left) run.lines) (longest right)
longest_fork left run right = omega (arith, longest-append left (run ∷ right))

-- where no run before or at the fork is long enough, the first fit is behind it
pub fit_behind : (lines : ℕ) (left : List Extent) (run : Extent) (right runs : List Extent) (found : Option Extent) → runs ≡ left ++ run ∷ right → longest left < lines → run.lines < lines
    → MatchOption found (longest right < lines) (λ r. IsFirstFit lines right r) → MatchOption found (longest runs < lines) (λ r. IsFirstFit lines runs r)
fit_behind lines left run right runs None is short shorter none = subst (λ (all : List Extent). longest all < lines) (sym is) (omega (arith, longest_fork left run right))
fit_behind lines left run right runs (Some r) is short shorter fit = record {
  before = left ++ run ∷ fit.before;
  after = fit.after;
  is = is ∙ ap (λ (rest : List Extent). left ++ run ∷ rest) fit.is ∙ sym (append_assoc left (run ∷ fit.before) (r ∷ fit.after));
  shorter = let before = fit.shorter in omega (arith, longest_fork left run fit.before);
  fits = fit.fits;
}

-- ---- extents that can be cut from the runs

pieces-append : (lines : ℕ) (xs ys : List Extent) → pieces lines (xs ++ ys) ≡ pieces lines xs + pieces lines ys
pieces-append lines [] ys = omega arith
pieces-append lines (x ∷ xs) ys = omega (arith, pieces-append lines xs ys)

-- none from runs that are all too short
pub none_short : (lines : ℕ) (xs : List Extent) → longest xs < lines → pieces lines xs ≡ 0
none_short lines [] short = refl
none_short lines (x ∷ xs) short = let own : x.lines / lines ≡ 0 = div-eq_of_lt (omega arith) in omega (arith, none_short lines xs (omega arith))

-- those before the fork are counted first, then its own, then those behind it
pub lacks_fork : (lines wanted : ℕ) (left : List Extent) (run : Extent) (right : List Extent)
    → ((wanted - pieces lines left) - run.lines / lines) - pieces lines right ≡ wanted - pieces lines (left ++ run ∷ right)
lacks_fork lines wanted left run right = omega (arith, pieces-append lines left (run ∷ right))

-- ---- parts of a list of runs

pub has_line-append : (xs ys : List Extent) (line : ℕ) → has_line (xs ++ ys) line ≡ (has_line xs line || has_line ys line)
has_line-append [] ys line = refl
has_line-append (x ∷ xs) ys line =
    ap (λ b. is_line_of x line || b) (has_line-append xs ys line) ∙ sym (or_assoc (is_line_of x line) (has_line xs line) (has_line ys line))

pub total-append : (xs ys : List Extent) → total (xs ++ ys) ≡ total xs + total ys
total-append [] ys = omega arith
total-append (x ∷ xs) ys = omega (arith, total-append xs ys)

-- a weaker bound from below
pub AreRuns-lower : (low low' high : ℕ) (xs : List Extent) → low' ≤ low → AreRuns low high xs → AreRuns low' high xs
AreRuns-lower low low' high [] less runs = tt
AreRuns-lower low low' high (x ∷ xs) less runs = (omega (arith, runs.0), runs.1, runs.2, runs.3)

pub AreRuns-join : (low between between' high : ℕ) (xs ys : List Extent) → between ≤ between' → low ≤ between' → between ≤ high → AreRuns low between xs → AreRuns between' high ys → AreRuns low high (xs ++ ys)
AreRuns-join low between between' high [] ys gap less within runs rest = AreRuns-lower between' low high ys less rest
AreRuns-join low between between' high (x ∷ xs) ys gap less within runs rest =
    (runs.0, runs.1, omega (arith, runs.2), AreRuns-join (x.first_line + x.lines + 1) between between' high xs ys gap (omega (arith, runs.2)) within runs.3 rest)

pub AreRuns-front : (low high : ℕ) (xs ys : List Extent) → AreRuns low high (xs ++ ys) → AreRuns low high xs
AreRuns-front low high [] ys runs = tt
AreRuns-front low high (x ∷ xs) ys runs = (runs.0, runs.1, runs.2, AreRuns-front (x.first_line + x.lines + 1) high xs ys runs.3)

pub AreRuns-back : (low high : ℕ) (xs ys : List Extent) → AreRuns low high (xs ++ ys) → AreRuns low high ys
AreRuns-back low high [] ys runs = runs
AreRuns-back low high (x ∷ xs) ys runs = AreRuns-lower (x.first_line + x.lines + 1) low high ys (omega (arith, runs.0)) (AreRuns-back (x.first_line + x.lines + 1) high xs ys runs.3)

-- the runs before and behind one of them
pub record AtRun (low high : ℕ) (xs : List Extent) (run : Extent) (ys : List Extent) : Type 0 where
  pub before : AreRuns low run.first_line xs
  pub from : low ≤ run.first_line
  pub some : 0 < run.lines
  pub within : run.first_line + run.lines < high
  pub behind : AreRuns (run.first_line + run.lines + 1) high ys

pub at_run : (low high : ℕ) (xs : List Extent) (run : Extent) (ys : List Extent) → AreRuns low high (xs ++ run ∷ ys) → AtRun low high xs run ys
at_run low high [] run ys runs = record { before = tt; from = runs.0; some = runs.1; within = runs.2; behind = runs.3 }
at_run low high (x ∷ xs) run ys runs =
    let rest = at_run (x.first_line + x.lines + 1) high xs run ys runs.3 in
    record { before = (runs.0, runs.1, omega (arith, rest.from), rest.before); from = omega (arith, runs.0, rest.from); some = rest.some; within = rest.within; behind = rest.behind }

pub AreRuns-some : (low high : ℕ) (run : Extent) → low ≤ run.first_line → run.first_line + run.lines < high → AreRuns low high (some_run run)
AreRuns-some low high run from within = cond_both (run.lines == 0) [] (run ∷ []) (AreRuns low high) (λ _. tt) (λ some. (from, grind (arith, nat_tests), within, tt))

pub total-some : (run : Extent) → total (some_run run) ≡ run.lines
total-some run = cond_both (run.lines == 0) [] (run ∷ []) (λ xs. total xs ≡ run.lines) (λ none. grind (arith, nat_tests)) (λ _. omega arith)

pub has_line-some : (run : Extent) (line : ℕ) → has_line (some_run run) line ≡ is_line_of run line
has_line-some run line =
    cond_both (run.lines == 0) [] (run ∷ []) (λ xs. has_line xs line ≡ is_line_of run line) (λ none. grind (arith, nat_tests)) (λ _. or-false (is_line_of run line))

-- ---- lines

pub line_bounds : (run : Extent) (line : ℕ) → IsTrue (is_line_of run line) → (run.first_line ≤ line) × (line < run.first_line + run.lines)
line_bounds run line is = grind (arith, nat_tests)

pub line_within : (run : Extent) (line : ℕ) → run.first_line ≤ line → line < run.first_line + run.lines → IsTrue (is_line_of run line)
line_within run line from below = grind (arith, nat_tests)

pub line_below : (run : Extent) (line : ℕ) → line < run.first_line → is_line_of run line ≡ false
line_below run line below = grind (arith, nat_tests)

pub line_behind : (run : Extent) (line : ℕ) → run.first_line + run.lines ≤ line → is_line_of run line ≡ false
line_behind run line from = grind (arith, nat_tests)

-- no run has a line below or above all of them
pub none_below : (low high : ℕ) (xs : List Extent) (line : ℕ) → AreRuns low high xs → line < low → has_line xs line ≡ false
none_below low high [] line runs below = refl
none_below low high (x ∷ xs) line runs below = rw (line_below x line (omega (arith, runs.0))) (none_below (x.first_line + x.lines + 1) high xs line runs.3 (omega (arith, runs.0)))

pub none_above : (low high : ℕ) (xs : List Extent) (line : ℕ) → AreRuns low high xs → high ≤ line + 1 → has_line xs line ≡ false
none_above low high [] line runs above = refl
none_above low high (x ∷ xs) line runs above = rw (line_behind x line (omega (arith, runs.2))) (none_above (x.first_line + x.lines + 1) high xs line runs.3 above)

-- each run has a line, and all lines and the gaps between them lie between the bounds
pub runs-bound : (low high : ℕ) (xs : List Extent) → AreRuns low high xs → low ≤ high → (length xs ≤ total xs) × (total xs + length xs + low ≤ high)
runs-bound low high [] runs less = (omega arith, omega arith)
runs-bound low high (x ∷ xs) runs less =
    let rest = runs-bound (x.first_line + x.lines + 1) high xs runs.3 (omega (arith, runs.2)) in
    (omega (arith, runs.1, rest.0), omega (arith, runs.0, rest.1))
