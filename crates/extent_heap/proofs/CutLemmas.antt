-- The run that has the lines of an extent, and what is left of it without them.
use Rattle.std.proofs.Common.{◌≡◌, ℕ, ◌+◌, ◌-◌, ◌^◌, ◌<◌, ◌≤◌, false, not, ◌&&◌, ◌||◌, IsTrue, List, [], ◌∷◌, ◌++◌, refl, sym, ap, subst, ◌∙◌, append_assoc, arith}
use Rattle.std.proofs.lemmas.Bool.{true≢false}
use Rattle.std.proofs.lemmas.Bool.Decides.{nat_tests}
use Rattle.std.specs.List.{AllByRecursion}
use Rattle.std.proofs.Math.Bool.{or-false}
use Rattle.kv_types.specs.declared.place.Extent.{Extent}
use Rattle.extent_heap.specs.Extents.{is_line_of}
use Rattle.extent_heap.specs.Runs.{has_line, AreRuns, total, some_run, AreInOrder, IsPart, IsCut, HasClaimed}
use Rattle.extent_heap.specs.Split.{IsSplit, AllBelow, AllFrom}
use Rattle.extent_heap.proofs.RunsLemmas.{has_line-append, total-append, AreRuns-join, at_run, AreRuns-some, total-some, has_line-some, line_bounds, line_within, line_below, line_behind, none_below, none_above}

pub none_from : (line : ℕ) (xs : List Extent) (at : ℕ) → AllFrom line xs → at < line → has_line xs at ≡ false
none_from line [] at all below = refl
none_from line (x ∷ xs) at all below = let from = all.0 in rw (line_below x at (omega arith)) (none_from line xs at all.1 below)

-- what holds of all runs holds of the last
last_of_all : (P : Extent → Type 0) (xs : List Extent) (run : Extent) → AllByRecursion P (xs ++ run ∷ []) → P run
last_of_all P [] run all = all.0
last_of_all P (x ∷ xs) run all = last_of_all P xs run all.1

-- ---- the run that has them

pub first_line_in : (runs : List Extent) (extent : Extent) → 0 < extent.lines → IsPart runs extent → IsTrue (has_line runs extent.first_line)
first_line_in runs extent some part = part extent.first_line (line_within extent extent.first_line (omega arith) (omega arith))

-- some run begins below the end of the extent's first line
pub some_below : (runs rest : List Extent) (extent : Extent) → AreInOrder runs → IsSplit (extent.first_line + 1) runs [] rest → 0 < extent.lines → IsPart runs extent → ⊥
some_below runs rest extent order split some part =
    let none = none_from (extent.first_line + 1) rest extent.first_line (split.rest_begins order.low order.high order.are) (omega arith) in
    true≢false (sym (first_line_in runs extent some part) ∙ ap (λ (xs : List Extent). has_line xs extent.first_line) split.is ∙ none)

module _ (low high : ℕ) (before : List Extent) (run : Extent) (behind : List Extent) where
  -- a line of the run is in no other
  pub only_run : AreRuns low high (before ++ run ∷ behind) → (line : ℕ) → run.first_line ≤ line → line ≤ run.first_line + run.lines
      → (has_line before line ≡ false) × (has_line behind line ≡ false)
  only_run runs line from below =
      let at = at_run low high before run behind runs in
      (none_above low run.first_line before line at.before (omega arith), none_below (run.first_line + run.lines + 1) high behind line at.behind (omega arith))

in_the_run : (before : List Extent) (run : Extent) (behind : List Extent) (line : ℕ) → has_line before line ≡ false → has_line behind line ≡ false
    → has_line (before ++ run ∷ behind) line ≡ is_line_of run line
in_the_run before run behind line none none' = has_line-append before (run ∷ behind) line ∙ rw (none, none') (or-false (is_line_of run line))

pub cut_is : (runs below behind before : List Extent) (run extent : Extent) → AreInOrder runs → IsSplit (extent.first_line + 1) runs below behind → below ≡ before ++ run ∷ []
    → 0 < extent.lines → IsPart runs extent → IsCut runs extent before run behind
cut_is runs below behind before run extent order split is some part =
    let whole : runs ≡ before ++ run ∷ behind = split.is ∙ ap (λ (xs : List Extent). xs ++ behind) is ∙ append_assoc before (run ∷ []) behind in
    let ordered : AreRuns order.low order.high (before ++ run ∷ behind) = subst (AreRuns order.low order.high) whole order.are in
    let at = at_run order.low order.high before run behind ordered in
    let begins = last_of_all (λ (r : Extent). r.first_line < extent.first_line + 1) before run (subst (AllBelow (extent.first_line + 1)) is (split.below_begins order.low order.high order.are)) in
    let none_before = none_above order.low run.first_line before extent.first_line at.before (omega arith) in
    let none_behind = none_from (extent.first_line + 1) behind extent.first_line (split.rest_begins order.low order.high order.are) (omega arith) in
    let first : IsTrue (is_line_of run extent.first_line) = sym (in_the_run before run behind extent.first_line none_before none_behind) ∙ sym (ap (λ (xs : List Extent). has_line xs extent.first_line) whole) ∙ first_line_in runs extent some part in
    let bounds = line_bounds run extent.first_line first in
    let low_enough = bounds.1 in
    let small = order.small in
    let within = at.within in
    record {
      is = whole;
      from = bounds.0;
      within =
          let end = run.first_line + run.lines in
          let only = only_run order.low order.high before run behind ordered end (omega arith) (omega arith) in
          let none : has_line runs end ≡ false = ap (λ (xs : List Extent). has_line xs end) whole ∙ in_the_run before run behind end only.0 only.1 ∙ line_behind run end (omega arith) in
          grind (arith, part end, line_within extent end, none);
      small = omega arith;
    }

-- a line of a run is small
pub line_small : (runs : List Extent) (line : ℕ) → AreInOrder runs → IsTrue (has_line runs line) → line + 1 < 2 ^ 64
line_small runs line order in_runs = grind (arith, none_above order.low order.high runs line order.are, order.small)

-- ---- what is left of it

abbrev pub front_of : Extent → Extent → Extent
front_of run extent = record { first_line = run.first_line; lines = extent.first_line - run.first_line }

abbrev pub back_of : Extent → Extent → Extent
back_of run extent = record { first_line = extent.first_line + extent.lines; lines = (run.first_line + run.lines) - (extent.first_line + extent.lines) }

-- the runs without the extent
abbrev pub left_of : List Extent → Extent → Extent → List Extent → List Extent
left_of before run extent behind = ((before ++ some_run (front_of run extent)) ++ some_run (back_of run extent)) ++ behind

lines_left : (before : List Extent) (run extent : Extent) (behind : List Extent) (line : ℕ)
    → has_line (left_of before run extent behind) line ≡ (((has_line before line || is_line_of (front_of run extent) line) || is_line_of (back_of run extent) line) || has_line behind line)
lines_left before run extent behind line =
    has_line-append ((before ++ some_run (front_of run extent)) ++ some_run (back_of run extent)) behind line
    ∙ ap (λ b. b || has_line behind line) (has_line-append (before ++ some_run (front_of run extent)) (some_run (back_of run extent)) line
    ∙ rw (has_line-append before (some_run (front_of run extent)) line, has_line-some (front_of run extent) line, has_line-some (back_of run extent) line))

lines_claimed : (runs : List Extent) (extent : Extent) (before : List Extent) (run : Extent) (behind : List Extent) → AreInOrder runs → IsCut runs extent before run behind → (line : ℕ)
    → has_line (left_of before run extent behind) line ≡ (has_line runs line && not (is_line_of extent line))
lines_claimed runs extent before run behind order cut line =
    let from = cut.from in
    let within = cut.within in
    let whole = ap (λ (xs : List Extent). has_line xs line) cut.is ∙ has_line-append before (run ∷ behind) line in
    let ordered : AreRuns order.low order.high (before ++ run ∷ behind) = subst (AreRuns order.low order.high) cut.is order.are in
    grind (arith, nat_tests, lines_left before run extent behind line, whole, only_run order.low order.high before run behind ordered line)

ordered_left : (runs : List Extent) (extent : Extent) (before : List Extent) (run : Extent) (behind : List Extent) → IsCut runs extent before run behind → 0 < extent.lines → (high : ℕ)
    → AreRuns 0 high runs → AreRuns 0 high (left_of before run extent behind)
ordered_left runs extent before run behind cut some high ordered =
    let from = cut.from in
    let within = cut.within in
    let at = at_run 0 high before run behind (subst (AreRuns 0 high) cut.is ordered) in
    let end = at.within in
    let front = AreRuns-join 0 run.first_line run.first_line (extent.first_line + 1) before (some_run (front_of run extent)) (omega arith) (omega arith) (omega arith) at.before
    (AreRuns-some run.first_line (extent.first_line + 1) (front_of run extent) (omega arith) (omega arith)) in
    let both = AreRuns-join 0 (extent.first_line + 1) (extent.first_line + extent.lines) (run.first_line + run.lines + 1) (before ++ some_run (front_of run extent)) (some_run (back_of run extent))
    (omega arith) (omega arith) (omega arith) front (AreRuns-some (extent.first_line + extent.lines) (run.first_line + run.lines + 1) (back_of run extent) (omega arith) (omega arith)) in
    AreRuns-join 0 (run.first_line + run.lines + 1) (run.first_line + run.lines + 1) high ((before ++ some_run (front_of run extent)) ++ some_run (back_of run extent)) behind
    (omega arith) (omega arith) (omega arith) both at.behind

count_left : (runs : List Extent) (extent : Extent) (before : List Extent) (run : Extent) (behind : List Extent) → IsCut runs extent before run behind
    → total (left_of before run extent behind) + extent.lines ≡ total runs
count_left runs extent before run behind cut =
    let from = cut.from in
    let within = cut.within in
    let whole = ap total cut.is ∙ total-append before (run ∷ behind) in
    omega (
      arith,
      total-append ((before ++ some_run (front_of run extent)) ++ some_run (back_of run extent)) behind,
      total-append (before ++ some_run (front_of run extent)) (some_run (back_of run extent)),
      total-append before (some_run (front_of run extent)),
      total-some (front_of run extent),
      total-some (back_of run extent),
    )

pub claimed_is : (runs : List Extent) (extent : Extent) (before : List Extent) (run : Extent) (behind new : List Extent) → AreInOrder runs → IsCut runs extent before run behind → 0 < extent.lines
    → new ≡ left_of before run extent behind → HasClaimed runs extent new
claimed_is runs extent before run behind new order cut some is =
    subst (HasClaimed runs extent) (sym is)
    (record { lines = lines_claimed runs extent before run behind order cut; ordered = ordered_left runs extent before run behind cut some; count = count_left runs extent before run behind cut })
