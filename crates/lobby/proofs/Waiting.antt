-- Each number that waits is taken, and waits once.
use Rattle.std.proofs.Common.{◌≡◌, ◌≢◌, ℕ, zero, suc, ◌+◌, ◌<◌, ◌≤◌, Bool, true, false, cond, not, inl, inr, List, [], ◌∷◌, ◌++◌, length, filter, Some, slice_get, set, refl, ap, sym, ◌∙◌, subst, arith, eqb, ltb}
use Rattle.std.proofs.lemmas.Bool.{cases_eq}
use Rattle.std.proofs.lemmas.Bool.Decides.{nat_tests}
use Rattle.pipes.specs.declared.limits.TheConstants.{MAX_SEATS}
use Rattle.lobby.specs.Book.{Status, free, taken, free_numbers, taken_numbers}
use Rattle.lobby.specs.Attendance.{waits, held_numbers, AreEachOnce}
use Rattle.lobby.proofs.Numbers.{occurrences, occurrences-none, occurrences-cons, occurrences-append, occurrences-numbers, within-all}

abbrev pub WaitOnce : List Status → List ℕ → Type 0
WaitOnce statuses waiting = (number : ℕ) → occurrences number waiting ≤ occurrences number (taken_numbers 0 statuses)

occurrences-filter : (passes : ℕ → Bool) (number : ℕ) (xs : List ℕ) → occurrences number (filter passes xs) ≡ cond (passes number) (occurrences number xs) 0
occurrences-filter passes number [] = let none = occurrences-none number in grind (arith)
occurrences-filter passes number (x ∷ xs) =
    let rest = occurrences-filter passes number xs in
    let all = occurrences-cons number x xs in
    let left = occurrences-cons number x (filter passes xs) in
    grind (arith, nat_tests)

-- each number is free or taken
total : (statuses : List Status) → length statuses ≡ MAX_SEATS → (number : ℕ)
    → occurrences number (free_numbers 0 statuses) + occurrences number (taken_numbers 0 statuses) ≡ cond (ltb number MAX_SEATS) 1 0
total statuses complete number =
    occurrences-numbers 0 statuses number ∙ within-all (length statuses) number ∙ ap (λ count. cond (ltb number count) 1 0) complete

waits-occurs : (waiting : List ℕ) (number : ℕ) → waits waiting number ≡ true → 1 ≤ occurrences number waiting
waits-occurs [] number e = absurd cc
waits-occurs (x ∷ xs) number e =
    let rest = waits-occurs xs number in
    let all = occurrences-cons number x xs in
    grind (arith, nat_tests)

pub waits-none : (waiting : List ℕ) (number : ℕ) → waits waiting number ≡ false → occurrences number waiting ≡ 0
waits-none [] number e = occurrences-none number
waits-none (x ∷ xs) number e =
    let rest = waits-none xs number in
    let all = occurrences-cons number x xs in
    grind (arith, nat_tests)

not_waits : (waiting : List ℕ) (number : ℕ) → occurrences number waiting ≡ 0 → (b : Bool) → waits waiting number ≡ b → waits waiting number ≡ false
not_waits waiting number none true is = let some = waits-occurs waiting number is in absurd (omega arith)
not_waits waiting number none false is = is

module _ (statuses : List Status) (waiting : List ℕ) (complete : length statuses ≡ MAX_SEATS) where
  together : (number : ℕ) → occurrences number ((free_numbers 0 statuses ++ held_numbers statuses waiting) ++ waiting)
      ≡ occurrences number (free_numbers 0 statuses) + cond (not (waits waiting number)) (occurrences number (taken_numbers 0 statuses)) 0 + occurrences number waiting
  together number =
      let all = occurrences-append number (free_numbers 0 statuses ++ held_numbers statuses waiting) waiting in
      let prefix = occurrences-append number (free_numbers 0 statuses) (held_numbers statuses waiting) in
      let held = occurrences-filter (λ n. not (waits waiting n)) number (taken_numbers 0 statuses) in
      omega arith

  each : WaitOnce statuses waiting → (number : ℕ) (b : Bool) → waits waiting number ≡ b
      → occurrences number ((free_numbers 0 statuses ++ held_numbers statuses waiting) ++ waiting) ≡ cond (ltb number MAX_SEATS) 1 0
  each once number true is =
      let some = waits-occurs waiting number is in
      let most = once number in
      let all = total statuses complete number in
      together number ∙ rw is (grind (arith, nat_tests))
  each once number false is =
      let none = waits-none waiting number is in
      let all = total statuses complete number in
      together number ∙ rw is (omega arith)

  -- so free, held and waiting numbers are all numbers, each once
  pub each_once_from_waits : WaitOnce statuses waiting → AreEachOnce statuses waiting
  unfolding occurrences
  each_once_from_waits once number = each once number (waits waiting number) refl

  waits_from : (number : ℕ) → occurrences number ((free_numbers 0 statuses ++ held_numbers statuses waiting) ++ waiting) ≡ cond (ltb number MAX_SEATS) 1 0
      → (b : Bool) → waits waiting number ≡ b → occurrences number waiting ≤ occurrences number (taken_numbers 0 statuses)
  waits_from number sums true is =
      let all = total statuses complete number in
      let here = subst (λ w. occurrences number (free_numbers 0 statuses) + cond (not w) (occurrences number (taken_numbers 0 statuses)) 0 + occurrences number waiting ≡ cond (ltb number MAX_SEATS) 1 0) is (sym (together number) ∙ sums) in
      omega arith
  waits_from number sums false is = let none = waits-none waiting number is in omega arith

  each_once-occurs : AreEachOnce statuses waiting → (number : ℕ) → occurrences number ((free_numbers 0 statuses ++ held_numbers statuses waiting) ++ waiting) ≡ cond (ltb number MAX_SEATS) 1 0
  unfolding occurrences
  each_once-occurs once number = once number

  pub waits_from_each_once : AreEachOnce statuses waiting → WaitOnce statuses waiting
  waits_from_each_once once number = waits_from number (each_once-occurs once number) (waits waiting number) refl

-- no number below `first` occurs in the list
above : (first : ℕ) (statuses : List Status) (number : ℕ) → number < first → occurrences number (taken_numbers first statuses) ≡ 0
above first [] number below = occurrences-none number
above first (free ∷ others) number below = above (suc first) others number (omega arith)
above first (taken ∷ others) number below =
    let rest = above (suc first) others number (omega arith) in
    let all = occurrences-cons number first (taken_numbers (suc first) others) in
    grind (arith, nat_tests)

taken-occurs : (first : ℕ) (statuses : List Status) (index : ℕ) → slice_get statuses index ≡ Some taken → 1 ≤ occurrences (first + index) (taken_numbers first statuses)
taken-occurs first [] index is = absurd cc
taken-occurs first (free ∷ others) zero is = absurd cc
taken-occurs first (taken ∷ others) zero is =
    let all = occurrences-cons (first + 0) first (taken_numbers (suc first) others) in
    grind (arith, nat_tests)
taken-occurs first (free ∷ others) (suc index) is =
    subst (λ n. 1 ≤ occurrences n (taken_numbers (suc first) others)) (omega arith) (taken-occurs (suc first) others index is)
taken-occurs first (taken ∷ others) (suc index) is =
    let rest : 1 ≤ occurrences (first + suc index) (taken_numbers (suc first) others) =
    subst (λ n. 1 ≤ occurrences n (taken_numbers (suc first) others)) (omega arith) (taken-occurs (suc first) others index is) in
    let all = occurrences-cons (first + suc index) first (taken_numbers (suc first) others) in
    omega arith

occurs-taken : (first : ℕ) (statuses : List Status) (index : ℕ) → 1 ≤ occurrences (first + index) (taken_numbers first statuses) → slice_get statuses index ≡ Some taken
occurs-taken first [] index some = let none = occurrences-none (first + index) in absurd (omega arith)
occurs-taken first (free ∷ others) zero some = let none = above (suc first) others (first + 0) (omega arith) in absurd (omega arith)
occurs-taken first (taken ∷ others) zero some = refl
occurs-taken first (free ∷ others) (suc index) some =
    occurs-taken (suc first) others index (subst (λ n. 1 ≤ occurrences n (taken_numbers (suc first) others)) (omega arith) some)
occurs-taken first (taken ∷ others) (suc index) some =
    let all = occurrences-cons (first + suc index) first (taken_numbers (suc first) others) in
    let rest : 1 ≤ occurrences (first + suc index) (taken_numbers (suc first) others) = grind (arith, nat_tests) in
    occurs-taken (suc first) others index (subst (λ n. 1 ≤ occurrences n (taken_numbers (suc first) others)) (omega arith) rest)

-- a taken number occurs in the list, and no other number does
is-there : (statuses : List Status) (number : ℕ) → slice_get statuses number ≡ Some taken → 1 ≤ occurrences number (taken_numbers 0 statuses)
is-there statuses number is = subst (λ n. 1 ≤ occurrences n (taken_numbers 0 statuses)) (omega arith) (taken-occurs 0 statuses number is)

there-is : (statuses : List Status) (number : ℕ) → 1 ≤ occurrences number (taken_numbers 0 statuses) → slice_get statuses number ≡ Some taken
there-is statuses number some = occurs-taken 0 statuses number (subst (λ n. 1 ≤ occurrences n (taken_numbers 0 statuses)) (omega arith) some)

-- the status of the first number has no effect on the others
head-other : (first : ℕ) (status : Status) (others : List Status) (number : ℕ) → number ≢ first
    → occurrences number (taken_numbers first (status ∷ others)) ≡ occurrences number (taken_numbers (suc first) others)
head-other first free others number differ = refl
head-other first taken others number differ =
    let all = occurrences-cons number first (taken_numbers (suc first) others) in
    let apart : (first ≡ number → ⊥) = λ e. differ (sym e) in
    grind (arith, nat_tests)

set-other : (first : ℕ) (statuses : List Status) (index : ℕ) (status : Status) (number : ℕ) → number ≢ first + index
    → occurrences number (taken_numbers first (set statuses index status)) ≡ occurrences number (taken_numbers first statuses)
set-other first [] index status number differ = refl
set-other first (old ∷ others) zero status number differ =
    let apart : (number ≡ first → ⊥) = λ e. differ (omega (arith, e)) in
    head-other first status others number apart ∙ sym (head-other first old others number apart)
set-other first (free ∷ others) (suc index) status number differ = set-other (suc first) others index status number (λ e. differ (omega (arith, e)))
set-other first (taken ∷ others) (suc index) status number differ =
    let rest = set-other (suc first) others index status number (λ e. differ (omega (arith, e))) in
    let old = occurrences-cons number first (taken_numbers (suc first) others) in
    let new = occurrences-cons number first (taken_numbers (suc first) (set others index status)) in
    omega arith

set-there : (statuses : List Status) (index : ℕ) (old new : Status) → slice_get statuses index ≡ Some old → slice_get (set statuses index new) index ≡ Some new
set-there [] index old new is = absurd cc
set-there (status ∷ others) zero old new is = refl
set-there (status ∷ others) (suc index) old new is = set-there others index old new is

-- a list of numbers below a bound, in which none occurs twice, is no longer than the bound
length-without : (number : ℕ) (xs : List ℕ) → length xs ≡ length (filter (λ n. not (eqb n number)) xs) + occurrences number xs
length-without number [] = let none = occurrences-none number in omega arith
length-without number (x ∷ xs) =
    let rest = length-without number xs in
    let all = occurrences-cons number x xs in
    grind (arith, nat_tests)

length-distinct : (bound : ℕ) (xs : List ℕ) → ((number : ℕ) → occurrences number xs ≤ cond (ltb number bound) 1 0) → length xs ≤ bound
length-distinct zero [] once = omega arith
length-distinct zero (x ∷ xs) once =
    let here = once x in
    let all = occurrences-cons x x xs in
    grind (arith, nat_tests)
length-distinct (suc bound) xs once =
    let split = length-without bound xs in
    let last = once bound in
    let rest = length-distinct bound (filter (λ n. not (eqb n bound)) xs) (λ number.
    let left = occurrences-filter (λ n. not (eqb n bound)) number xs in
    let here = once number in
    grind (arith, nat_tests)) in
    grind (arith, nat_tests)

pub waiting-fit : (statuses : List Status) (waiting : List ℕ) → length statuses ≡ MAX_SEATS → WaitOnce statuses waiting → length waiting ≤ MAX_SEATS
waiting-fit statuses waiting complete once = length-distinct MAX_SEATS waiting (λ number.
    let here = once number in
    let all = total statuses complete number in
    omega arith)

-- none waits
pub waits-empty : (statuses : List Status) → WaitOnce statuses []
waits-empty statuses number = let none = occurrences-none number in omega arith

-- a held number now waits too
pub waits-more : (statuses : List Status) (waiting : List ℕ) (number : ℕ) → slice_get statuses number ≡ Some taken → waits waiting number ≡ false
    → WaitOnce statuses waiting → WaitOnce statuses (waiting ++ number ∷ [])
waits-more statuses waiting number is apart once other =
    let here = once other in
    let all = occurrences-append other waiting (number ∷ []) in
    let last = occurrences-cons other number [] in
    let end = occurrences-none other in
    elim (cases_eq number other) [
      | inl same ↦
          let none = subst (λ n. occurrences n waiting ≡ 0) same (waits-none waiting number apart) in
          let some = subst (λ n. 1 ≤ occurrences n (taken_numbers 0 statuses)) same (is-there statuses number is) in
          grind (arith, nat_tests)
      | inr differ ↦ grind (arith, nat_tests)
    ]

-- the oldest no longer waits
pub waits-fewer : (statuses : List Status) (waiting : List ℕ) (number : ℕ) → WaitOnce statuses (number ∷ waiting) → WaitOnce statuses waiting
waits-fewer statuses waiting number once other =
    let here = once other in
    let all = occurrences-cons other number waiting in
    omega arith

-- and its number is held
pub held-then : (statuses : List Status) (waiting : List ℕ) (number : ℕ) → length statuses ≡ MAX_SEATS → WaitOnce statuses (number ∷ waiting)
    → (slice_get statuses number ≡ Some taken) × (waits waiting number ≡ false)
held-then statuses waiting number complete once =
    let here = once number in
    let all = occurrences-cons number number waiting in
    let most = total statuses complete number in
    let some : 1 ≤ occurrences number (taken_numbers 0 statuses) = grind (arith, nat_tests) in
    let none : occurrences number waiting ≡ 0 = grind (arith, nat_tests) in
    (there-is statuses number some, not_waits waiting number none (waits waiting number) refl)

-- a free number becomes taken
pub waits-entered : (statuses : List Status) (waiting : List ℕ) (number : ℕ) → length statuses ≡ MAX_SEATS
    → slice_get statuses number ≡ Some free → WaitOnce statuses waiting → WaitOnce (set statuses number taken) waiting
waits-entered statuses waiting number complete is once other =
    let here = once other in
    let most = total statuses complete other in
    elim (cases_eq other number) [
      | inl same ↦
          let some = subst (λ n. 1 ≤ occurrences n (taken_numbers 0 (set statuses number taken))) (sym same)
          (is-there (set statuses number taken) number (set-there statuses number free taken is)) in
          grind (arith, nat_tests)
      | inr differ ↦ let rest = set-other 0 statuses number taken other (λ e. differ (omega (arith, e))) in omega arith
    ]

-- a number that does not wait becomes free
pub waits-left : (statuses : List Status) (waiting : List ℕ) (number : ℕ) → waits waiting number ≡ false
    → WaitOnce statuses waiting → WaitOnce (set statuses number free) waiting
waits-left statuses waiting number apart once other =
    let here = once other in
    elim (cases_eq other number) [
      | inl same ↦ let none = subst (λ n. occurrences n waiting ≡ 0) (sym same) (waits-none waiting number apart) in omega arith
      | inr differ ↦ let rest = set-other 0 statuses number free other (λ e. differ (omega (arith, e))) in omega arith
    ]
