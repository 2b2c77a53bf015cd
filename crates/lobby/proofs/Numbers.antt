-- Free and taken numbers together are all numbers, each once.
use Rattle.std.proofs.Common.{◌≡◌, ℕ, suc, ◌+◌, cond, List, [], ◌∷◌, ◌++◌, length, refl, ap, ◌∙◌, arith, count_by, eqb, ltb, leb, ◌&&◌}
use Rattle.std.proofs.lemmas.Bool.Decides.{nat_tests}
use Rattle.std.proofs.lemmas.List.Sums.{sum_by-append, sum_by-cons}
use Rattle.pipes.specs.declared.limits.TheConstants.{MAX_SEATS}
use Rattle.lobby.specs.Book.{Status, free, taken, free_numbers, taken_numbers, IsEachOnce}

-- how often a number occurs in a list
unfoldable pub occurrences : ℕ → List ℕ → ℕ
occurrences number xs = count_by (λ n. eqb n number) xs

pub occurrences-none : (number : ℕ) → occurrences number [] ≡ 0
unfolding occurrences
occurrences-none number = refl

pub occurrences-cons : (number x : ℕ) (xs : List ℕ) → occurrences number (x ∷ xs) ≡ cond (eqb x number) 1 0 + occurrences number xs
unfolding occurrences
occurrences-cons number x xs = sum_by-cons (λ n. cond (eqb n number) 1 0) x xs

pub occurrences-append : (number : ℕ) (xs ys : List ℕ) → occurrences number (xs ++ ys) ≡ occurrences number xs + occurrences number ys
unfolding occurrences
occurrences-append number xs ys = sum_by-append (λ n. cond (eqb n number) 1 0) xs ys

-- 1 for the `count` numbers from `first` on, and otherwise 0
pub within : ℕ → ℕ → ℕ → ℕ
within first count number = cond (leb first number && ltb number (first + count)) 1 0

within-none : (first number : ℕ) → 0 ≡ within first 0 number
unfolding within
within-none first number = grind (arith, nat_tests)

within-suc : (first count number : ℕ) → cond (eqb first number) 1 0 + within (suc first) count number ≡ within first (suc count) number
unfolding within
within-suc first count number = grind (arith, nat_tests)

pub within-all : (count number : ℕ) → within 0 count number ≡ cond (ltb number count) 1 0
unfolding within
within-all count number = grind (arith, nat_tests)

pub occurrences-numbers : (first : ℕ) (statuses : List Status) (number : ℕ)
    → occurrences number (free_numbers first statuses) + occurrences number (taken_numbers first statuses) ≡ within first (length statuses) number
occurrences-numbers first [] number =
    let none = occurrences-none number in let outside = within-none first number in omega arith
occurrences-numbers first (free ∷ others) number =
    let more = occurrences-cons number first (free_numbers (suc first) others) in
    let others_once = occurrences-numbers (suc first) others number in
    let step = within-suc first (length others) number in omega arith
occurrences-numbers first (taken ∷ others) number =
    let more = occurrences-cons number first (taken_numbers (suc first) others) in
    let others_once = occurrences-numbers (suc first) others number in
    let step = within-suc first (length others) number in omega arith

pub each_once_from_complete : (statuses : List Status) → length statuses ≡ MAX_SEATS → IsEachOnce statuses
unfolding occurrences
each_once_from_complete statuses complete number =
    occurrences-append number (free_numbers 0 statuses) (taken_numbers 0 statuses)
    ∙ occurrences-numbers 0 statuses number
    ∙ within-all (length statuses) number
    ∙ ap (λ count. cond (ltb number count) 1 0) complete
