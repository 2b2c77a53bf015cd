-- Noted lines and their marks.
use Rattle.std.proofs.Common.{◌≡◌, ℕ, ◌+◌, ◌<◌, ◌≤◌, suc, zero, Bool, true, false, ◌||◌, ◌==◌, List, [], ◌∷◌, ◌++◌, length, get_or, set, replicate, cond, is_ok, is_err, IsOk, Result, Ok, Err, refl, sym, ap, ◌∙◌, arith, get_or-set_same, get_or-set_other}
use Rattle.std.proofs.lemmas.Bool.Decides.{nat_tests}
use Rattle.std.proofs.lemmas.Bool.{or_right, false_from_ne_true, true≢false, eq-eqb}
use Rattle.std.specs.List.{sum_by}
use Rattle.std.specs.List.Sorted.{IsPermutation}
use Rattle.std.proofs.lemmas.List.Sorted.{sum_by-IsPermutation}
use Rattle.std.proofs.lemmas.List.Sums.{sum_by-cons}
use Rattle.pmem_file.specs.Line.{has_line, one_if, marked}

pub has_line-push : (lines : List ℕ) (l line : ℕ) → has_line (lines ++ l ∷ []) line ≡ ((line == l) || has_line lines line)
has_line-push [] l line = refl
has_line-push (m ∷ lines) l line = grind (arith, has_line-push lines l line)

-- a line that is marked, and the others as before
pub get_or-marked : (marks : List Bool) (line other : ℕ) → line < length marks
    → get_or (set marks line true) other false ≡ ((other == line) || get_or marks other false)
get_or-marked marks line other below = grind (arith, nat_tests, get_or-set_same marks line true false below, get_or-set_other marks line other true false)

pub marked-le : (marks : List Bool) → marked marks ≤ length marks
marked-le [] = omega arith
marked-le (true ∷ marks) = omega (arith, marked-le marks)
marked-le (false ∷ marks) = omega (arith, marked-le marks)

-- a line without a mark leaves room for one more
pub marked-room : (marks : List Bool) (line : ℕ) → line < length marks → get_or marks line false ≡ false → marked marks < length marks
marked-room [] line below e = absurd (omega arith)
marked-room (false ∷ marks) zero below e = omega (arith, marked-le marks)
marked-room (true ∷ marks) zero below e = absurd (let h : true ≡ false = e in cc)
marked-room (true ∷ marks) (suc line) below e = omega (arith, marked-room marks line (omega arith) e)
marked-room (false ∷ marks) (suc line) below e = omega (arith, marked-room marks line (omega arith) e)

pub marked-set : (marks : List Bool) (line : ℕ) → line < length marks → get_or marks line false ≡ false → marked (set marks line true) ≡ marked marks + 1
marked-set [] line below e = absurd (omega arith)
marked-set (false ∷ marks) zero below e = omega arith
marked-set (true ∷ marks) zero below e = absurd (let h : true ≡ false = e in cc)
marked-set (true ∷ marks) (suc line) below e = omega (arith, marked-set marks line (omega arith) e)
marked-set (false ∷ marks) (suc line) below e = omega (arith, marked-set marks line (omega arith) e)

pub marked-none : (marks : List Bool) → ((line : ℕ) → get_or marks line false ≡ false) → marked marks ≡ 0
marked-none [] none = refl
marked-none (true ∷ marks) none = absurd (let h : true ≡ false = none 0 in cc)
marked-none (false ∷ marks) none = omega (arith, marked-none marks (λ line. none (suc line)))

-- a line with a mark is one of the device
pub marked-below : (marks : List Bool) (line : ℕ) → get_or marks line false ≡ true → line < length marks
marked-below [] line e = absurd (let h : false ≡ true = e in cc)
marked-below (mark ∷ marks) zero e = omega arith
marked-below (mark ∷ marks) (suc line) e = omega (arith, marked-below marks line e)

-- how often a line is one of these
abbrev pub times : ℕ → List ℕ → ℕ
times line lines = sum_by (λ (l : ℕ). one_if (line == l)) lines

listed-sum : (b rest : Bool) (n m : ℕ) → m ≡ one_if b + n → (rest ≡ false → n ≡ 0) × (rest ≡ true → 0 < n)
    → ((b || rest) ≡ false → m ≡ 0) × ((b || rest) ≡ true → 0 < m)
listed-sum true rest n m is h = (λ e. absurd (let h : true ≡ false = e in cc), λ e. omega (arith, is))
listed-sum false rest n m is h = (λ e. omega (arith, is, h.0 e), λ e. omega (arith, is, h.1 e))

counts : (lines : List ℕ) (line : ℕ) → (has_line lines line ≡ false → times line lines ≡ 0) × (has_line lines line ≡ true → 0 < times line lines)
counts [] line = (λ e. refl, λ e. absurd (let h : false ≡ true = e in cc))
counts (l ∷ lines) line =
    listed-sum (line == l) (has_line lines line) (times line lines) (times line (l ∷ lines)) (sum_by-cons (λ (l : ℕ). one_if (line == l)) l lines) (counts lines line)

same_by_sum : (a b : Bool) (m n : ℕ) → (a ≡ false → m ≡ 0) × (a ≡ true → 0 < m) → (b ≡ false → n ≡ 0) × (b ≡ true → 0 < n) → m ≡ n → a ≡ b
same_by_sum a b m n x y e = grind arith

-- the same lines in another order
pub has_line-permuted : (old new : List ℕ) → IsPermutation old new → (line : ℕ) → has_line new line ≡ has_line old line
has_line-permuted old new moved line =
    same_by_sum (has_line new line) (has_line old line) (times line new) (times line old) (counts new line) (counts old line)
    (sum_by-IsPermutation (λ (l : ℕ). one_if (line == l)) old new moved)

-- a mark that would make false true is not set
pub not_marked : (marks : List Bool) (line : ℕ) → (get_or marks line false ≡ true → false ≡ true) → get_or marks line false ≡ false
not_marked marks line h = false_from_ne_true (get_or marks line false) (λ e. true≢false (sym (h e)))

pub has_line-at : (lines : List ℕ) (i : ℕ) → i < length lines → has_line lines (get_or lines i 0) ≡ true
has_line-at [] i below = absurd (omega arith)
has_line-at (line ∷ lines) zero below = ap (λ (b : Bool). b || has_line lines line) (eq-eqb line line refl)
has_line-at (line ∷ lines) (suc i) below = or_right (get_or lines i 0 == line) (has_line lines (get_or lines i 0)) (has_line-at lines i (omega arith))

pub unmarked : (n line : ℕ) → get_or (replicate n false) line false ≡ false
unmarked zero line = refl
unmarked (suc n) zero = refl
unmarked (suc n) (suc line) = unmarked n line

-- a push for which there was room
pub not_refused : {T E : Type 0} (r : Result T E) (b : Bool) → b ≡ is_err r → b ≡ true → IsOk r → ⊥
not_refused (Ok x) b is e ok = let h : false ≡ true = sym is ∙ e in cc
not_refused (Err x) b is e ok = let h : false ≡ true = ok in cc

pub pushed : {T E X : Type 0} (r : Result T E) (b : Bool) (x y : X) → b ≡ is_err r → b ≡ false → cond (is_ok r) x y ≡ x
pushed (Ok t) b x y is e = refl
pushed (Err t) b x y is e = absurd (let h : true ≡ false = sym is ∙ e in cc)

-- a mark that was taken away
pub cleared : (marks : List Bool) (line other : ℕ) → line < length marks → other ≡ line → get_or (set marks line false) other false ≡ true → ⊥
cleared marks line other below same e =
    true≢false (sym e ∙ rw same (get_or-set_same marks line false false below))
