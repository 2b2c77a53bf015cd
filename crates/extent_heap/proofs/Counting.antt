-- How many lines the runs have.
use Rattle.std.proofs.Common.{◌≡◌, ℕ, zero, suc, ◌+◌, ◌-◌, ◌≤◌, min, Bool, false, ◌&&◌, ◌||◌, nat_lt, nat_le, IsTrue, if◌then◌else◌, List, [], ◌∷◌, refl, sym, ap, ◌∙◌, add-one, arith}
use Rattle.std.proofs.lemmas.Bool.Decides.{nat_tests}
use Rattle.kv_types.specs.declared.place.Extent.{Extent}
use Rattle.extent_heap.specs.Extents.{is_line_of}
use Rattle.extent_heap.specs.Room.{Room, is_free_line, free_lines_below}
use Rattle.extent_heap.specs.Runs.{has_line, AreRuns, total}
use Rattle.extent_heap.proofs.RunsLemmas.{line_bounds, none_below}

-- how many numbers below this one pass a test
abbrev count : (ℕ → Bool) → ℕ → ℕ
count test zero = 0
count test (suc n) = (if test n then 1 else 0) + count test n

count_none : (test : ℕ → Bool) (n : ℕ) → ((i : ℕ) → test i ≡ false) → count test n ≡ 0
count_none test zero none = refl
count_none test (suc n) none = rw (none n, count_none test n none)

-- the numbers of an interval
one_more : (first end n : ℕ) (passes : Bool) → passes ≡ (nat_le first n && nat_lt n end) → (if passes then 1 else 0) + (min n end - first) ≡ min (n + 1) end - first
one_more first end n passes is = grind (arith, nat_tests)

count_interval : (first end n : ℕ) → count (λ i. nat_le first i && nat_lt i end) n ≡ min n end - first
count_interval first end zero = omega arith
count_interval first end (suc n) =
    let before = count_interval first end n in
    rw before (one_more first end n (nat_le first n && nat_lt n end) refl ∙ ap (λ k. min k end - first) (add-one n))

-- two tests of which no number passes both
either : (a b : Bool) (x y z : ℕ) → (IsTrue a → b ≡ false) → z ≡ x + y → (if a || b then 1 else 0) + z ≡ ((if a then 1 else 0) + x) + ((if b then 1 else 0) + y)
either a b x y z apart is = grind arith

count_either : (p q : ℕ → Bool) (n : ℕ) → ((i : ℕ) → IsTrue (p i) → q i ≡ false) → count (λ i. p i || q i) n ≡ count p n + count q n
count_either p q zero apart = refl
count_either p q (suc n) apart = either (p n) (q n) (count p n) (count q n) (count (λ i. p i || q i) n) (apart n) (count_either p q n apart)

total_is_count : (low high n : ℕ) (runs : List Extent) → AreRuns low high runs → high ≤ n + 1 → total runs ≡ count (has_line runs) n
total_is_count low high n [] ordered within = sym (count_none (λ i. false) n (λ i. refl))
total_is_count low high n (x ∷ xs) ordered within =
    let end = ordered.2 in
    let rest = total_is_count (x.first_line + x.lines + 1) high n xs ordered.3 within in
    let one = count_interval x.first_line (x.first_line + x.lines) n in
    let apart = λ (i : ℕ) (is : IsTrue (is_line_of x i)). none_below (x.first_line + x.lines + 1) high xs i ordered.3 (omega (arith, (line_bounds x i is).1)) in
    let both = count_either (is_line_of x) (has_line xs) n apart in
    omega arith

free_below : (room : Room) (n : ℕ) → free_lines_below room n ≡ count (has_line room.lines) n
free_below room zero = refl
free_below room (suc n) = ap (λ k. (if is_free_line room n then 1 else 0) + k) (free_below room n)

pub free_lines_are : (room : Room) → AreRuns 0 (room.end_line + 1) room.lines → total room.lines ≡ free_lines_below room room.end_line
free_lines_are room ordered = total_is_count 0 (room.end_line + 1) room.end_line room.lines ordered (omega arith) ∙ sym (free_below room room.end_line)
