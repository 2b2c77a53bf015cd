-- Bytes compare as the numbers that they spell, the greatest byte first.
use Rattle.std.proofs.Common.{◌≡◌, ◌≢◌, ℕ, ◌+◌, ◌-◌, ◌*◌, ◌<◌, ◌≤◌, List, [], ◌∷◌, ◌++◌, length, take, drop, take_all, get_or, length-drop, Fits, w8, Ordering, Less, Equal, Greater, refl, sym, ap, ◌∙◌, arith}
use Rattle.std.specs.List.{AllByRecursion}
use Rattle.std.specs.Ordering.{nat_cmp, ordering_then, MatchOrdering}
use Rattle.std.specs.Cmp.{ranks}
use Rattle.std.specs.Cmp.Lexicographic.{slice_cmp}
use Rattle.kv_types.specs.ByteOrder.{big_endian, IsReadOff}

below : (x y : ℕ) → x < y → nat_cmp x y ≡ Less
below x y less = grind arith

level : (x y : ℕ) → x ≡ y → nat_cmp x y ≡ Equal
level x y same = grind arith

above : (x y : ℕ) → y < x → nat_cmp x y ≡ Greater
above x y more = grind arith

-- two numbers that lie as two others do
lie_as : (x y z w : ℕ) → (x < y → z < w) → (x ≡ y → z ≡ w) → (y < x → w < z) → nat_cmp x y ≡ nat_cmp z w
lie_as x y z w less same more = by (nat_cmp x y) (ranks x y)
  where
    by : (o : Ordering) → MatchOrdering o (x < y) (x ≡ y) (y < x) → o ≡ nat_cmp z w
    by Less fact = sym (below z w (less fact))
    by Equal fact = sym (level z w (same fact))
    by Greater fact = sym (above z w (more fact))

-- one digit more decides where the digits before do not
with_digit : (n m x y : ℕ) (o : Ordering) → x < 256 → y < 256
    → ordering_then (nat_cmp n m) (ordering_then (nat_cmp x y) o) ≡ ordering_then (nat_cmp (n * 256 + x) (m * 256 + y)) o
with_digit n m x y o small_x small_y = by (nat_cmp n m) (ranks n m)
  where
    by : (p : Ordering) → MatchOrdering p (n < m) (n ≡ m) (m < n) → ordering_then p (ordering_then (nat_cmp x y) o) ≡ ordering_then (nat_cmp (n * 256 + x) (m * 256 + y)) o
    by Less fact = sym (ap (λ p. ordering_then p o) (below (n * 256 + x) (m * 256 + y) (omega arith)))
    by Equal fact = ap (λ p. ordering_then p o) (lie_as x y (n * 256 + x) (m * 256 + y) (λ less. omega arith) (λ same. omega arith) (λ more. omega arith))
    by Greater fact = sym (ap (λ p. ordering_then p o) (above (n * 256 + x) (m * 256 + y) (omega arith)))

with_digits : (n m : ℕ) (xs ys r s : List ℕ) → length xs ≡ length ys → AllByRecursion (λ b. b < 256) xs → AllByRecursion (λ b. b < 256) ys
    → ordering_then (nat_cmp n m) (slice_cmp nat_cmp (xs ++ r) (ys ++ s)) ≡ ordering_then (nat_cmp (big_endian n xs) (big_endian m ys)) (slice_cmp nat_cmp r s)
with_digits n m [] [] r s same small_xs small_ys = refl
with_digits n m [] (y ∷ ys) r s same small_xs small_ys = absurd (omega arith)
with_digits n m (x ∷ xs) [] r s same small_xs small_ys = absurd (omega arith)
with_digits n m (x ∷ xs) (y ∷ ys) r s same small_xs small_ys =
    with_digit n m x y (slice_cmp nat_cmp (xs ++ r) (ys ++ s)) small_xs.0 small_ys.0
    ∙ with_digits (n * 256 + x) (m * 256 + y) xs ys r s (omega arith) small_xs.1 small_ys.1

-- the numbers decide, and where they are equal what comes after
decided : (count : ℕ) (a b r s : List ℕ) (x y : ℕ) → IsReadOff count a x r → IsReadOff count b y s
    → slice_cmp nat_cmp a b ≡ ordering_then (nat_cmp x y) (slice_cmp nat_cmp r s)
decided count a b r s x y of_a of_b =
    let long : length of_a.front ≡ length of_b.front = of_a.len ∙ sym of_b.len in
    (λ i. slice_cmp nat_cmp (of_a.whole i) (of_b.whole i))
    ∙ with_digits 0 0 of_a.front of_b.front r s long of_a.small of_b.small
    ∙ (λ i. ordering_then (nat_cmp (sym of_a.spelled i) (sym of_b.spelled i)) (slice_cmp nat_cmp r s))

all_later : (count : ℕ) (xs : List ℕ) → take (length xs - count) (drop count xs) ≡ drop count xs
all_later count xs = take_all _ (drop count xs) (omega (arith, length-drop count xs))

pub tied : (count : ℕ) (a b : List ℕ) (x y : ℕ) (o : Ordering) → IsReadOff count a x (drop count a) → IsReadOff count b y (drop count b)
    → x ≡ y → o ≡ slice_cmp nat_cmp (take (length a - count) (drop count a)) (take (length b - count) (drop count b)) → o ≡ slice_cmp nat_cmp a b
tied count a b x y o of_a of_b same is =
    is
    ∙ (λ i. slice_cmp nat_cmp (all_later count a i) (all_later count b i))
    ∙ sym (decided count a b (drop count a) (drop count b) x y of_a of_b ∙ ap (λ p. ordering_then p (slice_cmp nat_cmp (drop count a) (drop count b))) (level x y same))

pub told_apart : (count : ℕ) (a b r s : List ℕ) (x y : ℕ) (o : Ordering) → IsReadOff count a x r → IsReadOff count b y s
    → x ≢ y → o ≡ nat_cmp x y → o ≡ slice_cmp nat_cmp a b
told_apart count a b r s x y o of_a of_b differ is = is ∙ by (nat_cmp x y) (ranks x y) refl ∙ sym (decided count a b r s x y of_a of_b)
  where
    by : (p : Ordering) → MatchOrdering p (x < y) (x ≡ y) (y < x) → nat_cmp x y ≡ p → p ≡ ordering_then p (slice_cmp nat_cmp r s)
    by Less fact e = refl
    by Equal fact e = absurd (differ fact)
    by Greater fact e = refl

fits_below : (b : ℕ) → Fits w8 b → b < 256
fits_below b fits = omega arith

pub four_read : (xs : List ℕ) (n : ℕ) → 4 ≤ length xs → ((k : ℕ) → Fits w8 (get_or xs k 0))
    → n ≡ get_or xs 0 0 * 16777216 + get_or xs 1 0 * 65536 + get_or xs 2 0 * 256 + get_or xs 3 0
    → IsReadOff 4 xs n (drop 4 xs)
four_read [] n long fits is = absurd (omega arith)
four_read (a ∷ []) n long fits is = absurd (omega arith)
four_read (a ∷ b ∷ []) n long fits is = absurd (omega arith)
four_read (a ∷ b ∷ c ∷ []) n long fits is = absurd (omega arith)
four_read (a ∷ b ∷ c ∷ d ∷ later) n long fits is =
    record {
      front = a ∷ b ∷ c ∷ d ∷ [];
      len = refl;
      small = (fits_below a (fits 0), (fits_below b (fits 1), (fits_below c (fits 2), (fits_below d (fits 3), tt))));
      whole = refl;
      spelled = omega arith;
    }

pub eight_read : (xs : List ℕ) (n : ℕ) → 8 ≤ length xs → ((k : ℕ) → Fits w8 (get_or xs k 0))
    → n ≡ get_or xs 0 0 * 72057594037927936 + get_or xs 1 0 * 281474976710656 + get_or xs 2 0 * 1099511627776 + get_or xs 3 0 * 4294967296
    + get_or xs 4 0 * 16777216 + get_or xs 5 0 * 65536 + get_or xs 6 0 * 256 + get_or xs 7 0
    → IsReadOff 8 xs n (drop 8 xs)
eight_read [] n long fits is = absurd (omega arith)
eight_read (a ∷ []) n long fits is = absurd (omega arith)
eight_read (a ∷ b ∷ []) n long fits is = absurd (omega arith)
eight_read (a ∷ b ∷ c ∷ []) n long fits is = absurd (omega arith)
eight_read (a ∷ b ∷ c ∷ d ∷ []) n long fits is = absurd (omega arith)
eight_read (a ∷ b ∷ c ∷ d ∷ e ∷ []) n long fits is = absurd (omega arith)
eight_read (a ∷ b ∷ c ∷ d ∷ e ∷ f ∷ []) n long fits is = absurd (omega arith)
eight_read (a ∷ b ∷ c ∷ d ∷ e ∷ f ∷ g ∷ []) n long fits is = absurd (omega arith)
eight_read (a ∷ b ∷ c ∷ d ∷ e ∷ f ∷ g ∷ h ∷ later) n long fits is =
    record {
      front = a ∷ b ∷ c ∷ d ∷ e ∷ f ∷ g ∷ h ∷ [];
      len = refl;
      small = (fits_below a (fits 0), (fits_below b (fits 1), (fits_below c (fits 2), (fits_below d (fits 3), (fits_below e (fits 4), (fits_below f (fits 5), (fits_below g (fits 6), (fits_below h (fits 7), tt))))))));
      whole = refl;
      spelled = omega arith;
    }
