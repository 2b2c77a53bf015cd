-- A decimal with its line end begins no other, whatever the numbers.
use Rattle.std.proofs.Common.{◌≡◌, ℕ, zero, suc, ◌+◌, ◌/◌, ◌%◌, ◌^◌, ◌<◌, ◌≤◌, true, false, cond, ◌==◌, nat_lt, inl, inr, List, [], ◌∷◌, ◌++◌, length, refl, ap, sym, ◌∙◌, lit≤, arith}
use Rattle.std.proofs.lemmas.Bool.{cases_lt, ne_eqb, cond-false}
use Rattle.std.proofs.lemmas.Nat.{le-div}
use Rattle.std.proofs.Math.Nat.{pow-suc, one-le-pow}
use Rattle.std.proofs.lemmas.Fmt.{decimal_is_IsNumeral, decimal_is_IsNumeral_wide, length-decimal-le}
use Rattle.std.specs.Str.Parse.{digits_value}
use Rattle.std.specs.List.{AllByRecursion}
use Rattle.std.specs.Fmt.{decimal, digits, digits_onto, digit_glyph}
use Rattle.kv_types.specs.Request.{number_line}
use Rattle.kv_types.proofs.GrammarNumbers.{number_line-append}

-- none of these is a carriage return
abbrev AreDigits : List ℕ → Type 0
AreDigits bytes = AllByRecursion (λ byte. 48 ≤ byte) bytes

digit_glyph-large : (d : ℕ) → 48 ≤ digit_glyph false d
digit_glyph-large d = elim (nat_lt d 10) as (λ b. 48 ≤ cond b (48 + d) (87 + d)) [ true ↦ omega arith | false ↦ omega arith ]

AreDigits-onto : (k n : ℕ) (acc : List ℕ) → AreDigits acc → AreDigits (digits_onto k 10 false n acc)
AreDigits-onto zero n acc h = h
AreDigits-onto (suc k) n acc h =
    let glyph = digit_glyph false (n % 10) in
    let more : AreDigits (glyph ∷ acc) = (digit_glyph-large (n % 10), h) in
    elim (n / 10 == 0) as (λ b. AreDigits (cond b (glyph ∷ acc) (digits_onto k 10 false (n / 10) (glyph ∷ acc)))) [
      | true ↦ more
      | false ↦ AreDigits-onto k (n / 10) (glyph ∷ acc) more
    ]

AreDigits-decimal : (n : ℕ) → AreDigits (decimal n)
unfolding digits
AreDigits-decimal n = AreDigits-onto 64 n [] tt

length-onto : (k n : ℕ) (acc : List ℕ) → 10 ^ k ≤ n → length (digits_onto k 10 false n acc) ≡ k + length acc
length-onto zero n acc h = omega arith
length-onto (suc k) n acc h =
    let glyph = digit_glyph false (n % 10) in
    let more : 10 ^ k ≤ n / 10 = le-div (10 ^ k) n 10 (omega arith) (rw pow-suc at h) in
    let some : 1 ≤ 10 ^ k = one-le-pow k 10 (omega arith) in
    let test : (n / 10 == 0) ≡ false = ne_eqb (n / 10) 0 (λ e. omega arith) in
    ap length (cond-false (n / 10 == 0) (glyph ∷ acc) (digits_onto k 10 false (n / 10) (glyph ∷ acc)) test) ∙ length-onto k (n / 10) (glyph ∷ acc) more ∙ omega arith

-- numbers with the same decimal are equal, if one of them is below 2^64
decimal_same : (n m : ℕ) → m < 2 ^ 64 → decimal n ≡ decimal m → n ≡ m
unfolding digits
decimal_same n m small e =
    elim (cases_lt n (10 ^ 64)) [
      | inl fits ↦ sym ((decimal_is_IsNumeral_wide n fits).1) ∙ ap (digits_value 10) e ∙ (decimal_is_IsNumeral m small).1
      | inr long ↦
          let bound : 2 ^ 64 ≤ 10 ^ 20 = lit≤ tt in
          let short : m < 10 ^ 20 = omega arith in
          absurd (omega (arith, length-onto 64 n [] long, length-decimal-le 20 m (omega arith) short small, ap length e))
    ]

parted : (p q x y : List ℕ) → AreDigits p → AreDigits q → p ++ (13 ∷ x) ≡ q ++ (13 ∷ y) → (p ≡ q) × (x ≡ y)
parted [] [] x y hp hq e = (refl, cc)
parted [] (d ∷ q) x y hp hq e = let same : 13 ≡ d = cc in absurd (omega (arith, hq.0))
parted (d ∷ p) [] x y hp hq e = let same : d ≡ 13 = cc in absurd (omega (arith, hp.0))
parted (d ∷ p) (c ∷ q) x y hp hq e =
    let rest = parted p q x y hp.1 hq.1 cc in
    (grind (arith, rest.0), rest.1)

-- a number's line begins no other
pub number_line-parted : (n m : ℕ) (x y : List ℕ) → m < 2 ^ 64 → number_line n ++ x ≡ number_line m ++ y → (n ≡ m) × (x ≡ y)
number_line-parted n m x y small e =
    let lines : decimal n ++ (13 ∷ 10 ∷ x) ≡ decimal m ++ (13 ∷ 10 ∷ y) = sym (number_line-append n x) ∙ e ∙ number_line-append m y in
    let parts = parted (decimal n) (decimal m) (10 ∷ x) (10 ∷ y) (AreDigits-decimal n) (AreDigits-decimal m) lines in
    let feeds = parts.1 in
    (decimal_same n m small parts.0, cc)
