-- The integer of a text is the one that was read.
use Rattle.std.proofs.Common.{rules, ◌&&◌, if◌then◌else◌, ◌≡◌, ◌≢◌, IfSome, IfNone, ◌<◌, ◌^◌, arith, length, ℕ, ℤ, pos, negsuc, neg_ℤ, suc, List, [], ◌∷◌, Option, Some, None, FitsSigned, w64, Bool, true, nat_lt, get_or, sym, ap, ◌∙◌, refl}
use Rattle.std.specs.Int.Signed.{mag}
use Rattle.std.specs.Fmt.{signed_decimal, decimal}
use Rattle.std.specs.Str.{bytes_eq}
use Rattle.std.specs.Str.Parse.{AllDigits, digits_value}
use Rattle.std.proofs.lemmas.Slice.Eq.{bytes_eq-Decides}
use Rattle.std.proofs.lemmas.Str.Parse.{IsNumeralModel, numerals_by_value, tells_digits, not_in_digits}
use Rattle.std.proofs.lemmas.Fmt.{digits_decimal, digits_value-decimal, decimal_nonempty}
use Rattle.std.proofs.lemmas.Bool.Decides.{nat_tests}
use Rattle.cmd_core.specs.Integer.{value_of, int_of, is_in_range}

own : IsNumeralModel (AllDigits 10) (digits_value 10)
own = numerals_by_value (AllDigits 10) tells_digits

without_sign : (text : List ℕ) → get_or text 0 0 ≢ 45 → 0 < length text → value_of text ≡ pos (digits_value 10 text)
without_sign [] differs some = absurd (omega arith)
without_sign (c ∷ digits) differs some = search rules

value-written : (n : ℤ) → mag n < 2 ^ 63 → value_of (signed_decimal n) ≡ n
value-written (pos n) small =
    let few : n < 2 ^ 64 = omega arith in
    let some : 0 < length (decimal n) = decimal_nonempty n few in
    without_sign (decimal n) (not_in_digits own (decimal n) 45 (digits_decimal own n few) (λ range. omega arith) 0 some) some ∙ ap pos (digits_value-decimal own n few)
value-written (negsuc n) small =
    let few : suc n < 2 ^ 64 = omega arith in
    ap (λ k. neg_ℤ (pos k)) (digits_value-decimal own (suc n) few)

found : (text : List ℕ) (n : ℤ) → mag n < 2 ^ 63 → text ≡ signed_decimal n → Some n ≡ int_of text
unfolding int_of
found text n small is =
    let value : value_of text ≡ n = ap value_of is ∙ value-written n small in
    let range : nat_lt (mag n) (2 ^ 63) ≡ true = grind (arith, nat_tests) in
    let same : bytes_eq (signed_decimal n) text ≡ true = (bytes_eq-Decides (signed_decimal n) text).1 (sym is) in
    rw (value, range, same) refl

nothing : (n : ℤ) (a b : Bool) → (a ≡ true → b ≡ true → ⊥) → None ≡ (if a && b then Some n else None)
nothing n a b both = grind arith

refused : (text : List ℕ) → ((n : ℤ) → FitsSigned w64 n → text ≢ signed_decimal n) → None ≡ int_of text
unfolding int_of
refused text none =
    let n = value_of text in
    nothing n (is_in_range n) (bytes_eq (signed_decimal n) text)
    (λ range same. none n (let small : mag n < 2 ^ 63 = grind (arith, nat_tests) in record { sfits = small }) (sym ((bytes_eq-Decides (signed_decimal n) text).0 same)))

pub read_is : (text : List ℕ) (r : Option ℤ) → IfSome r (λ n. text ≡ signed_decimal n) → IfSome r (λ n. FitsSigned w64 n) → IfNone r ((n : ℤ) → FitsSigned w64 n → text ≢ signed_decimal n) → r ≡ int_of text
read_is text None is fits none = refused text none
read_is text (Some n) is fits none = found text n fits.sfits is
