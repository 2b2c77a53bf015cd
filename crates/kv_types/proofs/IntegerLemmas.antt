-- The text of a 64-bit signed integer: it is UTF-8, and parsing it gives the integer back.
use Rattle.std.proofs.Common.{◌≡◌, ℕ, ℤ, List, Result, Ok, FitsSigned, IsUtf8, w64, to_z, of_z, to_z-of_z, false, ◌≢◌, nat_eq, sym, ap, subst, ◌∙◌}
use Rattle.std.specs.Cmp.Lexicographic.{pointwise, other_text}
use Rattle.std.proofs.lemmas.Fmt.{IsAscii-signed, parse-signed_decimal}
use Rattle.std.proofs.lemmas.Str.{IsUtf8-from_ascii}
use Rattle.std.specs.Fmt.{signed_decimal}
use Rattle.std.specs.Str.Parse.{ParsesSigned}

pub IsUtf8-integer : (n : ℤ) (text : List ℕ) → FitsSigned w64 n → text ≡ signed_decimal n → IsUtf8 text
IsUtf8-integer n text fits is = subst IsUtf8 (sym is) (IsUtf8-from_ascii (signed_decimal n) (IsAscii-signed n fits.sfits))

pub parsed_integer : {E : Type 0} (n : ℤ) (text : List ℕ) (r : Result ℤ E) → FitsSigned w64 n → text ≡ signed_decimal n → ParsesSigned w64 10 text r → r ≡ Ok n
parsed_integer n text r fits is parses = parse-signed_decimal w64 n text r fits fits.sfits is parses

-- writing the integer of the text would have given the text back
pub written_back : (number n : ℤ) (written text : List ℕ) → number ≡ n → FitsSigned w64 n → written ≡ signed_decimal (to_z w64 (of_z w64 number)) → text ≡ signed_decimal n → false ≢ pointwise nat_eq written text
written_back number n written text same fits writes is differ =
    let back : to_z w64 (of_z w64 number) ≡ n = ap (λ z. to_z w64 (of_z w64 z)) same ∙ to_z-of_z fits in
    other_text written text differ (writes ∙ ap signed_decimal back ∙ sym is)
