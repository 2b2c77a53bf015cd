-- The text of a number below 2^64: it is UTF-8, and parsing it gives the number back.
use Rattle.std.proofs.Common.{◌≡◌, ◌<◌, ◌^◌, ℕ, List, Result, Ok, IsUtf8, false, ◌≢◌, nat_eq, sym, ap, subst, ◌∙◌}
use Rattle.std.specs.Cmp.Lexicographic.{pointwise, other_text}
use Rattle.std.proofs.lemmas.Fmt.{IsAscii-decimal, parse-decimal}
use Rattle.std.proofs.lemmas.Str.{IsUtf8-from_ascii}
use Rattle.std.specs.Fmt.{decimal}
use Rattle.std.specs.Str.Parse.{ParsesUnsigned}

pub IsUtf8-number : (n : ℕ) (text : List ℕ) → n < 2 ^ 64 → text ≡ decimal n → IsUtf8 text
IsUtf8-number n text fits is = subst IsUtf8 (sym is) (IsUtf8-from_ascii (decimal n) (IsAscii-decimal n fits))

pub parsed_number : {E : Type 0} (n : ℕ) (text : List ℕ) (r : Result ℕ E) → n < 2 ^ 64 → text ≡ decimal n → ParsesUnsigned 64 10 text r → r ≡ Ok n
parsed_number n text r fits is parses = parse-decimal 64 n text r fits fits is parses

-- writing the number of the text would have given the text back
pub written_back : (number n : ℕ) (written text : List ℕ) → number ≡ n → written ≡ decimal number → text ≡ decimal n → false ≢ pointwise nat_eq written text
written_back number n written text same writes is differ =
    other_text written text differ (writes ∙ ap decimal same ∙ sym is)

pub same_Ok : {A E : Type 0} (x y : A) (r : Result A E) → r ≡ Ok x → r ≡ Ok y → x ≡ y
same_Ok x y r a b = cc
