-- Numbers within bounds, and runs of bytes, as texts that are read.
use Rattle.std.proofs.Common.{◌≡◌, ℕ, zero, suc, ◌+◌, ◌-◌, ◌*◌, ◌/◌, ◌%◌, ◌^◌, ◌<◌, ◌≤◌, Bool, true, false, cond, ltb, List, [], ◌∷◌, ◌++◌, length, take, drop, get_or, Ok, Err, ◌⊎◌, inl, inr, refl, sym, ap, subst, ◌∙◌, arith}
use Rattle.std.specs.Prelude.{nat_lt, nat_le, ◌&&◌, replicate}
use Rattle.std.specs.Int.{w16, w32, w64, to_be_bytes}
use Rattle.std.proofs.lemmas.Bool.{ltb-true, ltb-false, le-ltb}
use Rattle.std.proofs.lemmas.Bool.Decides.{nat_tests}
use Rattle.std.proofs.lemmas.List.{take_at, drop_at, take-append-drop, length-append, length-take}
use Rattle.std.proofs.Math.Nat.{pow-suc, one-le-pow}
use Rattle.std.proofs.lemmas.Nat.{div_below, mod_below, div-add-mod', mul-le, be_bytes_2, be_bytes_4, be_bytes_8}
use Rattle.kv_types.specs.declared.stop.Stop.TheVariants.{Short, Broken}
use Rattle.kv_types.proofs.ReaderLemmas.{ok_parts}
use Rattle.stream_codec.specs.Bytes.{Outcome, two_places, four_places, eight_places, span, ArePlaces, IsBytes, number_from, number_at, bytes_at, counted_at}
use Rattle.stream_codec.proofs.Readers.{Reads, Reads-as, Reads-then, Then}

-- ---- digits

-- the text has a byte for each place, and they count n together
abbrev pub AreDigits : List ℕ → ℕ → List ℕ → Type 0
AreDigits [] n text = (n ≡ 0) × (text ≡ [])
AreDigits (place ∷ places) n [] = ⊥
AreDigits (place ∷ places) n (byte ∷ text) = (byte < 256) × (rest : ℕ) × (n ≡ byte * place + rest) × AreDigits places rest text

pub span_pos : (places : List ℕ) → ArePlaces places → 0 < span places
span_pos [] h = omega arith
span_pos (place ∷ places) h = let p = span_pos places h.1 in omega (arith, h.0, p)

-- a byte's share of a number
share : (byte place : ℕ) → byte < 256 → byte * place + place ≤ 256 * place
share byte place h =
    let e : (byte + 1) * place ≤ 256 * place = mul-le (byte + 1) place 256 place (omega arith) (omega arith) in
    omega (arith, e)

pub digits_below : (places : List ℕ) (n : ℕ) (text : List ℕ) → ArePlaces places → AreDigits places n text → n < span places
digits_below [] n text a d = omega (arith, d.0)
digits_below (place ∷ places) n [] a d = absurd d
digits_below (place ∷ places) n (byte ∷ text) a d =
    let below = digits_below places d.1 text a.1 d.3 in
    omega (arith, below, a.0, d.2, share byte place d.0)

-- each number that is not too large has digits
pub digits_of : (places : List ℕ) (n : ℕ) → ArePlaces places → n < span places → (text : List ℕ) × AreDigits places n text
digits_of [] n a h = ([], (omega arith, refl))
digits_of (place ∷ places) n a h =
    let pos : 0 < place = omega (arith, a.0, span_pos places a.1) in
    let low = mod_below n place pos in
    let rest = digits_of places (n % place) a.1 (omega (arith, low, a.0)) in
    (n / place ∷ rest.0, (div_below n place 256 pos h, n % place, sym (div-add-mod' n place), rest.1))

-- ---- numbers

-- the test that each byte of a number has to pass
in_range : (byte low high least most : ℕ) → nat_lt byte 256 && nat_le low most && nat_le least high ≡ true → (byte < 256) × (low ≤ most) × (least ≤ high)
in_range byte low high least most e = (grind (arith, nat_tests), grind (arith, nat_tests), grind (arith, nat_tests))

is_in_range : (byte low high least most : ℕ) → byte < 256 → low ≤ most → least ≤ high → nat_lt byte 256 && nat_le low most && nat_le least high ≡ true
is_in_range byte low high least most a b c = grind (arith, nat_tests)

pub true_or_false : (b : Bool) → (b ≡ true) ⊎ (b ≡ false)
true_or_false true = inl refl
true_or_false false = inr refl

-- a number within the bounds, of which the bytes before count `sum`
pub record IsNumberFrom (places : List ℕ) (least most sum n : ℕ) (text : List ℕ) : Type 0 where
  pub least_is : least ≤ n
  pub most_is : n ≤ most
  pub rest : ℕ
  pub parts : n ≡ sum + rest
  pub digits : AreDigits places rest text

-- some number within the bounds begins with the bytes that count `sum`
pub record CanEnd (places : List ℕ) (least most sum : ℕ) : Type 0 where
  pub some : least ≤ most
  pub low : sum ≤ most
  pub high : least < sum + span places

pub cond_true : {A : Type 0} (b : Bool) (x y : A) → b ≡ true → cond b x y ≡ x
cond_true true x y e = refl
cond_true false x y e = absurd cc

pub cond_false : {A : Type 0} (b : Bool) (x y : A) → b ≡ false → cond b x y ≡ y
cond_false true x y e = absurd cc
cond_false false x y e = refl

abbrev fits : ℕ → List ℕ → ℕ → ℕ → ℕ → ℕ → Bool
fits place places least most sum byte = nat_lt byte 256 && nat_le (sum + byte * place) most && nat_le least (sum + byte * place + (place - 1))

next_can_end : (place : ℕ) (places : List ℕ) (least most sum byte : ℕ) → ArePlaces (place ∷ places) → CanEnd (place ∷ places) least most sum → (byte < 256) × (sum + byte * place ≤ most) × (least ≤ sum + byte * place + (place - 1)) → CanEnd places least most (sum + byte * place)
next_can_end place places least most sum byte a c t =
    let pos = span_pos places a.1 in
    record { some = c.some; low = t.1; high = omega (arith, a.0, t.2, pos) }

number_begins : (places : List ℕ) (least most sum : ℕ) → number_from places least most sum [] ≡ Err (Broken tt) → ⊥
number_begins [] least most sum e = absurd cc
number_begins (place ∷ places) least most sum e = absurd cc

number_again : (places : List ℕ) (least most sum : ℕ) → ArePlaces places → (n : ℕ) (text more : List ℕ) → IsNumberFrom places least most sum n text → number_from places least most sum (text ++ more) ≡ Ok (n, more)
number_again [] least most sum a n text more i =
    let done : ℕ → List ℕ → Outcome ℕ = λ m bytes. Ok (m, bytes) in
    let same : sum ≡ n = omega (arith, i.parts, i.digits.0) in
    ap (λ t. done sum (t ++ more)) i.digits.1 ∙ ap (λ m. done m more) same
number_again (place ∷ places) least most sum a n [] more i = absurd i.digits
number_again (place ∷ places) least most sum a n (byte ∷ text) more i =
    let d = i.digits in
    let below = digits_below places d.1 text a.1 d.3 in
    let t = is_in_range byte (sum + byte * place) (sum + byte * place + (place - 1)) least most d.0 (omega (arith, i.parts, d.2, i.most_is)) (omega (arith, i.parts, d.2, i.least_is, below, a.0)) in
    cond_true (fits place places least most sum byte) (number_from places least most (sum + byte * place) (text ++ more)) (Err (Broken tt)) t
    ∙ number_again places least most (sum + byte * place) a.1 n text more (record { least_is = i.least_is; most_is = i.most_is; rest = d.1; parts = omega (arith, i.parts, d.2); digits = d.3 })

number_takes : (places : List ℕ) (least most sum : ℕ) → ArePlaces places → CanEnd places least most sum → (bytes : List ℕ) (n : ℕ) (rest : List ℕ) → number_from places least most sum bytes ≡ Ok (n, rest) → (text : List ℕ) × IsNumberFrom places least most sum n text × (bytes ≡ text ++ rest)
number_takes [] least most sum a c bytes n rest e =
    let same = ok_parts sum n bytes rest e in
    ([], record { least_is = omega (arith, same.0, c.high); most_is = omega (arith, same.0, c.low); rest = 0; parts = omega (arith, same.0); digits = (refl, refl) }, same.1)
number_takes (place ∷ places) least most sum a c [] n rest e = absurd cc
number_takes (place ∷ places) least most sum a c (byte ∷ bytes) n rest e =
    elim (true_or_false (fits place places least most sum byte)) [
      | inl t ↦ let u = in_range byte (sum + byte * place) (sum + byte * place + (place - 1)) least most t in
          let k = number_takes places least most (sum + byte * place) a.1 (next_can_end place places least most sum byte a c u) bytes n rest (sym (cond_true (fits place places least most sum byte) (number_from places least most (sum + byte * place) bytes) (Err (Broken tt)) t) ∙ e) in
          (byte ∷ k.0, record { least_is = k.1.least_is; most_is = k.1.most_is; rest = byte * place + k.1.rest; parts = omega (arith, k.1.parts); digits = (u.0, k.1.rest, refl, k.1.digits) }, ap (λ b. byte ∷ b) k.2)
      | inr f ↦ let broken = sym (cond_false (fits place places least most sum byte) (number_from places least most (sum + byte * place) bytes) (Err (Broken tt)) f) ∙ e in absurd cc
    ]

number_short : (places : List ℕ) (least most sum : ℕ) → ArePlaces places → CanEnd places least most sum → (bytes : List ℕ) → number_from places least most sum bytes ≡ Err Short → (n : ℕ) × (more : List ℕ) × IsNumberFrom places least most sum n (bytes ++ more)
number_short [] least most sum a c bytes e = absurd cc
number_short (place ∷ places) least most sum a c [] e =
    let d = digits_of (place ∷ places) (least - sum) a (omega (arith, c.high, a.0, span_pos places a.1)) in
    (sum + (least - sum), d.0, record { least_is = omega arith; most_is = omega (arith, c.some, c.low); rest = least - sum; parts = refl; digits = d.1 })
number_short (place ∷ places) least most sum a c (byte ∷ bytes) e =
    elim (true_or_false (fits place places least most sum byte)) [
      | inl t ↦ let u = in_range byte (sum + byte * place) (sum + byte * place + (place - 1)) least most t in
          let k = number_short places least most (sum + byte * place) a.1 (next_can_end place places least most sum byte a c u) bytes (sym (cond_true (fits place places least most sum byte) (number_from places least most (sum + byte * place) bytes) (Err (Broken tt)) t) ∙ e) in
          (k.0, k.1, record { least_is = k.2.least_is; most_is = k.2.most_is; rest = byte * place + k.2.rest; parts = omega (arith, k.2.parts); digits = (u.0, k.2.rest, refl, k.2.digits) })
      | inr f ↦ let broken = sym (cond_false (fits place places least most sum byte) (number_from places least most (sum + byte * place) bytes) (Err (Broken tt)) f) ∙ e in absurd cc
    ]

number_stays : (places : List ℕ) (least most sum : ℕ) (bytes more : List ℕ) → number_from places least most sum bytes ≡ Err (Broken tt) → number_from places least most sum (bytes ++ more) ≡ Err (Broken tt)
number_stays [] least most sum bytes more e = absurd cc
number_stays (place ∷ places) least most sum [] more e = absurd cc
number_stays (place ∷ places) least most sum (byte ∷ bytes) more e =
    elim (true_or_false (fits place places least most sum byte)) [
      | inl t ↦ cond_true (fits place places least most sum byte) (number_from places least most (sum + byte * place) (bytes ++ more)) (Err (Broken tt)) t
          ∙ number_stays places least most (sum + byte * place) bytes more (sym (cond_true (fits place places least most sum byte) (number_from places least most (sum + byte * place) bytes) (Err (Broken tt)) t) ∙ e)
      | inr f ↦ cond_false (fits place places least most sum byte) (number_from places least most (sum + byte * place) (bytes ++ more)) (Err (Broken tt)) f
    ]

-- what was read stays read, and each place takes a byte, whatever the bounds are
pub number_grows : (places : List ℕ) (least most sum : ℕ) (bytes more : List ℕ) (n : ℕ) (rest : List ℕ) → number_from places least most sum bytes ≡ Ok (n, rest) → (number_from places least most sum (bytes ++ more) ≡ Ok (n, rest ++ more)) × (text : List ℕ) × (bytes ≡ text ++ rest) × (length text ≡ length places)
number_grows [] least most sum bytes more n rest e =
    let same = ok_parts sum n bytes rest e in
    let done : ℕ → List ℕ → Outcome ℕ = λ m b. Ok (m, b) in
    (ap (λ m. done m (bytes ++ more)) same.0 ∙ ap (λ b. done n (b ++ more)) same.1, [], same.1, refl)
number_grows (place ∷ places) least most sum [] more n rest e = absurd cc
number_grows (place ∷ places) least most sum (byte ∷ bytes) more n rest e =
    elim (true_or_false (fits place places least most sum byte)) [
      | inl t ↦ let k = number_grows places least most (sum + byte * place) bytes more n rest (sym (cond_true (fits place places least most sum byte) (number_from places least most (sum + byte * place) bytes) (Err (Broken tt)) t) ∙ e) in (
        cond_true (fits place places least most sum byte) (number_from places least most (sum + byte * place) (bytes ++ more)) (Err (Broken tt)) t ∙ k.0,
        byte ∷ k.1,
        ap (λ b. byte ∷ b) k.2,
        ap suc k.3,
      )
      | inr f ↦ let broken = sym (cond_false (fits place places least most sum byte) (number_from places least most (sum + byte * place) bytes) (Err (Broken tt)) f) ∙ e in absurd cc
    ]

-- the end of bytes
pub IsBytes-end : (front rest : List ℕ) → IsBytes (front ++ rest) → IsBytes rest
IsBytes-end [] rest are = are
IsBytes-end (byte ∷ front) rest are = IsBytes-end front rest (λ i. are (suc i))

pub IsBytes-append : (bytes more : List ℕ) → IsBytes bytes → IsBytes more → IsBytes (bytes ++ more)
IsBytes-append [] more are more_are i = more_are i
IsBytes-append (byte ∷ bytes) more are more_are zero = are 0
IsBytes-append (byte ∷ bytes) more are more_are (suc i) = IsBytes-append bytes more (λ k. are (suc k)) more_are i

-- where the last byte alone can pass the bound, bytes that are too few for the places are only short
pub number_waits : (places : List ℕ) (most sum : ℕ) → ArePlaces places → sum + span places ≤ most + 256 → (bytes : List ℕ) → IsBytes bytes → length bytes < length places → number_from places 0 most sum bytes ≡ Err Short
number_waits [] most sum a wide bytes are h = absurd (omega (arith, h))
number_waits (place ∷ places) most sum a wide [] are h = refl
number_waits (place ∷ []) most sum a wide (byte ∷ bytes) are h = absurd (omega (arith, h))
number_waits (place ∷ next ∷ places) most sum a wide (byte ∷ bytes) are h =
    let low = share byte place (are 0) in
    let pos = span_pos places a.1.1 in
    let t = is_in_range byte (sum + byte * place) (sum + byte * place + (place - 1)) 0 most (are 0) (omega (arith, wide, low, pos, a.0, a.1.0)) (omega arith) in
    cond_true (fits place (next ∷ places) 0 most sum byte) (number_from (next ∷ places) 0 most (sum + byte * place) bytes) (Err (Broken tt)) t
    ∙ number_waits (next ∷ places) most (sum + byte * place) a.1 (omega (arith, wide, low, a.0)) bytes (λ i. are (suc i)) (omega (arith, h))

-- Where no number of so many bytes is too high, and the least of them is no less than `least` by so many zeros, those bytes are only short.
pub number_waits_above : (places : List ℕ) (least most sum : ℕ) → ArePlaces places → sum + span places ≤ most + 1 → (bytes : List ℕ) → IsBytes bytes → length bytes < length places → least * 256 ^ length bytes < span places → number_from places least most sum bytes ≡ Err Short
number_waits_above [] least most sum a wide bytes are h low = absurd (omega (arith, h))
number_waits_above (place ∷ places) least most sum a wide [] are h low = refl
number_waits_above (place ∷ places) least most sum a wide (byte ∷ bytes) are h low =
    let high = share byte place (are 0) in
    let pos = span_pos places a.1 in
    let scaled : least * 256 ^ suc (length bytes) ≡ 256 * (least * 256 ^ length bytes) = ap (λ n. least * n) (pow-suc 256 (length bytes)) ∙ omega arith in
    let more : least * 1 ≤ least * 256 ^ length bytes = mul-le least 1 least (256 ^ length bytes) (omega arith) (one-le-pow (length bytes) 256 (omega arith)) in
    let below : least * 256 ^ length bytes < place = omega (arith, low, scaled) in
    let t = is_in_range byte (sum + byte * place) (sum + byte * place + (place - 1)) least most (are 0) (omega (arith, wide, high, pos, a.0)) (omega (arith, more, below)) in
    cond_true (fits place places least most sum byte) (number_from places least most (sum + byte * place) bytes) (Err (Broken tt)) t
    ∙ number_waits_above places least most (sum + byte * place) a.1 (omega (arith, wide, high, a.0)) bytes (λ i. are (suc i)) (omega (arith, h)) (omega (arith, below, a.0))

-- where the bound is not below any number of so many bytes, no byte breaks it
pub number_unbroken : (places : List ℕ) (most sum : ℕ) → ArePlaces places → sum + span places ≤ most + 1 → (bytes : List ℕ) → IsBytes bytes → number_from places 0 most sum bytes ≡ Err (Broken tt) → ⊥
number_unbroken [] most sum a wide bytes are e = absurd cc
number_unbroken (place ∷ places) most sum a wide [] are e = absurd cc
number_unbroken (place ∷ places) most sum a wide (byte ∷ bytes) are e =
    let low = share byte place (are 0) in
    let pos = span_pos places a.1 in
    let t = is_in_range byte (sum + byte * place) (sum + byte * place + (place - 1)) 0 most (are 0) (omega (arith, wide, low, pos, a.0)) (omega arith) in
    number_unbroken places most (sum + byte * place) a.1 (omega (arith, wide, low, a.0)) bytes (λ i. are (suc i))
    (sym (cond_true (fits place places 0 most sum byte) (number_from places 0 most (sum + byte * place) bytes) (Err (Broken tt)) t) ∙ e)

-- a number above the most
pub number_above : (places : List ℕ) (most sum n : ℕ) (text more : List ℕ) → AreDigits places n text → sum ≤ most → most < sum + n → number_from places 0 most sum (text ++ more) ≡ Err (Broken tt)
number_above [] most sum n text more d low high = absurd (omega (arith, low, high, d.0))
number_above (place ∷ places) most sum n [] more d low high = absurd d
number_above (place ∷ places) most sum n (byte ∷ text) more d low high =
    elim (true_or_false (fits place places 0 most sum byte)) [
      | inl t ↦ let u = in_range byte (sum + byte * place) (sum + byte * place + (place - 1)) 0 most t in
          cond_true (fits place places 0 most sum byte) (number_from places 0 most (sum + byte * place) (text ++ more)) (Err (Broken tt)) t
          ∙ number_above places most (sum + byte * place) d.1 text more d.3 u.1 (omega (arith, high, d.2))
      | inr f ↦ cond_false (fits place places 0 most sum byte) (number_from places 0 most (sum + byte * place) (text ++ more)) (Err (Broken tt)) f
    ]

-- a number within the bounds
pub record IsNumber (places : List ℕ) (least most n : ℕ) (text : List ℕ) : Type 0 where
  pub least_is : least ≤ n
  pub most_is : n ≤ most
  pub digits : AreDigits places n text

number_from_reads : (places : List ℕ) (least most : ℕ) → ArePlaces places → least ≤ most → least < span places → Reads (number_from places least most 0) (IsNumberFrom places least most 0)
number_from_reads places least most a some high =
    let c : CanEnd places least most 0 = record { some = some; low = omega arith; high = omega (arith, high) } in
    record {
      begins = λ e. number_begins places least most 0 e;
      again = λ n text more i. number_again places least most 0 a n text more i;
      takes = λ bytes n rest e. number_takes places least most 0 a c bytes n rest e;
      short = λ bytes e. number_short places least most 0 a c bytes e;
      stays = λ bytes more e. number_stays places least most 0 bytes more e;
    }

pub number_reads : (places : List ℕ) (least most : ℕ) → ArePlaces places → least ≤ most → least < span places → Reads (number_at places least most) (IsNumber places least most)
number_reads places least most a some high =
    Reads-as (number_at places least most) (IsNumberFrom places least most 0) (IsNumber places least most) (number_from_reads places least most a some high)
    (λ n text i. record { least_is = i.least_is; most_is = i.most_is; digits = subst (λ m. AreDigits places m text) (omega (arith, i.parts)) i.digits })
    (λ n text i. record { least_is = i.least_is; most_is = i.most_is; rest = n; parts = omega arith; digits = i.digits })

-- ---- the digits of std

bytes_0 : (i : ℕ) → get_or [] i 0 < 256
bytes_0 i = omega arith

bytes_more : (a : ℕ) (bytes : List ℕ) → a < 256 → ((i : ℕ) → get_or bytes i 0 < 256) → (i : ℕ) → get_or (a ∷ bytes) i 0 < 256
bytes_more a bytes h more zero = h
bytes_more a bytes h more (suc i) = more i

-- the bytes of digits are bytes
are_bytes : (places : List ℕ) (n : ℕ) (text : List ℕ) → AreDigits places n text → (i : ℕ) → get_or text i 0 < 256
are_bytes [] n text d i = rw d.1 (bytes_0 i)
are_bytes (place ∷ places) n [] d i = absurd d
are_bytes (place ∷ places) n (byte ∷ text) d i = bytes_more byte text d.0 (are_bytes places d.1 text d.3) i

pub digits_two : (n : ℕ) (text : List ℕ) → AreDigits two_places n text → text ≡ to_be_bytes w16 n
digits_two n (a ∷ b ∷ text) d =
    let whole = rw d.3.3.1 at (are_bytes two_places n (a ∷ b ∷ text) d) in
    ap (λ t. a ∷ b ∷ t) d.3.3.1 ∙ sym (be_bytes_2 (a ∷ b ∷ []) n refl whole (omega (arith, d.2, d.3.2, d.3.3.0)))
digits_two n text d = search d

pub digits_four : (n : ℕ) (text : List ℕ) → AreDigits four_places n text → text ≡ to_be_bytes w32 n
digits_four n (a ∷ b ∷ c ∷ e ∷ text) d =
    let last = d.3.3.3 in
    let whole = rw last.3.1 at (are_bytes four_places n (a ∷ b ∷ c ∷ e ∷ text) d) in
    ap (λ t. a ∷ b ∷ c ∷ e ∷ t) last.3.1 ∙ sym (be_bytes_4 (a ∷ b ∷ c ∷ e ∷ []) n refl whole (omega (arith, d.2, d.3.2, d.3.3.2, last.2, last.3.0)))
digits_four n text d = search d

pub digits_eight : (n : ℕ) (text : List ℕ) → AreDigits eight_places n text → text ≡ to_be_bytes w64 n
digits_eight n (a0 ∷ a1 ∷ a2 ∷ a3 ∷ a4 ∷ a5 ∷ a6 ∷ a7 ∷ text) d =
    let d1 = d.3 in
    let d2 = d1.3 in
    let d3 = d2.3 in
    let d4 = d3.3 in
    let d5 = d4.3 in
    let d6 = d5.3 in
    let d7 = d6.3 in
    let whole = rw d7.3.1 at (are_bytes eight_places n (a0 ∷ a1 ∷ a2 ∷ a3 ∷ a4 ∷ a5 ∷ a6 ∷ a7 ∷ text) d) in
    ap (λ t. a0 ∷ a1 ∷ a2 ∷ a3 ∷ a4 ∷ a5 ∷ a6 ∷ a7 ∷ t) d7.3.1
    ∙ sym (be_bytes_8 (a0 ∷ a1 ∷ a2 ∷ a3 ∷ a4 ∷ a5 ∷ a6 ∷ a7 ∷ []) n refl whole (omega (arith, d.2, d1.2, d2.2, d3.2, d4.2, d5.2, d6.2, d7.2, d7.3.0)))
digits_eight n text d = search d

-- a number's bytes are its digits
pub two_digits : (n : ℕ) → n < 2 ^ 16 → AreDigits two_places n (to_be_bytes w16 n)
two_digits n h = let d = digits_of two_places n (refl, (refl, tt)) h in subst (AreDigits two_places n) (digits_two n d.0 d.1) d.1

pub four_digits : (n : ℕ) → n < 2 ^ 32 → AreDigits four_places n (to_be_bytes w32 n)
four_digits n h = let d = digits_of four_places n (refl, (refl, (refl, (refl, tt)))) h in subst (AreDigits four_places n) (digits_four n d.0 d.1) d.1

pub eight_digits : (n : ℕ) → n < 2 ^ 64 → AreDigits eight_places n (to_be_bytes w64 n)
eight_digits n h =
    let d = digits_of eight_places n (refl, (refl, (refl, (refl, (refl, (refl, (refl, (refl, tt)))))))) h in
    subst (AreDigits eight_places n) (digits_eight n d.0 d.1) d.1

-- ---- runs of bytes

-- a run of so many bytes is itself
abbrev pub IsRun : ℕ → List ℕ → List ℕ → Type 0
IsRun count run text = (length run ≡ count) × (text ≡ run)

run_again : (count : ℕ) (run text more : List ℕ) → IsRun count run text → bytes_at count (text ++ more) ≡ Ok (run, more)
run_again count run text more i =
    ap (λ t. bytes_at count (t ++ more)) i.1
    ∙ (let long : ltb (length (run ++ more)) count ≡ false = le-ltb _ _ (omega (arith, length-append run more, i.0)) in
    rw (long, take_at run more count i.0, drop_at run more count i.0) refl)

run_takes : (count : ℕ) (bytes run rest : List ℕ) → bytes_at count bytes ≡ Ok (run, rest) → (text : List ℕ) × IsRun count run text × (bytes ≡ text ++ rest)
run_takes count bytes run rest e =
    elim (true_or_false (ltb (length bytes) count)) [
      | inl t ↦ let no_run = sym (cond_true (ltb (length bytes) count) (Err Short) (Ok (take count bytes, drop count bytes)) t) ∙ e in absurd cc
      | inr f ↦ let is = sym (cond_false (ltb (length bytes) count) (Err Short) (Ok (take count bytes, drop count bytes)) f) ∙ e in
          let long : count ≤ length bytes = ltb-false _ _ f in
          let same = ok_parts (take count bytes) run (drop count bytes) rest is in
          (run, (omega (arith, ap length same.0, length-take count bytes), refl), rw (← same.0, ← same.1) (sym (take-append-drop count bytes)))
    ]

length_zeros : (count : ℕ) → length {A = ℕ} (replicate count 0) ≡ count
length_zeros zero = refl
length_zeros (suc count) = ap suc (length_zeros count)

run_short : (count : ℕ) (bytes : List ℕ) → bytes_at count bytes ≡ Err Short → (run : List ℕ) × (more : List ℕ) × IsRun count run (bytes ++ more)
run_short count bytes e =
    elim (true_or_false (ltb (length bytes) count)) [
      | inl t ↦ let less : length bytes < count = ltb-true _ _ t in
          let zeros : List ℕ = replicate (count - length bytes) 0 in
          (bytes ++ zeros, zeros, (omega (arith, length-append bytes zeros, length_zeros (count - length bytes)), refl))
      | inr f ↦ let is = sym (cond_false (ltb (length bytes) count) (Err Short) (Ok (take count bytes, drop count bytes)) f) ∙ e in absurd cc
    ]

run_unbroken : (count : ℕ) (bytes : List ℕ) → bytes_at count bytes ≡ Err (Broken tt) → ⊥
run_unbroken count bytes e =
    elim (true_or_false (ltb (length bytes) count)) [
      | inl t ↦ let is = sym (cond_true (ltb (length bytes) count) (Err Short) (Ok (take count bytes, drop count bytes)) t) ∙ e in absurd cc
      | inr f ↦ let is = sym (cond_false (ltb (length bytes) count) (Err Short) (Ok (take count bytes, drop count bytes)) f) ∙ e in absurd cc
    ]

pub run_reads : (count : ℕ) → Reads (bytes_at count) (IsRun count)
run_reads count =
    record {
      begins = λ e. run_unbroken count [] e;
      again = λ run text more i. run_again count run text more i;
      takes = λ bytes run rest e. run_takes count bytes run rest e;
      short = λ bytes e. run_short count bytes e;
      stays = λ bytes more e. absurd (run_unbroken count bytes e);
    }

-- a length within the bound, and so many bytes
pub record IsCounted (places : List ℕ) (most : ℕ) (run text : List ℕ) : Type 0 where
  pub most_is : length run ≤ most
  pub digits : List ℕ
  pub are_digits : AreDigits places (length run) digits
  pub joined : text ≡ digits ++ run

pub counted_reads : (places : List ℕ) (most : ℕ) → ArePlaces places → 0 < span places → Reads (counted_at places most) (IsCounted places most)
counted_reads places most a pos =
    Reads-as (counted_at places most) (Then (IsNumber places 0 most) (λ count. IsRun count)) (IsCounted places most)
    (Reads-then (number_at places 0 most) (λ count. bytes_at count) (IsNumber places 0 most) (λ count. IsRun count) (number_reads places 0 most a (omega arith) pos) (λ count text i. run_reads count))
    (λ run text t. record {
      most_is = omega (arith, t.before.most_is, t.after.0);
      digits = t.first;
      are_digits = subst (λ n. AreDigits places n t.first) (sym t.after.0) t.before.digits;
      joined = t.joined ∙ ap (λ s. t.first ++ s) t.after.1;
    })
    (λ run text i. record {
      x = length run;
      first = i.digits;
      second = run;
      before = record { least_is = omega arith; most_is = i.most_is; digits = i.are_digits };
      after = (refl, refl);
      joined = i.joined;
    })
