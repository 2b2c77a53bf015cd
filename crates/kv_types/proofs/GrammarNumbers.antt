-- Numbers: what is read is spelled that way, what is spelled that way is read, and where the reading breaks.
use Rattle.std.proofs.Common.{◌≡◌, ℕ, ◌+◌, ◌-◌, ◌*◌, ◌/◌, ◌%◌, ◌^◌, ◌<◌, ◌≤◌, true, false, ◌&&◌, ◌==◌, nat_lt, nat_le, ◌⊎◌, inl, inr, List, [], ◌∷◌, ◌++◌, Result, Ok, Err, refl, ap, sym, ◌∙◌, arith}
use Rattle.std.proofs.lemmas.List.{append_assoc, append-nil}
use Rattle.std.proofs.lemmas.Bool.{eqb-true, ne_eqb, cond-true, cond-false}
use Rattle.std.proofs.lemmas.Fmt.{decimal_by_steps, decimal_digit, decimal_step}
use Rattle.std.specs.Fmt.{decimal}
use Rattle.kv_types.specs.declared.item.ProtocolFault.{ProtocolFault}
use Rattle.kv_types.specs.Request.{line_end, number_line, IsProperPrefix}
use Rattle.kv_types.specs.declared.stop.Stop.{Stop}
use Rattle.kv_types.specs.declared.stop.Stop.TheVariants.{Short, Broken}
use Rattle.kv_types.specs.Reader.{Read}
use Rattle.kv_types.specs.Reading.{is_digit, after_byte, with_line_feed, number_from, number_at}
use Rattle.kv_types.proofs.GrammarSteps.{chosen, cond_cases, after_byte-breaks, BreaksAt, BreaksAt-first, BreaksAt-behind, BreaksAt-here, Anywhere}

pub number_line-append : (n : ℕ) (rest : List ℕ) → number_line n ++ rest ≡ decimal n ++ (13 ∷ 10 ∷ rest)
number_line-append n rest = append_assoc (decimal n) line_end rest

-- one more digit
number_from-cons : (most : ℕ) (fault : ProtocolFault) (n byte : ℕ) → (byte == 13) ≡ false → (is_digit byte && nat_lt 0 n && nat_le (10 * n + (byte - 48)) most) ≡ true → (bytes : List ℕ) → number_from most fault n (byte ∷ bytes) ≡ number_from most fault (10 * n + (byte - 48)) bytes
number_from-cons most fault n byte other digit bytes = cond-false (byte == 13) _ _ other ∙ cond-true _ _ _ digit

number_from-digit : (most : ℕ) (fault : ProtocolFault) (n d : ℕ) (bytes : List ℕ) → d < 10 → 0 < n → 10 * n + d ≤ most → number_from most fault n ((48 + d) ∷ bytes) ≡ number_from most fault (10 * n + d) bytes
number_from-digit most fault n d bytes small positive fits =
    number_from-cons most fault n (48 + d) (ne_eqb (48 + d) 13 (λ e. omega arith)) (grind arith) bytes ∙ ap (λ k. number_from most fault (10 * n + k) bytes) (omega arith)

number_at-digit : (most : ℕ) (fault : ProtocolFault) (d : ℕ) (bytes : List ℕ) → d < 10 → d ≤ most → number_at most fault ((48 + d) ∷ bytes) ≡ number_from most fault d bytes
number_at-digit most fault d bytes small fits = grind arith

-- after the digits of a number, its value is what was read so far
pub number_at-decimal : (most : ℕ) (fault : ProtocolFault) (n : ℕ) → n < 2 ^ 64 → n ≤ most → (bytes : List ℕ) → number_at most fault (decimal n ++ bytes) ≡ number_from most fault n bytes
number_at-decimal most fault =
    decimal_by_steps (λ n ds. n ≤ most → (bytes : List ℕ) → number_at most fault (ds ++ bytes) ≡ number_from most fault n bytes)
    (λ n small fits bytes. number_at-digit most fault n bytes small fits)
    (λ n ds large each fits bytes.
    ap (number_at most fault) (append_assoc ds ((48 + n % 10) ∷ []) bytes) ∙ each (omega arith) ((48 + n % 10) ∷ bytes)
    ∙ number_from-digit most fault (n / 10) (n % 10) bytes (omega arith) (omega arith) (omega arith)
    ∙ ap (λ k. number_from most fault k bytes) (omega arith))

-- what is spelled that way is read
pub number_at-number_line : (most : ℕ) (fault : ProtocolFault) (n : ℕ) (rest : List ℕ) → most < 2 ^ 64 → n ≤ most → number_at most fault (number_line n ++ rest) ≡ Ok (n, rest)
number_at-number_line most fault n rest small fits = ap (number_at most fault) (number_line-append n rest) ∙ number_at-decimal most fault n (omega arith) fits (13 ∷ 10 ∷ rest)

decimal-push : (n d : ℕ) → d < 10 → 0 < n → 10 * n + d < 2 ^ 64 → decimal (10 * n + d) ≡ decimal n ++ ((48 + d) ∷ [])
decimal-push n d small positive fits = grind (arith, decimal_step (10 * n + d))

-- one more digit, as a byte that was tested
decimal-byte : (n byte : ℕ) (bytes : List ℕ) → is_digit byte ≡ true → 0 < n → 10 * n + (byte - 48) < 2 ^ 64 → decimal n ++ (byte ∷ bytes) ≡ decimal (10 * n + (byte - 48)) ++ bytes
decimal-byte n byte bytes digit positive fits = grind (arith, decimal-push n (byte - 48), append_assoc (decimal n) (byte ∷ []) bytes)

-- what the tests of a further digit say, and of the first
further_digit : (most n byte : ℕ) → (is_digit byte && nat_lt 0 n && nat_le (10 * n + (byte - 48)) most) ≡ true → (is_digit byte ≡ true) × (0 < n) × (10 * n + (byte - 48) ≤ most)
further_digit most n byte e = (grind arith, grind arith, grind arith)

first_digit : (most byte : ℕ) → (is_digit byte && nat_le (byte - 48) most) ≡ true → (byte - 48 ≤ most) × (decimal (byte - 48) ≡ byte ∷ [])
first_digit most byte e = (grind arith, grind (arith, decimal_digit (byte - 48)))

-- ---- what is read is spelled that way

with_line_feed-takes : (fault : ProtocolFault) (n : ℕ) (bytes : List ℕ) (m : ℕ) (rest : List ℕ) → with_line_feed fault n bytes ≡ Ok (m, rest) → (bytes ≡ 10 ∷ rest) × (n ≡ m)
with_line_feed-takes fault n bytes m rest e = grind arith

-- a number goes on with its line end or with a digit, or it breaks
number_from-cases : (most : ℕ) (fault : ProtocolFault) (n byte : ℕ) (bytes : List ℕ) (z : Result (Read ℕ) (Stop ProtocolFault)) → number_from most fault n (byte ∷ bytes) ≡ z
    → (((byte == 13) ≡ true) × (with_line_feed fault n bytes ≡ z))
    ⊎ (((byte == 13) ≡ false) × ((is_digit byte && nat_lt 0 n && nat_le (10 * n + (byte - 48)) most) ≡ true) × (number_from most fault (10 * n + (byte - 48)) bytes ≡ z))
    ⊎ (((byte == 13) ≡ false) × ((is_digit byte && nat_lt 0 n && nat_le (10 * n + (byte - 48)) most) ≡ false) × (Err (Broken fault) ≡ z))
number_from-cases most fault n byte bytes z e = cond_cases (byte == 13) (is_digit byte && nat_lt 0 n && nat_le (10 * n + (byte - 48)) most) _ _ _ z e

number_from-takes : (most : ℕ) (fault : ProtocolFault) (n : ℕ) (bytes : List ℕ) (m : ℕ) (rest : List ℕ) → most < 2 ^ 64 → n ≤ most → number_from most fault n bytes ≡ Ok (m, rest) → (m ≤ most) × (decimal n ++ bytes ≡ number_line m ++ rest)
number_from-takes most fault n [] m rest small fits e = absurd (cc)
number_from-takes most fault n (byte ∷ bytes) m rest small fits e =
    elim (number_from-cases most fault n byte bytes (Ok (m, rest)) e) [
      | inl h ↦
          let line = with_line_feed-takes fault n bytes m rest h.1 in
          rw (eqb-true byte 13 h.0, line.0, line.1) (omega (arith, line.1), sym (number_line-append m rest))
      | inr g ↦ elim g [
        | inl h ↦
            let d = further_digit most n byte h.1 in
            let found = number_from-takes most fault (10 * n + (byte - 48)) bytes m rest small d.2 h.2 in
            (found.0, decimal-byte n byte bytes d.0 d.1 (omega (arith, d.2)) ∙ found.1)
        | inr h ↦ absurd (cc)
      ]
    ]

pub number_at-takes : (most : ℕ) (fault : ProtocolFault) (bytes : List ℕ) (n : ℕ) (rest : List ℕ) → most < 2 ^ 64 → number_at most fault bytes ≡ Ok (n, rest) → (n ≤ most) × (bytes ≡ number_line n ++ rest)
number_at-takes most fault [] n rest small e = absurd (cc)
number_at-takes most fault (byte ∷ bytes) n rest small e = grind (arith, first_digit most byte, number_from-takes most fault (byte - 48) bytes n rest small)

-- ---- what is too short begins a spelling

with_line_feed-short : (fault : ProtocolFault) (n : ℕ) (bytes : List ℕ) → with_line_feed fault n bytes ≡ Err Short → bytes ≡ []
with_line_feed-short fault n bytes e = grind arith

number_from-short : (most : ℕ) (fault : ProtocolFault) (n : ℕ) (bytes : List ℕ) → most < 2 ^ 64 → n ≤ most → number_from most fault n bytes ≡ Err Short → (m : ℕ) × (m ≤ most) × IsProperPrefix (decimal n ++ bytes) (number_line m)
number_from-short most fault n [] small fits e = (n, fits, record { byte = 13; rest = 10 ∷ []; joined = ap (λ x. x ++ (13 ∷ 10 ∷ [])) (append-nil (decimal n)) })
number_from-short most fault n (byte ∷ bytes) small fits e =
    elim (number_from-cases most fault n byte bytes (Err Short) e) [
      | inl h ↦ rw (eqb-true byte 13 h.0, with_line_feed-short fault n bytes h.1) (n, fits, record { byte = 10; rest = []; joined = append_assoc (decimal n) (13 ∷ []) (10 ∷ []) })
      | inr g ↦ elim g [
        | inl h ↦
            let d = further_digit most n byte h.1 in
            let found = number_from-short most fault (10 * n + (byte - 48)) bytes small d.2 h.2 in
            rw (decimal-byte n byte bytes d.0 d.1 (omega (arith, d.2))) found
        | inr h ↦ absurd (cc)
      ]
    ]

-- the bytes before the one at which a number breaks
abbrev pub InNumber : ℕ → List ℕ → ℕ → ProtocolFault → Type 0
InNumber most prefix byte fault = (n : ℕ) × (n ≤ most) × IsProperPrefix prefix (number_line n)

pub number_at-short : (most : ℕ) (fault : ProtocolFault) (bytes : List ℕ) → most < 2 ^ 64 → number_at most fault bytes ≡ Err Short → (n : ℕ) × (n ≤ most) × IsProperPrefix bytes (number_line n)
number_at-short most fault [] small e = (0, omega arith, record { byte = 48; rest = 13 ∷ 10 ∷ []; joined = sym (ap (λ x. x ++ (13 ∷ 10 ∷ [])) (decimal_digit 0 (omega arith))) })
number_at-short most fault (byte ∷ bytes) small e =
    elim (chosen (is_digit byte && nat_le (byte - 48) most) (number_from most fault (byte - 48) bytes) (Err (Broken fault)) (Err Short) e) [
      | inl h ↦
          let d = first_digit most byte h.0 in
          let found = number_from-short most fault (byte - 48) bytes small d.0 h.1 in
          rw d.1 at found
      | inr h ↦ absurd (cc)
    ]

-- ---- where it breaks

with_line_feed-breaks : (fault : ProtocolFault) (n : ℕ) (bytes : List ℕ) (said : ProtocolFault) → with_line_feed fault n bytes ≡ Err (Broken said) → after_byte 10 fault bytes ≡ Err (Broken said)
with_line_feed-breaks fault n bytes said e = grind arith

number_from-breaks : (most : ℕ) (fault : ProtocolFault) (n : ℕ) (bytes : List ℕ) (said : ProtocolFault) → number_from most fault n bytes ≡ Err (Broken said) → (said ≡ fault) × BreaksAt (number_from most fault n) Anywhere bytes said
number_from-breaks most fault n [] said e = absurd (cc)
number_from-breaks most fault n (byte ∷ bytes) said e =
    elim (number_from-cases most fault n byte bytes (Err (Broken said)) e) [
      | inl h ↦
          let feed = after_byte-breaks 10 fault said bytes (with_line_feed-breaks fault n bytes said h.1) in
          let first = BreaksAt-first (after_byte 10 fault) (λ rest. Ok (n, rest)) (λ prefix b f. (prefix ≡ []) × (f ≡ fault)) Anywhere bytes said (λ prefix b p. tt) feed.1 in
          (feed.0, rw (eqb-true byte 13 h.0) (BreaksAt-behind (with_line_feed fault n) (number_from most fault n) Anywhere Anywhere (13 ∷ []) bytes said (λ after. refl) (λ prefix b p. tt) first))
      | inr g ↦ elim g [
        | inl h ↦
            let found = number_from-breaks most fault (10 * n + (byte - 48)) bytes said h.2 in (
              found.0,
              BreaksAt-behind (number_from most fault (10 * n + (byte - 48))) (number_from most fault n) Anywhere Anywhere (byte ∷ []) bytes said
                  (number_from-cons most fault n byte h.0 h.1) (λ prefix b p. tt) found.1,
            )
        | inr h ↦ let same : said ≡ fault = cc in (same, BreaksAt-here (number_from most fault n) Anywhere byte bytes said refl (cond-false (byte == 13) _ _ h.0 ∙ cond-false _ _ _ h.1 ∙ h.2) tt)
      ]
    ]

-- `BreaksAt`, with the position that follows from the bytes before being too short
placed : (most : ℕ) (fault said : ProtocolFault) (bytes : List ℕ) → most < 2 ^ 64 → BreaksAt (number_at most fault) Anywhere bytes said → BreaksAt (number_at most fault) (InNumber most) bytes said
placed most fault said bytes small b = (b.0, b.1, b.2, number_at-short most fault b.0 small b.5, b.4, b.5, b.6)

pub number_at-breaks : (most : ℕ) (fault : ProtocolFault) (bytes : List ℕ) (said : ProtocolFault) → most < 2 ^ 64 → number_at most fault bytes ≡ Err (Broken said) → (said ≡ fault) × BreaksAt (number_at most fault) (InNumber most) bytes said
number_at-breaks most fault [] said small e = absurd (cc)
number_at-breaks most fault (byte ∷ bytes) said small e =
    elim (chosen (is_digit byte && nat_le (byte - 48) most) (number_from most fault (byte - 48) bytes) (Err (Broken fault)) (Err (Broken said)) e) [
      | inl h ↦
          let found = number_from-breaks most fault (byte - 48) bytes said h.1 in (
            found.0,
            placed most fault said (byte ∷ bytes) small (BreaksAt-behind (number_from most fault (byte - 48)) (number_at most fault) Anywhere Anywhere (byte ∷ []) bytes said
                (λ after. cond-true _ _ _ h.0) (λ prefix b p. tt) found.1),
          )
      | inr h ↦
          let same : said ≡ fault = cc in
          (same, placed most fault said (byte ∷ bytes) small (BreaksAt-here (number_at most fault) Anywhere byte bytes said refl (cond-false _ _ _ h.0 ∙ h.1) tt))
    ]
