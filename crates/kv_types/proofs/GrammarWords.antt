-- Words: what is read is spelled that way, what is spelled that way is read, and where the reading breaks.
use Rattle.std.proofs.Common.{◌≡◌, ℕ, ◌-◌, ◌^◌, ◌<◌, ◌≤◌, nat_lt, ◌⊎◌, inl, inr, List, [], ◌∷◌, ◌++◌, length, take, drop, replicate, Result, Ok, Err, refl, ap, sym, ◌∙◌, arith}
use Rattle.std.proofs.lemmas.List.{append_assoc, length-append, length-replicate, length-take-le, take-append-drop, take_at, drop_at}
use Rattle.std.proofs.lemmas.Bool.{ltb-true, ltb-false, le-ltb, cond-false}
use Rattle.kv_types.specs.declared.limits.Limits.{Limits}
use Rattle.kv_types.specs.declared.item.ProtocolFault.{ProtocolFault}
use Rattle.kv_types.specs.declared.item.ProtocolFault.TheVariants.{ExpectedArray, InvalidMultibulkLength, ExpectedBulk, InvalidBulkLength, ExpectedLineEnd}
use Rattle.kv_types.specs.Request.{line_end, number_line, bulk, IsProperPrefix}
use Rattle.kv_types.specs.declared.stop.Stop.{Stop}
use Rattle.kv_types.specs.declared.stop.Stop.TheVariants.{Short, Broken}
use Rattle.kv_types.specs.Reader.{Read, ◌>>=◌}
use Rattle.kv_types.specs.Reading.{after_byte, number_at, after_dollar, payload_at, word_at}
use Rattle.kv_types.proofs.ReaderLemmas.{bind_ok, bind_err}
use Rattle.kv_types.proofs.GrammarSteps.{chosen, BreaksAt, BreaksAt-first, BreaksAt-behind, BreaksAt-here}
use Rattle.kv_types.proofs.GrammarNumbers.{number_at-number_line, number_at-takes, number_at-short, number_at-breaks, InNumber}

-- ---- proper prefixes

pub IsProperPrefix-append : (prefix whole more : List ℕ) → IsProperPrefix prefix whole → IsProperPrefix prefix (whole ++ more)
IsProperPrefix-append prefix whole more p =
    record { byte = p.byte; rest = p.rest ++ more; joined = sym (append_assoc prefix (p.byte ∷ p.rest) more) ∙ ap (λ x. x ++ more) p.joined }

pub IsProperPrefix-behind : (before prefix whole : List ℕ) → IsProperPrefix prefix whole → IsProperPrefix (before ++ prefix) (before ++ whole)
IsProperPrefix-behind before prefix whole p =
    record { byte = p.byte; rest = p.rest; joined = append_assoc before prefix (p.byte ∷ p.rest) ∙ ap (λ x. before ++ x) p.joined }

pub IsProperPrefix-same : {prefix prefix' whole whole' : List ℕ} → prefix' ≡ prefix → whole ≡ whole' → IsProperPrefix prefix whole → IsProperPrefix prefix' whole'
IsProperPrefix-same same_prefix same_whole p =
    record { byte = p.byte; rest = p.rest; joined = ap (λ x. x ++ p.byte ∷ p.rest) same_prefix ∙ p.joined ∙ same_whole }

-- ---- the line end after a word

abbrev pub line_end_after : List ℕ → List ℕ → Result (Read (List ℕ)) (Stop ProtocolFault)
line_end_after word bytes = after_byte 13 ExpectedLineEnd bytes >>= λ rest. after_byte 10 ExpectedLineEnd rest >>= λ after. Ok (word, after)

pub line_end_after-takes : (word bytes w rest : List ℕ) → line_end_after word bytes ≡ Ok (w, rest) → (word ≡ w) × (bytes ≡ 13 ∷ 10 ∷ rest)
line_end_after-takes word bytes w rest e = grind arith

pub line_end_after-short : (word bytes : List ℕ) → line_end_after word bytes ≡ Err Short → IsProperPrefix bytes line_end
line_end_after-short word [] e = record { byte = 13; rest = 10 ∷ []; joined = refl }
line_end_after-short word (a ∷ []) e = record { byte = 10; rest = []; joined = grind arith }
line_end_after-short word (a ∷ b ∷ more) e = absurd (grind arith)

-- the bytes before the one at which the line end breaks
abbrev pub InLineEnd : List ℕ → ℕ → ProtocolFault → Type 0
InLineEnd prefix byte fault = (fault ≡ ExpectedLineEnd) × IsProperPrefix prefix line_end

breaks_first : (word : List ℕ) (a : ℕ) (bytes : List ℕ) (said : ProtocolFault) → line_end_after word (a ∷ bytes) ≡ Err (Broken said) → (a ≡ 13)
    ⊎ ((said ≡ ExpectedLineEnd) × (line_end_after word (a ∷ []) ≡ Err (Broken said)))
breaks_first word a bytes said e = grind arith

breaks_second : (word : List ℕ) (b : ℕ) (bytes : List ℕ) (said : ProtocolFault) → line_end_after word (13 ∷ b ∷ bytes) ≡ Err (Broken said)
    → (said ≡ ExpectedLineEnd) × (line_end_after word (13 ∷ b ∷ []) ≡ Err (Broken said))
breaks_second word b bytes said e = grind arith

breaks_behind : (word bytes : List ℕ) (said : ProtocolFault) → line_end_after word (13 ∷ bytes) ≡ Err (Broken said) → BreaksAt (line_end_after word) InLineEnd (13 ∷ bytes) said
breaks_behind word [] said e = absurd (cc)
breaks_behind word (b ∷ bytes) said e =
    let h = breaks_second word b bytes said e in
    (13 ∷ [], b, bytes, (h.0, record { byte = 10; rest = []; joined = refl }), refl, refl, h.1)

line_end_after-breaks : (word bytes : List ℕ) (said : ProtocolFault) → line_end_after word bytes ≡ Err (Broken said) → BreaksAt (line_end_after word) InLineEnd bytes said
line_end_after-breaks word [] said e = absurd (cc)
line_end_after-breaks word (a ∷ bytes) said e =
    elim (breaks_first word a bytes said e) [
      | inl h ↦ rw h (breaks_behind word bytes said (rw h at e))
      | inr h ↦ BreaksAt-here (line_end_after word) InLineEnd a bytes said refl h.1 (h.0, record { byte = 13; rest = 10 ∷ []; joined = refl })
    ]

-- ---- the bytes of a word

pub payload_at-takes : (len : ℕ) (bytes word rest : List ℕ) → payload_at len bytes ≡ Ok (word, rest) → (length word ≡ len) × (bytes ≡ word ++ (13 ∷ 10 ∷ rest))
payload_at-takes len bytes word rest e = grind (arith, line_end_after-takes (take len bytes) (drop len bytes) word rest, take-append-drop len bytes, length-take-le len bytes)

-- the bytes begin some word of this length and its line end
filled : (bytes : List ℕ) (len : ℕ) → length bytes < len → (word : List ℕ) × (length word ≡ len) × IsProperPrefix bytes (word ++ line_end)
filled bytes len h =
    let missing = len - length bytes - 1 in
    (bytes ++ (0 ∷ replicate missing 0), omega (arith, length-append bytes (0 ∷ replicate missing 0), length-replicate {A = ℕ} missing 0), record { byte = 0; rest = replicate missing 0 ++ line_end; joined = sym (append_assoc bytes (0 ∷ replicate missing 0) line_end) })

payload_at-short : (len : ℕ) (bytes : List ℕ) → payload_at len bytes ≡ Err Short → (word : List ℕ) × (length word ≡ len) × IsProperPrefix bytes (word ++ line_end)
payload_at-short len bytes e =
    elim (chosen (nat_lt (length bytes) len) (Err Short) (line_end_after (take len bytes) (drop len bytes)) (Err Short) e) [
      | inl h ↦ filled bytes len (ltb-true (length bytes) len h.0)
      | inr h ↦
          let fits : len ≤ length bytes = ltb-false (length bytes) len h.0 in
          let found = IsProperPrefix-behind (take len bytes) (drop len bytes) line_end (line_end_after-short (take len bytes) (drop len bytes) h.1) in
          (take len bytes, length-take-le len bytes fits, rw (take-append-drop len bytes) at found)
    ]

-- the bytes before the one at which a word of this length is not ended
abbrev pub AfterWord : ℕ → List ℕ → ℕ → ProtocolFault → Type 0
AfterWord len prefix byte fault = (fault ≡ ExpectedLineEnd) × ((word end : List ℕ) × (length word ≡ len) × IsProperPrefix end line_end × (prefix ≡ word ++ end))

pub payload_at-behind : (len : ℕ) (word after : List ℕ) → length word ≡ len → payload_at len (word ++ after) ≡ line_end_after word after
payload_at-behind len word after same =
    cond-false (nat_lt (length (word ++ after)) len) (Err Short) _ (le-ltb _ _ (omega (arith, length-append word after)))
    ∙ ap (λ w. line_end_after w (drop len (word ++ after))) (take_at word after len same)
    ∙ ap (line_end_after word) (drop_at word after len same)

payload_at-again : (word rest : List ℕ) → payload_at (length word) (word ++ (13 ∷ 10 ∷ rest)) ≡ Ok (word, rest)
payload_at-again word rest = payload_at-behind (length word) word (13 ∷ 10 ∷ rest) refl

payload_at-breaks : (len : ℕ) (bytes : List ℕ) (said : ProtocolFault) → payload_at len bytes ≡ Err (Broken said) → BreaksAt (payload_at len) (AfterWord len) bytes said
payload_at-breaks len bytes said e =
    elim (chosen (nat_lt (length bytes) len) (Err Short) (line_end_after (take len bytes) (drop len bytes)) (Err (Broken said)) e) [
      | inl h ↦ absurd (cc)
      | inr h ↦
          let fits : len ≤ length bytes = ltb-false (length bytes) len h.0 in
          let same : length (take len bytes) ≡ len = length-take-le len bytes fits in
          let found = BreaksAt-behind (line_end_after (take len bytes)) (payload_at len) InLineEnd (AfterWord len) (take len bytes) (drop len bytes) said (λ after. payload_at-behind len (take len bytes) after same)
          (λ prefix byte p. (p.0, (take len bytes, prefix, same, p.1, refl)))
          (line_end_after-breaks (take len bytes) (drop len bytes) said h.1) in
          rw (take-append-drop len bytes) at found
    ]

-- ---- a word

after_dollar-takes : (bytes rest : List ℕ) → after_dollar bytes ≡ Ok rest → bytes ≡ 36 ∷ rest
after_dollar-takes bytes rest e = grind arith

after_dollar-short : (bytes : List ℕ) → after_dollar bytes ≡ Err Short → bytes ≡ []
after_dollar-short bytes e = grind arith

-- the bytes before the one at which a word breaks
abbrev pub InWord : Limits → List ℕ → ℕ → ProtocolFault → Type 0
InWord limits prefix byte ExpectedArray = ⊥
InWord limits prefix byte InvalidMultibulkLength = ⊥
InWord limits prefix byte (ExpectedBulk got) = (prefix ≡ []) × (got ≡ byte)
InWord limits prefix byte InvalidBulkLength = (line : List ℕ) × (len : ℕ) × (len ≤ limits.word_bytes) × IsProperPrefix line (number_line len) × (prefix ≡ 36 ∷ line)
InWord limits prefix byte ExpectedLineEnd =
    (word : List ℕ) × (end : List ℕ) × (length word ≤ limits.word_bytes) × IsProperPrefix end line_end × (prefix ≡ 36 ∷ number_line (length word) ++ word ++ end)

after_dollar-breaks : (limits : Limits) (bytes : List ℕ) (said : ProtocolFault) → after_dollar bytes ≡ Err (Broken said) → BreaksAt after_dollar (InWord limits) bytes said
after_dollar-breaks limits [] said e = absurd (cc)
after_dollar-breaks limits (byte ∷ bytes) said e =
    let same : ExpectedBulk byte ≡ said = grind arith in
    rw (← same) (BreaksAt-here after_dollar (InWord limits) byte bytes (ExpectedBulk byte) refl (grind arith) (refl, refl))

pub bulk-append : (word rest : List ℕ) → bulk word ++ rest ≡ 36 ∷ (number_line (length word) ++ (word ++ (13 ∷ 10 ∷ rest)))
bulk-append word rest = ap (λ x. 36 ∷ x) (simp append_assoc)

-- the length of a word and the word
abbrev pub rest_of_word : Limits → List ℕ → Result (Read (List ℕ)) (Stop ProtocolFault)
rest_of_word limits bytes = number_at limits.word_bytes InvalidBulkLength bytes >>= λ len. payload_at len.0 len.1

pub rest_of_word-again : (limits : Limits) (len : ℕ) (after : List ℕ) → limits.word_bytes < 2 ^ 64 → len ≤ limits.word_bytes → rest_of_word limits (number_line len ++ after) ≡ payload_at len after
rest_of_word-again limits len after small fits = ap (λ r. r >>= λ len. payload_at len.0 len.1) (number_at-number_line limits.word_bytes InvalidBulkLength len after small fits)

pub word_at-again : (limits : Limits) (word rest : List ℕ) → limits.word_bytes < 2 ^ 64 → length word ≤ limits.word_bytes → word_at limits (bulk word ++ rest) ≡ Ok (word, rest)
word_at-again limits word rest small fits =
    ap (word_at limits) (bulk-append word rest) ∙ rest_of_word-again limits (length word) (word ++ (13 ∷ 10 ∷ rest)) small fits ∙ payload_at-again word rest

pub word_at-takes : (limits : Limits) (bytes word rest : List ℕ) → limits.word_bytes < 2 ^ 64 → word_at limits bytes ≡ Ok (word, rest) → (length word ≤ limits.word_bytes) × (bytes ≡ bulk word ++ rest)
word_at-takes limits bytes word rest small e =
    let first = bind_ok (rest_of_word limits) (after_dollar bytes) (word, rest) e in
    let second = bind_ok (λ len. payload_at len.0 len.1) (number_at limits.word_bytes InvalidBulkLength first.0) (word, rest) first.2 in
    let number = number_at-takes limits.word_bytes InvalidBulkLength first.0 second.0.0 second.0.1 small second.1 in
    let payload = payload_at-takes second.0.0 second.0.1 word rest second.2 in (
      omega (arith, number.0, payload.0),
      after_dollar-takes bytes first.0 first.1 ∙ ap (λ x. 36 ∷ x) (number.1 ∙ ap (λ x. number_line second.0.0 ++ x) payload.1 ∙ ap (λ n. number_line n ++ (word ++ (13 ∷ 10 ∷ rest))) (sym payload.0)) ∙ sym (bulk-append word rest),
    )

-- a bulk string, split after its number
bulk-parts : (word : List ℕ) → (36 ∷ number_line (length word)) ++ (word ++ line_end) ≡ bulk word
bulk-parts word = sym (append_assoc (36 ∷ number_line (length word)) word line_end)

pub word_at-short : (limits : Limits) (bytes : List ℕ) → limits.word_bytes < 2 ^ 64 → word_at limits bytes ≡ Err Short → (word : List ℕ) × (length word ≤ limits.word_bytes) × IsProperPrefix bytes (bulk word)
word_at-short limits bytes small e =
    elim (bind_err (rest_of_word limits) (after_dollar bytes) Short e) [
      | inl h ↦ ([], omega arith, record { byte = 36; rest = number_line 0 ++ [] ++ line_end; joined = ap (λ x. x ++ (36 ∷ (number_line 0 ++ [] ++ line_end))) (after_dollar-short bytes h) })
      | inr h ↦ elim (bind_err (λ len. payload_at len.0 len.1) (number_at limits.word_bytes InvalidBulkLength h.0) Short h.2) [
        | inl k ↦
            let number = number_at-short limits.word_bytes InvalidBulkLength h.0 small k in
            let len = length-replicate {A = ℕ} number.0 0 in
            let inside = IsProperPrefix-behind (36 ∷ []) h.0 _ (IsProperPrefix-append h.0 (number_line number.0) (replicate number.0 0 ++ line_end) number.2) in
            let whole = ap (λ k. 36 ∷ (number_line k ++ (replicate number.0 0 ++ line_end))) (sym len) ∙ bulk-parts (replicate number.0 0) in
            (replicate number.0 0, omega (arith, len, number.1), IsProperPrefix-same (after_dollar-takes bytes h.0 h.1) whole inside)
        | inr k ↦
            let number = number_at-takes limits.word_bytes InvalidBulkLength h.0 k.0.0 k.0.1 small k.1 in
            let word = payload_at-short k.0.0 k.0.1 k.2 in
            let whole = ap (λ k. 36 ∷ (number_line k ++ (word.0 ++ line_end))) (sym word.1) ∙ bulk-parts word.0 in
            let start = after_dollar-takes bytes h.0 h.1 ∙ ap (λ x. 36 ∷ x) number.1 in
            (word.0, omega (arith, word.1, number.0), IsProperPrefix-same start whole (IsProperPrefix-behind (36 ∷ number_line k.0.0) k.0.1 (word.0 ++ line_end) word.2))
      ]
    ]

-- where a word breaks: in its length, or after it
placed_behind_length : (limits : Limits) (len : ℕ) (said : ProtocolFault) (prefix : List ℕ) (byte : ℕ) → len ≤ limits.word_bytes → AfterWord len prefix byte said → InWord limits ((36 ∷ number_line len) ++ prefix) byte said
placed_behind_length limits len said prefix byte fits p =
    rw p.0 (p.1.0, p.1.1, omega (arith, p.1.2), p.1.3, ap (λ x. (36 ∷ number_line len) ++ x) p.1.4 ∙ ap (λ k. (36 ∷ number_line k) ++ (p.1.0 ++ p.1.1)) (sym p.1.2) ∙ sym (append_assoc (36 ∷ number_line (length p.1.0)) p.1.0 p.1.1))

pub word_at-breaks : (limits : Limits) (bytes : List ℕ) (said : ProtocolFault) → limits.word_bytes < 2 ^ 64 → word_at limits bytes ≡ Err (Broken said) → BreaksAt (word_at limits) (InWord limits) bytes said
word_at-breaks limits bytes said small e =
    elim (bind_err (rest_of_word limits) (after_dollar bytes) (Broken said) e) [
      | inl h ↦ BreaksAt-first after_dollar (rest_of_word limits) (InWord limits) (InWord limits) bytes said (λ prefix byte p. p) (after_dollar-breaks limits bytes said h)
      | inr h ↦
          let dollar = after_dollar-takes bytes h.0 h.1 in
          elim (bind_err (λ len. payload_at len.0 len.1) (number_at limits.word_bytes InvalidBulkLength h.0) (Broken said) h.2) [
            | inl k ↦
                let number = number_at-breaks limits.word_bytes InvalidBulkLength h.0 said small k in
                rw dollar (BreaksAt-behind (rest_of_word limits) (word_at limits) (InNumber limits.word_bytes) (InWord limits) (36 ∷ []) h.0 said (λ after. refl)
                (λ prefix byte p. rw number.0 (prefix, p.0, p.1, p.2, refl))
                (BreaksAt-first (number_at limits.word_bytes InvalidBulkLength) (λ len. payload_at len.0 len.1) (InNumber limits.word_bytes) (InNumber limits.word_bytes) h.0 said (λ prefix byte p. p) number.1))
            | inr k ↦
                let number = number_at-takes limits.word_bytes InvalidBulkLength h.0 k.0.0 k.0.1 small k.1 in
                rw (dollar, number.1) (BreaksAt-behind (payload_at k.0.0) (word_at limits) (AfterWord k.0.0) (InWord limits) (36 ∷ number_line k.0.0) k.0.1 said (λ after. rest_of_word-again limits k.0.0 after small number.0) (λ prefix byte p. placed_behind_length limits k.0.0 said prefix byte number.0 p)
                (payload_at-breaks k.0.0 k.0.1 said k.2))
          ]
    ]
