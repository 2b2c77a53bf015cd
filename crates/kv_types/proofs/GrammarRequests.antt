-- Requests: what is read is spelled that way, what is spelled that way is read, and where the reading breaks.
use Rattle.std.proofs.Common.{◌≡◌, ℕ, zero, suc, ◌^◌, ◌<◌, ◌≤◌, inl, inr, List, [], ◌∷◌, ◌++◌, length, replicate, Result, Ok, Err, refl, ap, sym, ◌∙◌, arith}
use Rattle.std.proofs.lemmas.List.{append_assoc, append-nil, length-replicate}
use Rattle.std.specs.List.{AllByRecursion, flat_map}
use Rattle.kv_types.specs.declared.limits.Limits.{Limits}
use Rattle.kv_types.specs.declared.item.ProtocolFault.{ProtocolFault}
use Rattle.kv_types.specs.declared.item.ProtocolFault.TheVariants.{ExpectedArray, InvalidMultibulkLength, ExpectedBulk, InvalidBulkLength, ExpectedLineEnd}
use Rattle.kv_types.specs.Word.{IsWithin}
use Rattle.kv_types.specs.Request.{number_line, bulk, spelling, IsProperPrefix, Says}
use Rattle.kv_types.specs.declared.stop.Stop.{Stop}
use Rattle.kv_types.specs.declared.stop.Stop.TheVariants.{Short, Broken}
use Rattle.kv_types.specs.Reader.{Read, ◌>>=◌}
use Rattle.kv_types.specs.Reading.{after_byte, number_at, word_at, with_first, words_at, request_at}
use Rattle.kv_types.proofs.ReaderLemmas.{bind_ok, bind_err, ok_parts}
use Rattle.kv_types.proofs.GrammarSteps.{after_byte-takes, after_byte-short, after_byte-breaks, BreaksAt, BreaksAt-first, BreaksAt-behind}
use Rattle.kv_types.proofs.GrammarNumbers.{number_at-number_line, number_at-takes, number_at-short, number_at-breaks, InNumber}
use Rattle.kv_types.proofs.GrammarWords.{IsProperPrefix-append, IsProperPrefix-behind, IsProperPrefix-same, InWord, word_at-again, word_at-takes, word_at-short, word_at-breaks}

-- numbers that the limits allow have a spelling of their own
pub record HasNumbers (limits : Limits) : Type 0 where
  pub words : limits.words < 2 ^ 64
  pub word_bytes : limits.word_bytes < 2 ^ 64

-- no word is too long
abbrev pub AreShort : Limits → List (List ℕ) → Type 0
AreShort limits words = AllByRecursion (λ word. length word ≤ limits.word_bytes) words

-- ---- words

-- the words after the first, and the first put before them
abbrev pub words_after : Limits → ℕ → Read (List ℕ) → Result (Read (List (List ℕ))) (Stop ProtocolFault)
words_after limits count word = words_at limits count word.1 >>= λ others. Ok (with_first word.0 others)

pub words_at-again : (limits : Limits) (words : List (List ℕ)) (rest : List ℕ) → HasNumbers limits → AreShort limits words → words_at limits (length words) (flat_map bulk words ++ rest) ≡ Ok (words, rest)
words_at-again limits [] rest numbers short = refl
words_at-again limits (word ∷ words) rest numbers short =
    ap (words_at limits (suc (length words))) (append_assoc (bulk word) (flat_map bulk words) rest)
    ∙ ap (λ r. r >>= words_after limits (length words)) (word_at-again limits word (flat_map bulk words ++ rest) numbers.word_bytes short.0)
    ∙ ap (λ r. r >>= λ others. Ok (with_first word others)) (words_at-again limits words rest numbers short.1)

-- after a word that is spelled there, the others are read
pub words_at-behind : (limits : Limits) (count : ℕ) (word after : List ℕ) → HasNumbers limits → length word ≤ limits.word_bytes → words_at limits (suc count) (bulk word ++ after) ≡ words_after limits count (word, after)
words_at-behind limits count word after numbers short = ap (λ r. r >>= words_after limits count) (word_at-again limits word after numbers.word_bytes short)

-- the bytes begin with the spelling of these words: `count` of them, and none too long
pub words_at-takes : (limits : Limits) (count : ℕ) (bytes : List ℕ) (words : List (List ℕ)) (rest : List ℕ) → HasNumbers limits → words_at limits count bytes ≡ Ok (words, rest)
    → (length words ≡ count) × AreShort limits words × (bytes ≡ flat_map bulk words ++ rest)
words_at-takes limits zero bytes words rest numbers e =
    let parts = ok_parts [] words bytes rest e in
    rw (← parts.0) (refl, tt, parts.1)
words_at-takes limits (suc count) bytes words rest numbers e =
    let first = bind_ok (words_after limits count) (word_at limits bytes) (words, rest) e in
    let second = bind_ok (λ others. Ok (with_first first.0.0 others)) (words_at limits count first.0.1) (words, rest) first.2 in
    let word = word_at-takes limits bytes first.0.0 first.0.1 numbers.word_bytes first.1 in
    let others = words_at-takes limits count first.0.1 second.0.0 second.0.1 numbers second.1 in
    let parts = ok_parts (first.0.0 ∷ second.0.0) words second.0.1 rest second.2 in
    let after = others.2 ∙ ap (λ x. flat_map bulk second.0.0 ++ x) parts.1 in
    let spelled = word.1 ∙ ap (λ x. bulk first.0.0 ++ x) after ∙ sym (append_assoc (bulk first.0.0) (flat_map bulk second.0.0) rest) ∙ ap (λ w. flat_map bulk w ++ rest) parts.0 in
    (ap length (sym parts.0) ∙ ap suc others.0, rw (← parts.0) (word.0, others.1), spelled)

-- the bytes begin the spelling of some words: `count` of them, and none too long
abbrev BeginsWords : Limits → ℕ → List ℕ → Type 0
BeginsWords limits count bytes = (words : List (List ℕ)) × (length words ≡ count) × AreShort limits words × IsProperPrefix bytes (flat_map bulk words)

AreShort-empty : (limits : Limits) (count : ℕ) → AreShort limits (replicate count [])
AreShort-empty limits zero = tt
AreShort-empty limits (suc count) = (omega arith, AreShort-empty limits count)

pub words_at-short : (limits : Limits) (count : ℕ) (bytes : List ℕ) → HasNumbers limits → words_at limits count bytes ≡ Err Short → BeginsWords limits count bytes
words_at-short limits zero bytes numbers e = absurd (cc)
words_at-short limits (suc count) bytes numbers e =
    elim (bind_err (words_after limits count) (word_at limits bytes) Short e) [
      | inl h ↦
          let word = word_at-short limits bytes numbers.word_bytes h in (
            word.0 ∷ replicate count [],
            ap suc (length-replicate count []),
            (word.1, AreShort-empty limits count),
            IsProperPrefix-append bytes (bulk word.0)
                (flat_map bulk (replicate count [])) word.2,
          )
      | inr h ↦
          let word = word_at-takes limits bytes h.0.0 h.0.1 numbers.word_bytes h.1 in
          let others = words_at-short limits count h.0.1 numbers (elim (bind_err (λ others. Ok (with_first h.0.0 others)) (words_at limits count h.0.1) Short h.2) [ inl k ↦ k | inr k ↦ absurd (cc) ]) in
          (h.0.0 ∷ others.0, ap suc others.1, (word.0, others.2), IsProperPrefix-same word.1 refl (IsProperPrefix-behind (bulk h.0.0) h.0.1 (flat_map bulk others.0) others.3))
    ]

-- the bytes before the one at which one of `count` words breaks
abbrev pub InWords : Limits → ℕ → List ℕ → ℕ → ProtocolFault → Type 0
InWords limits count prefix byte fault = (words : List (List ℕ)) × (inner : List ℕ) × (length words < count) × InWord limits inner byte fault × (prefix ≡ flat_map bulk words ++ inner)

pub words_at-breaks : (limits : Limits) (count : ℕ) (bytes : List ℕ) (said : ProtocolFault) → HasNumbers limits → words_at limits count bytes ≡ Err (Broken said) → BreaksAt (words_at limits count) (InWords limits count) bytes said
words_at-breaks limits zero bytes said numbers e = absurd (cc)
words_at-breaks limits (suc count) bytes said numbers e =
    elim (bind_err (words_after limits count) (word_at limits bytes) (Broken said) e) [
      | inl h ↦ BreaksAt-first (word_at limits) (words_after limits count) (InWord limits) (InWords limits (suc count)) bytes said
          (λ prefix byte p. ([], prefix, omega arith, p, refl))
          (word_at-breaks limits bytes said numbers.word_bytes h)
      | inr h ↦
          let word = word_at-takes limits bytes h.0.0 h.0.1 numbers.word_bytes h.1 in
          let others = words_at-breaks limits count h.0.1 said numbers (elim (bind_err (λ others. Ok (with_first h.0.0 others)) (words_at limits count h.0.1) (Broken said) h.2) [ inl k ↦ k | inr k ↦ absurd (cc) ]) in
          rw word.1 (BreaksAt-behind (λ after. words_after limits count (h.0.0, after)) (words_at limits (suc count)) (InWords limits count) (InWords limits (suc count)) (bulk h.0.0) h.0.1 said
          (λ after. words_at-behind limits count h.0.0 after numbers word.0)
          (λ prefix byte p. (h.0.0 ∷ p.0, p.1, omega (arith, p.2), p.3, ap (λ x. bulk h.0.0 ++ x) p.4 ∙ sym (append_assoc (bulk h.0.0) (flat_map bulk p.0) p.1)))
          (BreaksAt-first (words_at limits count) (λ others. Ok (with_first h.0.0 others)) (InWords limits count) (InWords limits count) h.0.1 said (λ prefix byte p. p) others))
    ]

-- ---- requests

-- the number of words and the words
abbrev pub counted_words : Limits → List ℕ → Result (Read (List (List ℕ))) (Stop ProtocolFault)
counted_words limits bytes = number_at limits.words InvalidMultibulkLength bytes >>= λ count. words_at limits count.0 count.1

pub counted_words-behind : (limits : Limits) (count : ℕ) (after : List ℕ) → HasNumbers limits → count ≤ limits.words → counted_words limits (number_line count ++ after) ≡ words_at limits count after
counted_words-behind limits count after numbers fits = ap (λ r. r >>= λ count. words_at limits count.0 count.1) (number_at-number_line limits.words InvalidMultibulkLength count after numbers.words fits)

pub spelling-append : (words : List (List ℕ)) (rest : List ℕ) → spelling words ++ rest ≡ 42 ∷ (number_line (length words) ++ (flat_map bulk words ++ rest))
spelling-append words rest = append_assoc (42 ∷ number_line (length words)) (flat_map bulk words) rest

pub request_at-again : (limits : Limits) (words : List (List ℕ)) (rest : List ℕ) → HasNumbers limits → IsWithin limits words → request_at limits (spelling words ++ rest) ≡ Ok (words, rest)
request_at-again limits words rest numbers within =
    ap (request_at limits) (spelling-append words rest) ∙ counted_words-behind limits (length words) (flat_map bulk words ++ rest) numbers within.count ∙ words_at-again limits words rest numbers within.lengths

pub request_at-takes : (limits : Limits) (bytes : List ℕ) (words : List (List ℕ)) (rest : List ℕ) → HasNumbers limits → request_at limits bytes ≡ Ok (words, rest) → IsWithin limits words × (bytes ≡ spelling words ++ rest)
request_at-takes limits bytes words rest numbers e =
    let first = bind_ok (counted_words limits) (after_byte 42 ExpectedArray bytes) (words, rest) e in
    let second = bind_ok (λ count. words_at limits count.0 count.1) (number_at limits.words InvalidMultibulkLength first.0) (words, rest) first.2 in
    let number = number_at-takes limits.words InvalidMultibulkLength first.0 second.0.0 second.0.1 numbers.words second.1 in
    let found = words_at-takes limits second.0.0 second.0.1 words rest numbers second.2 in (
      record { count = omega (arith, number.0, found.0); lengths = found.1 },
      after_byte-takes 42 ExpectedArray bytes first.0 first.1 ∙ ap (λ x. 42 ∷ x) (number.1 ∙ ap (λ x. number_line second.0.0 ++ x) found.2 ∙ ap (λ n. number_line n ++ (flat_map bulk words ++ rest))
          (sym found.0)) ∙ sym (spelling-append words rest),
    )

-- the bytes begin some request's spelling
abbrev pub BeginsRequest : Limits → List ℕ → Type 0
BeginsRequest limits bytes = (words : List (List ℕ)) × IsWithin limits words × IsProperPrefix bytes (spelling words)

pub request_at-short : (limits : Limits) (bytes : List ℕ) → HasNumbers limits → request_at limits bytes ≡ Err Short → BeginsRequest limits bytes
request_at-short limits bytes numbers e =
    elim (bind_err (counted_words limits) (after_byte 42 ExpectedArray bytes) Short e) [
      | inl h ↦
          let prefix = ap (λ x. x ++ (42 ∷ (number_line 0 ++ []))) (after_byte-short 42 ExpectedArray bytes h) in
          ([], record { count = omega arith; lengths = tt }, record { byte = 42; rest = number_line 0 ++ []; joined = prefix })
      | inr h ↦
          let star = after_byte-takes 42 ExpectedArray bytes h.0 h.1 in
          elim (bind_err (λ count. words_at limits count.0 count.1) (number_at limits.words InvalidMultibulkLength h.0) Short h.2) [
            | inl k ↦
                let number = number_at-short limits.words InvalidMultibulkLength h.0 numbers.words k in
                let count = length-replicate {A = List ℕ} number.0 [] in
                let inside = IsProperPrefix-behind (42 ∷ []) h.0 _ (IsProperPrefix-append h.0 (number_line number.0) (flat_map bulk (replicate number.0 [])) number.2) in
                let whole = ap (λ k. 42 ∷ (number_line k ++ flat_map bulk (replicate number.0 []))) (sym count) in
                (replicate number.0 [], record { count = omega (arith, count, number.1); lengths = AreShort-empty limits number.0 }, IsProperPrefix-same star whole inside)
            | inr k ↦
                let number = number_at-takes limits.words InvalidMultibulkLength h.0 k.0.0 k.0.1 numbers.words k.1 in
                let b = words_at-short limits k.0.0 k.0.1 numbers k.2 in
                let whole = ap (λ k. 42 ∷ (number_line k ++ flat_map bulk b.0)) (sym b.1) in
                let inside = IsProperPrefix-behind (42 ∷ number_line k.0.0) k.0.1 (flat_map bulk b.0) b.3 in
                (b.0, record { count = omega (arith, b.1, number.0); lengths = b.2 }, IsProperPrefix-same (star ∙ ap (λ x. 42 ∷ x) number.1) whole inside)
          ]
    ]

-- the position of a byte in a request, from its position in the words
placed_in_words : (limits : Limits) (n : ℕ) (said : ProtocolFault) (prefix : List ℕ) (byte : ℕ) → InWords limits n prefix byte said → Says limits ((42 ∷ number_line n) ++ prefix) byte said
placed_in_words limits n ExpectedArray prefix byte p = absurd p.3
placed_in_words limits n InvalidMultibulkLength prefix byte p = absurd p.3
placed_in_words limits n (ExpectedBulk got) prefix byte p =
    (n, p.0, p.2, ap (λ x. (42 ∷ number_line n) ++ x) (p.4 ∙ ap (λ x. flat_map bulk p.0 ++ x) p.3.0 ∙ append-nil (flat_map bulk p.0)), p.3.1)
placed_in_words limits n InvalidBulkLength prefix byte p =
    (n, p.0, p.3.0, p.3.1, p.2, p.3.2, p.3.3, simp (p.4, p.3.4, append_assoc))
placed_in_words limits n ExpectedLineEnd prefix byte p =
    (n, p.0, p.3.0, p.3.1, p.2, p.3.3, simp (p.4, p.3.4, append_assoc))

pub request_at-breaks : (limits : Limits) (bytes : List ℕ) (said : ProtocolFault) → HasNumbers limits → request_at limits bytes ≡ Err (Broken said) → BreaksAt (request_at limits) (Says limits) bytes said
request_at-breaks limits bytes said numbers e =
    elim (bind_err (counted_words limits) (after_byte 42 ExpectedArray bytes) (Broken said) e) [
      | inl h ↦ BreaksAt-first (after_byte 42 ExpectedArray) (counted_words limits) (λ prefix byte f. (prefix ≡ []) × (f ≡ ExpectedArray)) (Says limits) bytes said
          (λ prefix byte p. rw p.1 p.0)
          (after_byte-breaks 42 ExpectedArray said bytes h).1
      | inr h ↦
          let star = after_byte-takes 42 ExpectedArray bytes h.0 h.1 in
          elim (bind_err (λ count. words_at limits count.0 count.1) (number_at limits.words InvalidMultibulkLength h.0) (Broken said) h.2) [
            | inl k ↦
                let number = number_at-breaks limits.words InvalidMultibulkLength h.0 said numbers.words k in
                rw star (BreaksAt-behind (counted_words limits) (request_at limits) (InNumber limits.words) (Says limits) (42 ∷ []) h.0 said (λ after. refl)
                (λ prefix byte p. rw number.0 (prefix, p.0, p.1, p.2, refl))
                (BreaksAt-first (number_at limits.words InvalidMultibulkLength) (λ count. words_at limits count.0 count.1) (InNumber limits.words) (InNumber limits.words) h.0 said (λ prefix byte p. p) number.1))
            | inr k ↦
                let number = number_at-takes limits.words InvalidMultibulkLength h.0 k.0.0 k.0.1 numbers.words k.1 in
                rw (star, number.1) (BreaksAt-behind (words_at limits k.0.0) (request_at limits) (InWords limits k.0.0) (Says limits) (42 ∷ number_line k.0.0) k.0.1 said (λ after. counted_words-behind limits k.0.0 after numbers number.0) (λ prefix byte p. placed_in_words limits k.0.0 said prefix byte p)
                (words_at-breaks limits k.0.0 k.0.1 said numbers k.2))
          ]
    ]
