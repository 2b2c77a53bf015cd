-- A byte that breaks the reading gives the fault of its position, and no other.
use Rattle.std.proofs.Common.{◌≡◌, ℕ, zero, suc, ◌^◌, ◌<◌, ◌≤◌, Bool, true, false, cond, ◌==◌, nat_lt, List, [], ◌∷◌, ◌++◌, length, Result, Ok, Err, refl, ap, sym, ◌∙◌, arith}
use Rattle.std.proofs.lemmas.List.{append_assoc, append-nil, length-append}
use Rattle.std.specs.List.{flat_map}
use Rattle.kv_types.specs.declared.limits.Limits.{Limits}
use Rattle.kv_types.specs.declared.item.ProtocolFault.{ProtocolFault}
use Rattle.kv_types.specs.declared.item.ProtocolFault.TheVariants.{ExpectedArray, InvalidMultibulkLength, ExpectedBulk, InvalidBulkLength, ExpectedLineEnd}
use Rattle.kv_types.specs.Request.{line_end, number_line, bulk, IsProperPrefix, Begins, Says}
use Rattle.kv_types.specs.declared.stop.Stop.{Stop}
use Rattle.kv_types.specs.declared.stop.Stop.TheVariants.{Short, Broken}
use Rattle.kv_types.specs.Reader.{Read, ◌>>=◌}
use Rattle.kv_types.specs.Reading.{after_byte, number_at, payload_at, word_at, with_first, words_at, request_at}
use Rattle.kv_types.proofs.ReaderLemmas.{ok_parts}
use Rattle.kv_types.proofs.GrammarGrows.{Keeps, with_more, number_at-more}
use Rattle.kv_types.proofs.GrammarNumbers.{number_at-number_line, number_at-takes, number_at-breaks}
use Rattle.kv_types.proofs.GrammarWords.{line_end_after, payload_at-behind, rest_of_word, rest_of_word-again, InWord}
use Rattle.kv_types.proofs.GrammarRequests.{HasNumbers, AreShort, words_after, words_at-behind, counted_words, counted_words-behind}
use Rattle.kv_types.proofs.GrammarSpellings.{IsInside, IsInside-begins, length-inside}

-- what a reader answers at the end of its bytes: if it broke, it was with this fault, and if it read something, nothing is left
abbrev pub Tells : {A : Type 0} → ProtocolFault → Result (Read A) (Stop ProtocolFault) → Type 0
Tells fault (Ok x) = x.1 ≡ []
Tells fault (Err Short) = Unit {0}
Tells fault (Err (Broken other)) = other ≡ fault

Tells-bind : {A B : Type 0} (fault : ProtocolFault) (f : Read A → Result (Read B) (Stop ProtocolFault)) → ((x : A) → Tells fault (f (x, []))) → (r : Result (Read A) (Stop ProtocolFault)) → Tells fault r → Tells fault (r >>= f)
Tells-bind fault f each (Ok x) h = rw h (each x.0)
Tells-bind fault f each (Err Short) h = tt
Tells-bind fault f each (Err (Broken other)) h = h

Tells-if : {A : Type 0} (fault : ProtocolFault) (test : Bool) (x y : Result (Read A) (Stop ProtocolFault)) → Tells fault x → Tells fault y → Tells fault (cond test x y)
Tells-if fault true x y h k = h
Tells-if fault false x y h k = k

-- ---- numbers

prefix_from : (most : ℕ) (fault : ProtocolFault) (line : List ℕ) (byte : ℕ) (rest : List ℕ) (n : ℕ) → number_at most fault (line ++ byte ∷ rest) ≡ Ok (n, []) → (r : Result (Read ℕ) (Stop ProtocolFault)) → Keeps (with_more (byte ∷ rest)) r (number_at most fault (line ++ byte ∷ rest)) → r ≡ Err Short
prefix_from most fault line byte rest n whole (Ok x) keeps =
    let parts = ok_parts x.0 n (x.1 ++ byte ∷ rest) [] (sym keeps ∙ whole) in
    absurd (omega (arith, ap length parts.1, length-append x.1 (byte ∷ rest)))
prefix_from most fault line byte rest n whole (Err Short) keeps = refl
prefix_from most fault line byte rest n whole (Err (Broken other)) keeps = absurd (cc)

-- a proper prefix of a number's line is too short for a number
number_at-prefix : (most : ℕ) (fault : ProtocolFault) (line : List ℕ) (n : ℕ) → most < 2 ^ 64 → n ≤ most → IsProperPrefix line (number_line n) → number_at most fault line ≡ Err Short
number_at-prefix most fault line n small fits p =
    let whole : number_at most fault (line ++ p.byte ∷ p.rest) ≡ Ok (n, []) = ap (number_at most fault) (p.joined ∙ sym (append-nil (number_line n))) ∙ number_at-number_line most fault n [] small fits in
    prefix_from most fault line p.byte p.rest n whole (number_at most fault line) (number_at-more (p.byte ∷ p.rest) most fault line)

-- a prefix of the bytes that does not reach their last byte is a prefix of the bytes without it
prefix_without_last : (p a : List ℕ) (byte d : ℕ) (rest : List ℕ) → p ++ byte ∷ [] ≡ a ++ d ∷ rest → (q : List ℕ) × (p ≡ a ++ q)
prefix_without_last p [] byte d rest e = (p, refl)
prefix_without_last [] (c ∷ a) byte d rest e = absurd (omega (arith, ap length e, length-append a (d ∷ rest)))
prefix_without_last (b ∷ p) (c ∷ a) byte d rest e =
    let tail = prefix_without_last p a byte d rest cc in
    (tail.0, grind (arith, tail.1))

nothing_left : (most : ℕ) (fault : ProtocolFault) (line : List ℕ) (byte m : ℕ) (rest : List ℕ) → most < 2 ^ 64 → number_at most fault line ≡ Err Short → m ≤ most → line ++ byte ∷ [] ≡ number_line m ++ rest → rest ≡ []
nothing_left most fault line byte m [] small short fits e = refl
nothing_left most fault line byte m (d ∷ rest) small short fits e =
    let prefix = prefix_without_last line (number_line m) byte d rest e in
    let read : number_at most fault line ≡ Ok (m, prefix.0) = ap (number_at most fault) prefix.1 ∙ number_at-number_line most fault m prefix.0 small fits in
    absurd (cc)

tells_number : (most : ℕ) (fault : ProtocolFault) (line : List ℕ) (byte : ℕ) → most < 2 ^ 64 → number_at most fault line ≡ Err Short → (r : Result (Read ℕ) (Stop ProtocolFault)) → number_at most fault (line ++ byte ∷ []) ≡ r → Tells fault r
tells_number most fault line byte small short (Ok x) e =
    let found = number_at-takes most fault (line ++ byte ∷ []) x.0 x.1 small e in
    nothing_left most fault line byte x.0 x.1 small short found.0 found.1
tells_number most fault line byte small short (Err Short) e = tt
tells_number most fault line byte small short (Err (Broken other)) e = (number_at-breaks most fault (line ++ byte ∷ []) other small e).0

number_at-tells : (most : ℕ) (fault : ProtocolFault) (line : List ℕ) (byte n : ℕ) → most < 2 ^ 64 → n ≤ most → IsProperPrefix line (number_line n) → Tells fault (number_at most fault (line ++ byte ∷ []))
number_at-tells most fault line byte n small fits p = tells_number most fault line byte small (number_at-prefix most fault line n small fits p) (number_at most fault (line ++ byte ∷ [])) refl

-- ---- words

line_end-tells : (word end : List ℕ) (byte : ℕ) → IsProperPrefix end line_end → Tells ExpectedLineEnd (line_end_after word (end ++ byte ∷ []))
line_end-tells word [] byte p =
    elim (byte == 13) as (λ b. Tells ExpectedLineEnd (cond b (Ok []) (Err (Broken ExpectedLineEnd)) >>= λ rest. after_byte 10 ExpectedLineEnd rest >>= λ after. Ok (word, after))) [ true ↦ tt | false ↦ refl ]
line_end-tells word (a ∷ []) byte p =
    let joined = p.joined in
    let same : a ≡ 13 = cc in
    rw same (elim (byte == 10) as (λ b. Tells ExpectedLineEnd (cond b (Ok []) (Err (Broken ExpectedLineEnd)) >>= λ after. Ok (word, after))) [ true ↦ refl | false ↦ refl ])
line_end-tells word (a ∷ b ∷ more) byte p = absurd (omega (arith, ap length p.joined, length-append more (p.byte ∷ p.rest)))

payload-nothing : (fault : ProtocolFault) (len : ℕ) → Tells fault (payload_at len [])
payload-nothing fault zero = tt
payload-nothing fault (suc len) = Tells-if fault (nat_lt 0 (suc len)) (Err Short) (line_end_after [] []) tt tt

word_at-tells : (limits : Limits) (inner : List ℕ) (byte : ℕ) (fault : ProtocolFault) → HasNumbers limits → InWord limits inner byte fault → Tells fault (word_at limits (inner ++ byte ∷ []))
word_at-tells limits inner byte ExpectedArray numbers p = absurd p
word_at-tells limits inner byte InvalidMultibulkLength numbers p = absurd p
word_at-tells limits inner byte (ExpectedBulk got) numbers p =
    rw p.0 (elim (byte == 36) as (λ b. Tells (ExpectedBulk got) (cond b (Ok []) (Err (Broken (ExpectedBulk byte))) >>= rest_of_word limits)) [ true ↦ tt | false ↦ ap ExpectedBulk (sym p.1) ])
word_at-tells limits inner byte InvalidBulkLength numbers p =
    rw p.4 (Tells-bind InvalidBulkLength (λ len. payload_at len.0 len.1) (λ len. payload-nothing InvalidBulkLength len) (number_at limits.word_bytes InvalidBulkLength (p.0 ++ byte ∷ [])) (number_at-tells limits.word_bytes InvalidBulkLength p.0 byte p.1 numbers.word_bytes p.2 p.3))
word_at-tells limits inner byte ExpectedLineEnd numbers p =
    let word = p.0 in
    let whole : inner ++ byte ∷ [] ≡ (36 ∷ number_line (length word)) ++ (word ++ (p.1 ++ byte ∷ [])) = simp (p.4, append_assoc) in
    let read : word_at limits (inner ++ byte ∷ []) ≡ line_end_after word (p.1 ++ byte ∷ []) = ap (word_at limits) whole ∙ rest_of_word-again limits (length word) (word ++ (p.1 ++ byte ∷ [])) numbers.word_bytes p.2 ∙ payload_at-behind (length word) word (p.1 ++ byte ∷ []) refl in
    rw read (line_end-tells word p.1 byte p.3)

words-nothing : (limits : Limits) (fault : ProtocolFault) (count : ℕ) → Tells fault (words_at limits count [])
words-nothing limits fault zero = refl
words-nothing limits fault (suc count) = tt

words_at-tells : (limits : Limits) (count : ℕ) (words : List (List ℕ)) (inner : List ℕ) (byte : ℕ) (fault : ProtocolFault) → HasNumbers limits → length words < count → AreShort limits words → InWord limits inner byte fault → Tells fault (words_at limits count (flat_map bulk words ++ (inner ++ byte ∷ [])))
words_at-tells limits zero words inner byte fault numbers fewer short p = absurd (omega arith)
words_at-tells limits (suc count) [] inner byte fault numbers fewer short p =
    Tells-bind fault (words_after limits count) (λ word. Tells-bind fault (λ others. Ok (with_first word others)) (λ others. refl) (words_at limits count []) (words-nothing limits fault count))
    (word_at limits (inner ++ byte ∷ [])) (word_at-tells limits inner byte fault numbers p)
words_at-tells limits (suc count) (word ∷ words) inner byte fault numbers fewer short p =
    let after = flat_map bulk words ++ (inner ++ byte ∷ []) in
    let read : words_at limits (suc count) ((bulk word ++ flat_map bulk words) ++ (inner ++ byte ∷ [])) ≡ words_after limits count (word, after) = ap (words_at limits (suc count)) (append_assoc (bulk word) (flat_map bulk words) (inner ++ byte ∷ [])) ∙ words_at-behind limits count word after numbers short.0 in
    rw read (Tells-bind fault (λ others. Ok (with_first word others)) (λ others. refl) (words_at limits count after) (words_at-tells limits count words inner byte fault numbers (omega arith) short.1 p))

-- ---- requests

-- after the number of words
tells_in_words : (limits : Limits) (n : ℕ) (words : List (List ℕ)) (inner : List ℕ) (byte : ℕ) (fault : ProtocolFault) → HasNumbers limits → length words < n → IsInside limits n words inner → InWord limits inner byte fault → Tells fault (request_at limits (((42 ∷ number_line n) ++ (flat_map bulk words ++ inner)) ++ byte ∷ []))
tells_in_words limits n words inner byte fault numbers fewer inside p =
    let whole : ((42 ∷ number_line n) ++ (flat_map bulk words ++ inner)) ++ byte ∷ [] ≡ (42 ∷ number_line n) ++ (flat_map bulk words ++ (inner ++ byte ∷ [])) = simp append_assoc in
    let read : request_at limits (((42 ∷ number_line n) ++ (flat_map bulk words ++ inner)) ++ byte ∷ []) ≡ words_at limits n (flat_map bulk words ++ (inner ++ byte ∷ [])) = ap (request_at limits) whole ∙ counted_words-behind limits n (flat_map bulk words ++ (inner ++ byte ∷ [])) numbers inside.count in
    rw read (words_at-tells limits n words inner byte fault numbers fewer inside.next.0 p)

-- A byte gives the fault of its position.
pub Says-tells : (limits : Limits) (prefix : List ℕ) (byte : ℕ) (fault : ProtocolFault) → HasNumbers limits → Begins limits prefix → Says limits prefix byte fault → Tells fault (request_at limits (prefix ++ byte ∷ []))
Says-tells limits prefix byte ExpectedArray numbers b p =
    rw p (elim (byte == 42) as (λ t. Tells ExpectedArray (cond t (Ok []) (Err (Broken ExpectedArray)) >>= counted_words limits)) [ true ↦ tt | false ↦ refl ])
Says-tells limits prefix byte InvalidMultibulkLength numbers b p =
    rw p.4 (Tells-bind InvalidMultibulkLength (λ count. words_at limits count.0 count.1) (λ count. words-nothing limits InvalidMultibulkLength count) (number_at limits.words InvalidMultibulkLength (p.0 ++ byte ∷ [])) (number_at-tells limits.words InvalidMultibulkLength p.0 byte p.1 numbers.words p.2 p.3))
Says-tells limits prefix byte (ExpectedBulk got) numbers b p =
    let whole : prefix ≡ (42 ∷ number_line p.0) ++ (flat_map bulk p.1 ++ []) = p.3 ∙ ap (λ x. (42 ∷ number_line p.0) ++ x) (sym (append-nil (flat_map bulk p.1))) in
    let begins = rw whole at b in
    rw whole (tells_in_words limits p.0 p.1 [] byte (ExpectedBulk got) numbers p.2 (IsInside-begins limits p.0 p.1 [] numbers p.2 begins) (refl, p.4))
Says-tells limits prefix byte InvalidBulkLength numbers b p =
    let inner = 36 ∷ p.2 in
    let whole : prefix ≡ (42 ∷ number_line p.0) ++ (flat_map bulk p.1 ++ inner) = p.7 ∙ append_assoc (42 ∷ number_line p.0) (flat_map bulk p.1) inner in
    let begins = rw whole at b in
    rw whole (tells_in_words limits p.0 p.1 inner byte InvalidBulkLength numbers p.4 (IsInside-begins limits p.0 p.1 inner numbers p.4 begins) (p.2, p.3, p.5, p.6, refl))
Says-tells limits prefix byte ExpectedLineEnd numbers b p =
    let word = p.2 in
    let inner = ((36 ∷ number_line (length word)) ++ word) ++ p.3 in
    let whole : prefix ≡ (42 ∷ number_line p.0) ++ (flat_map bulk p.1 ++ inner) = simp (p.6, append_assoc) in
    let begins = rw whole at b in
    let inside = IsInside-begins limits p.0 p.1 inner numbers p.4 begins in
    let short : length word ≤ limits.word_bytes = length-inside limits p.0 p.1 (length word) (word ++ p.3) numbers (rw (append_assoc (36 ∷ number_line (length word)) word p.3) at inside) in
    rw whole (tells_in_words limits p.0 p.1 inner byte ExpectedLineEnd numbers p.4 inside (word, p.3, short, p.5, refl))
