-- What a reader answers remains when more bytes come: a value, with those bytes added to its rest, or a fault. Only `Short` may change.
use Rattle.std.proofs.Common.{◌≡◌, ℕ, zero, suc, ◌+◌, ◌-◌, ◌*◌, ◌≤◌, Bool, true, false, cond, ◌&&◌, ◌==◌, nat_lt, nat_le, List, [], ◌∷◌, ◌++◌, length, take, drop, Result, Ok, Err, refl, arith}
use Rattle.std.proofs.lemmas.List.{length-append, take-append-le, drop-append-le}
use Rattle.std.proofs.lemmas.Bool.{ltb-false, le-ltb}
use Rattle.kv_types.specs.declared.limits.Limits.{Limits}
use Rattle.kv_types.specs.declared.item.ProtocolFault.{ProtocolFault}
use Rattle.kv_types.specs.declared.item.ProtocolFault.TheVariants.{ExpectedArray, InvalidMultibulkLength, InvalidBulkLength, ExpectedLineEnd}
use Rattle.kv_types.specs.declared.stop.Stop.{Stop}
use Rattle.kv_types.specs.declared.stop.Stop.TheVariants.{Short, Broken}
use Rattle.kv_types.specs.Reader.{Read, ◌>>=◌}
use Rattle.kv_types.specs.Reading.{is_digit, after_byte, with_line_feed, number_from, number_at, after_dollar, payload_at, word_at, words_at, request_at}
use Rattle.kv_types.proofs.GrammarWords.{line_end_after}

-- the later answer is the earlier one, unless that was `Short`; `grow` appends the bytes that came to a value's rest
abbrev pub Keeps : {A : Type 0} → (A → A) → Result A (Stop ProtocolFault) → Result A (Stop ProtocolFault) → Type 0
Keeps grow (Ok x) later = later ≡ Ok (grow x)
Keeps grow (Err Short) later = Unit {0}
Keeps grow (Err (Broken fault)) later = later ≡ Err (Broken fault)

-- what was read, with the bytes that came appended to its rest
abbrev pub with_more : {A : Type 0} → List ℕ → Read A → Read A
with_more more read = (read.0, read.1 ++ more)

abbrev pub longer : List ℕ → List ℕ → List ℕ
longer more bytes = bytes ++ more

pub Keeps-bind : {A B : Type 0} (grow_a : A → A) (grow_b : B → B) (f : A → Result B (Stop ProtocolFault)) → ((x : A) → Keeps grow_b (f x) (f (grow_a x))) → (r later : Result A (Stop ProtocolFault)) → Keeps grow_a r later → Keeps grow_b (r >>= f) (later >>= f)
Keeps-bind grow_a grow_b f each (Ok x) later e = rw e (each x)
Keeps-bind grow_a grow_b f each (Err Short) later e = tt
Keeps-bind grow_a grow_b f each (Err (Broken fault)) later e = rw e refl

pub Keeps-if : {A : Type 0} (grow : A → A) (test : Bool) (x y x' y' : Result A (Stop ProtocolFault)) → Keeps grow x x' → Keeps grow y y' → Keeps grow (cond test x y) (cond test x' y')
Keeps-if grow true x y x' y' h k = h
Keeps-if grow false x y x' y' h k = k

pub after_byte-more : (more : List ℕ) (expected : ℕ) (fault : ProtocolFault) (bytes : List ℕ) → Keeps (longer more) (after_byte expected fault bytes) (after_byte expected fault (bytes ++ more))
after_byte-more more expected fault [] = tt
after_byte-more more expected fault (byte ∷ bytes) = Keeps-if (longer more) (byte == expected) _ _ _ _ refl refl

with_line_feed-more : (more : List ℕ) (fault : ProtocolFault) (n : ℕ) (bytes : List ℕ) → Keeps (with_more more) (with_line_feed fault n bytes) (with_line_feed fault n (bytes ++ more))
with_line_feed-more more fault n bytes =
    Keeps-bind (longer more) (with_more more) (λ rest. Ok (n, rest)) (λ rest. refl) (after_byte 10 fault bytes) _ (after_byte-more more 10 fault bytes)

number_from-more : (more : List ℕ) (most : ℕ) (fault : ProtocolFault) (n : ℕ) (bytes : List ℕ) → Keeps (with_more more) (number_from most fault n bytes) (number_from most fault n (bytes ++ more))
number_from-more more most fault n [] = tt
number_from-more more most fault n (byte ∷ bytes) =
    Keeps-if (with_more more) (byte == 13) _ _ _ _ (with_line_feed-more more fault n bytes)
    (Keeps-if (with_more more) (is_digit byte && nat_lt 0 n && nat_le (10 * n + (byte - 48)) most) _ _ _ _ (number_from-more more most fault (10 * n + (byte - 48)) bytes) refl)

pub number_at-more : (more : List ℕ) (most : ℕ) (fault : ProtocolFault) (bytes : List ℕ) → Keeps (with_more more) (number_at most fault bytes) (number_at most fault (bytes ++ more))
number_at-more more most fault [] = tt
number_at-more more most fault (byte ∷ bytes) =
    Keeps-if (with_more more) (is_digit byte && nat_le (byte - 48) most) _ _ _ _ (number_from-more more most fault (byte - 48) bytes) refl

after_dollar-more : (more bytes : List ℕ) → Keeps (longer more) (after_dollar bytes) (after_dollar (bytes ++ more))
after_dollar-more more [] = tt
after_dollar-more more (byte ∷ bytes) = Keeps-if (longer more) (byte == 36) _ _ _ _ refl refl

line_end_after-more : (more word bytes : List ℕ) → Keeps (with_more more) (line_end_after word bytes) (line_end_after word (bytes ++ more))
line_end_after-more more word bytes =
    Keeps-bind _ _ _ (λ rest. Keeps-bind _ _ _ (λ after. refl) _ _ (after_byte-more more 10 ExpectedLineEnd rest)) _ _ (after_byte-more more 13 ExpectedLineEnd bytes)

-- whether a payload is there, as a test b of its length
payload_at-cases : (len : ℕ) (bytes more : List ℕ) (b c : Bool) → (b ≡ false → (c ≡ false) × (len ≤ length bytes)) → Keeps (with_more more) (cond b (Err Short) (line_end_after (take len bytes) (drop len bytes))) (cond c (Err Short) (line_end_after (take len (bytes ++ more)) (drop len (bytes ++ more))))
payload_at-cases len bytes more true c h = tt
payload_at-cases len bytes more false c h =
    let fits : len ≤ length bytes = (h refl).1 in
    rw ((h refl).0, take-append-le len bytes more fits, drop-append-le len bytes more fits) (line_end_after-more more (take len bytes) (drop len bytes))

pub payload_at-more : (more : List ℕ) (len : ℕ) (bytes : List ℕ) → Keeps (with_more more) (payload_at len bytes) (payload_at len (bytes ++ more))
payload_at-more more len bytes =
    payload_at-cases len bytes more (nat_lt (length bytes) len) (nat_lt (length (bytes ++ more)) len)
    (λ e. let fits : len ≤ length bytes = ltb-false _ _ e in (le-ltb _ _ (omega (arith, length-append bytes more)), fits))

word_at-more : (more : List ℕ) (limits : Limits) (bytes : List ℕ) → Keeps (with_more more) (word_at limits bytes) (word_at limits (bytes ++ more))
word_at-more more limits bytes =
    Keeps-bind _ _ _ (λ rest. Keeps-bind _ _ _ (λ len. payload_at-more more len.0 len.1) _ _ (number_at-more more limits.word_bytes InvalidBulkLength rest)) _ _ (after_dollar-more more bytes)

words_at-more : (more : List ℕ) (limits : Limits) (count : ℕ) (bytes : List ℕ) → Keeps (with_more more) (words_at limits count bytes) (words_at limits count (bytes ++ more))
words_at-more more limits zero bytes = refl
words_at-more more limits (suc count) bytes =
    Keeps-bind _ _ _ (λ word. Keeps-bind _ _ _ (λ others. refl) _ _ (words_at-more more limits count word.1)) _ _ (word_at-more more limits bytes)

pub request_at-more : (more : List ℕ) (limits : Limits) (bytes : List ℕ) → Keeps (with_more more) (request_at limits bytes) (request_at limits (bytes ++ more))
request_at-more more limits bytes =
    Keeps-bind _ _ _ (λ rest. Keeps-bind _ _ _ (λ count. words_at-more more limits count.0 count.1) _ _ (number_at-more more limits.words InvalidMultibulkLength rest)) _ _
    (after_byte-more more 42 ExpectedArray bytes)
