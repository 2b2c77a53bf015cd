-- What a reader leaves is the end of what it was given.
use Rattle.std.proofs.Common.{◌≡◌, ℕ, zero, suc, ◌+◌, ◌-◌, ◌*◌, ◌≤◌, Bool, true, false, cond, ◌&&◌, ◌==◌, nat_lt, nat_le, List, [], ◌∷◌, ◌++◌, length, take, drop, Result, Ok, Err, refl, ap, sym, ◌∙◌, arith}
use Rattle.std.proofs.lemmas.List.{append_assoc, length-append, take-append-drop}
use Rattle.kv_types.specs.declared.limits.Limits.{Limits}
use Rattle.kv_types.specs.declared.item.ProtocolFault.{ProtocolFault}
use Rattle.kv_types.specs.declared.item.ProtocolFault.TheVariants.{ExpectedArray, InvalidMultibulkLength, ExpectedBulk, InvalidBulkLength, ExpectedLineEnd}
use Rattle.kv_types.specs.declared.stop.Stop.{Stop}
use Rattle.kv_types.specs.declared.stop.Stop.TheVariants.{Short, Broken}
use Rattle.kv_types.specs.Reader.{Read, ◌>>=◌}
use Rattle.kv_types.specs.Reading.{is_digit, after_byte, with_line_feed, number_from, number_at, after_dollar, payload_at, word_at, words_at, request_at}

-- part is the end of whole
pub record IsEndOf (whole part : List ℕ) : Type 0 where
  pub prefix : List ℕ
  pub joined : whole ≡ prefix ++ part

pub IsEndOf-self : (whole : List ℕ) → IsEndOf whole whole
IsEndOf-self whole = record { prefix = []; joined = refl }

pub IsEndOf-trans : {a b c : List ℕ} → IsEndOf a b → IsEndOf b c → IsEndOf a c
IsEndOf-trans {a} {b} {c} ab bc =
    record { prefix = ab.prefix ++ bc.prefix; joined = ab.joined ∙ ap (λ part. ab.prefix ++ part) bc.joined ∙ sym (append_assoc ab.prefix bc.prefix c) }

pub IsEndOf-tail : (whole : List ℕ) (byte : ℕ) (bytes : List ℕ) → IsEndOf whole (byte ∷ bytes) → IsEndOf whole bytes
IsEndOf-tail whole byte bytes end = record { prefix = end.prefix ++ byte ∷ []; joined = end.joined ∙ sym (append_assoc end.prefix (byte ∷ []) bytes) }

IsEndOf-drop : (whole : List ℕ) (n : ℕ) (bytes : List ℕ) → IsEndOf whole bytes → IsEndOf whole (drop n bytes)
IsEndOf-drop whole n bytes end =
    record { prefix = end.prefix ++ take n bytes; joined = end.joined ∙ ap (λ b. end.prefix ++ b) (sym (take-append-drop n bytes)) ∙ sym (append_assoc end.prefix (take n bytes) (drop n bytes)) }

pub length-IsEndOf : {whole part : List ℕ} → IsEndOf whole part → length part ≤ length whole
length-IsEndOf {whole} {part} end = omega (arith, ap length end.joined, length-append end.prefix part)

-- what is left after what was read is the end of whole
abbrev pub Leaves : {A : Type 0} → (A → List ℕ) → List ℕ → Result A (Stop ProtocolFault) → Type 0
Leaves rest whole (Ok x) = IsEndOf whole (rest x)
Leaves rest whole (Err stop) = Unit {0}

Leaves-bind : {A B : Type 0} (rest_a : A → List ℕ) (rest_b : B → List ℕ) (f : A → Result B (Stop ProtocolFault)) (whole : List ℕ) → ((x : A) → IsEndOf whole (rest_a x) → Leaves rest_b whole (f x)) → (r : Result A (Stop ProtocolFault)) → Leaves rest_a whole r → Leaves rest_b whole (r >>= f)
Leaves-bind rest_a rest_b f whole each (Ok x) h = each x h
Leaves-bind rest_a rest_b f whole each (Err stop) h = tt

Leaves-if : {A : Type 0} (rest : A → List ℕ) (whole : List ℕ) (test : Bool) (x y : Result A (Stop ProtocolFault)) → Leaves rest whole x → Leaves rest whole y → Leaves rest whole (cond test x y)
Leaves-if rest whole true x y h k = h
Leaves-if rest whole false x y h k = k

abbrev pub itself : List ℕ → List ℕ
itself bytes = bytes

abbrev pub rest_of : {A : Type 0} → Read A → List ℕ
rest_of read = read.1

after_byte-leaves : (expected : ℕ) (fault : ProtocolFault) (whole bytes : List ℕ) → IsEndOf whole bytes → Leaves itself whole (after_byte expected fault bytes)
after_byte-leaves expected fault whole [] end = tt
after_byte-leaves expected fault whole (byte ∷ bytes) end = Leaves-if itself whole (byte == expected) (Ok bytes) (Err (Broken fault)) (IsEndOf-tail whole byte bytes end) tt

with_line_feed-leaves : (fault : ProtocolFault) (n : ℕ) (whole bytes : List ℕ) → IsEndOf whole bytes → Leaves rest_of whole (with_line_feed fault n bytes)
with_line_feed-leaves fault n whole bytes end =
    Leaves-bind itself rest_of (λ rest. Ok (n, rest)) whole (λ rest k. k) (after_byte 10 fault bytes) (after_byte-leaves 10 fault whole bytes end)

number_from-leaves : (limit : ℕ) (fault : ProtocolFault) (n : ℕ) (whole bytes : List ℕ) → IsEndOf whole bytes → Leaves rest_of whole (number_from limit fault n bytes)
number_from-leaves limit fault n whole [] end = tt
number_from-leaves limit fault n whole (byte ∷ bytes) end =
    let tail = IsEndOf-tail whole byte bytes end in
    Leaves-if rest_of whole (byte == 13) (with_line_feed fault n bytes) _ (with_line_feed-leaves fault n whole bytes tail)
    (Leaves-if rest_of whole (is_digit byte && nat_lt 0 n && nat_le (10 * n + (byte - 48)) limit) (number_from limit fault (10 * n + (byte - 48)) bytes) (Err (Broken fault))
    (number_from-leaves limit fault (10 * n + (byte - 48)) whole bytes tail) tt)

number_at-leaves : (limit : ℕ) (fault : ProtocolFault) (whole bytes : List ℕ) → IsEndOf whole bytes → Leaves rest_of whole (number_at limit fault bytes)
number_at-leaves limit fault whole [] end = tt
number_at-leaves limit fault whole (byte ∷ bytes) end =
    Leaves-if rest_of whole (is_digit byte && nat_le (byte - 48) limit) (number_from limit fault (byte - 48) bytes) (Err (Broken fault))
    (number_from-leaves limit fault (byte - 48) whole bytes (IsEndOf-tail whole byte bytes end)) tt

after_dollar-leaves : (whole bytes : List ℕ) → IsEndOf whole bytes → Leaves itself whole (after_dollar bytes)
after_dollar-leaves whole [] end = tt
after_dollar-leaves whole (byte ∷ bytes) end = Leaves-if itself whole (byte == 36) (Ok bytes) (Err (Broken (ExpectedBulk byte))) (IsEndOf-tail whole byte bytes end) tt

payload_at-leaves : (len : ℕ) (whole bytes : List ℕ) → IsEndOf whole bytes → Leaves rest_of whole (payload_at len bytes)
payload_at-leaves len whole bytes end =
    Leaves-if rest_of whole (nat_lt (length bytes) len) (Err Short) _ tt
    (Leaves-bind _ _ _ _ (λ rest k. Leaves-bind _ _ _ _ (λ after j. j) _ (after_byte-leaves 10 ExpectedLineEnd whole rest k)) _
    (after_byte-leaves 13 ExpectedLineEnd whole (drop len bytes) (IsEndOf-drop whole len bytes end)))

word_at-leaves : (limits : Limits) (whole bytes : List ℕ) → IsEndOf whole bytes → Leaves rest_of whole (word_at limits bytes)
word_at-leaves limits whole bytes end =
    Leaves-bind _ _ _ _ (λ rest k. Leaves-bind _ _ _ _ (λ len j. payload_at-leaves len.0 whole len.1 j) _ (number_at-leaves limits.word_bytes InvalidBulkLength whole rest k)) _
    (after_dollar-leaves whole bytes end)

words_at-leaves : (limits : Limits) (count : ℕ) (whole bytes : List ℕ) → IsEndOf whole bytes → Leaves rest_of whole (words_at limits count bytes)
words_at-leaves limits zero whole bytes end = end
words_at-leaves limits (suc count) whole bytes end =
    Leaves-bind _ _ _ _ (λ word k. Leaves-bind _ _ _ _ (λ others j. j) _ (words_at-leaves limits count whole word.1 k)) _ (word_at-leaves limits whole bytes end)

-- what is left after a request does not include the first byte
pub request_at-leaves : (limits : Limits) (byte : ℕ) (bytes : List ℕ) → Leaves rest_of bytes (request_at limits (byte ∷ bytes))
request_at-leaves limits byte bytes =
    Leaves-bind _ _ _ _ (λ rest k. Leaves-bind _ _ _ _ (λ count j. words_at-leaves limits count.0 bytes count.1 j) _ (number_at-leaves limits.words InvalidMultibulkLength bytes rest k))
    _ (Leaves-if itself bytes (byte == 42) (Ok bytes) (Err (Broken ExpectedArray)) (IsEndOf-self bytes) tt)
