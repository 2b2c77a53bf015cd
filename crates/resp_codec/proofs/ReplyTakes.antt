-- What a reader of replies takes is the text of what it gives.
use Rattle.std.proofs.Common.{◌≡◌, ◌≢◌, ℕ, zero, suc, ◌+◌, ◌-◌, ◌^◌, ◌<◌, ◌≤◌, ℤ, pos, negsuc, true, false, ◌||◌, ◌==◌, inl, inr, List, [], ◌∷◌, ◌++◌, length, flat_map, Result, Ok, Err, refl, ap, sym}
use Rattle.std.proofs.Common.{subst, ◌∙◌, append_assoc, lit<, arith, FitsSigned}
use Rattle.std.proofs.lemmas.Bool.{eqb-true, eqb-false, ne_eqb, or_parts}
use Rattle.std.proofs.lemmas.Fmt.{decimal_digit}
use Rattle.std.specs.Int.{w64}
use Rattle.std.specs.List.{AllByRecursion}
use Rattle.std.specs.Fmt.{decimal, signed_decimal}
use Rattle.kv_types.specs.declared.item.ProtocolFault.{ProtocolFault}
use Rattle.kv_types.specs.declared.item.ProtocolFault.TheVariants.{InvalidMultibulkLength, InvalidBulkLength, ExpectedLineEnd}
use Rattle.kv_types.specs.declared.reply.Reply.{Reply, Simple, Error, Int, Bulk, NullBulk, Array, NullArray}
use Rattle.kv_types.specs.Request.{line_end, number_line}
use Rattle.kv_types.specs.Reply.{text_of}
use Rattle.kv_types.specs.declared.stop.Stop.{Stop}
use Rattle.kv_types.specs.declared.stop.Stop.TheVariants.{Short, Broken}
use Rattle.kv_types.specs.Reader.{Read, ◌>>=◌}
use Rattle.kv_types.specs.Reading.{after_byte, number_at, payload_at}
use Rattle.kv_types.proofs.ReaderLemmas.{bind_ok, ok_parts}
use Rattle.kv_types.proofs.GrammarSteps.{chosen, after_byte-takes}
use Rattle.kv_types.proofs.GrammarNumbers.{number_line-append, number_at-takes}
use Rattle.kv_types.proofs.GrammarWords.{payload_at-takes, bulk-append}
use Rattle.resp_codec.specs.declared.reply_limits.ReplyLimits.{ReplyLimits}
use Rattle.resp_codec.specs.ReplyGrammar.{IsLine, IsReadableAlone, IsReadableTo}
use Rattle.resp_codec.specs.ReplyReading.{line_length, line_at, negative_at, integer_at, Head, Whole, Opens, whole, after_null, bulk_at, count_at, head_at, elements_at, reply_from, reply_at}
use Rattle.kv_types.proofs.ReplyLemmas.{text_of-Array}

-- ---- lines

IsLine-byte : (byte : ℕ) → (byte == 13 || byte == 10) ≡ false → (byte ≢ 13) × (byte ≢ 10)
IsLine-byte byte e =
    let parts = or_parts (byte == 13) (byte == 10) e in
    (eqb-false byte 13 parts.0, eqb-false byte 10 parts.1)

-- a text that runs up to the first CR or LF holds neither
pub IsLine-line_length : (text after : List ℕ) → line_length (text ++ after) ≡ length text → IsLine text
IsLine-line_length [] after e = tt
IsLine-line_length (byte ∷ text) after e =
    elim (chosen (byte == 13 || byte == 10) 0 (line_length (text ++ after) + 1) (suc (length text)) e) [
      | inl h ↦ absurd (omega (arith, h.1))
      | inr h ↦ (IsLine-byte byte h.0, IsLine-line_length text after (omega (arith, h.1)))
    ]

pub line_at-takes : (bytes text rest : List ℕ) → line_at bytes ≡ Ok (text, rest) → IsLine text × (bytes ≡ text ++ 13 ∷ 10 ∷ rest)
line_at-takes bytes text rest e =
    let found = payload_at-takes (line_length bytes) bytes text rest e in
    (IsLine-line_length text (13 ∷ 10 ∷ rest) (ap line_length (sym found.1) ∙ sym found.0), found.1)

-- ---- numbers

-- the text of an integer and its line end, before other bytes
integer_text : (z : ℤ) (rest : List ℕ) → signed_decimal z ++ 13 ∷ 10 ∷ rest ≡ (signed_decimal z ++ line_end) ++ rest
integer_text z rest = sym (append_assoc (signed_decimal z) line_end rest)

-- only the number 0 begins with the digit 0
pub positive : (n byte : ℕ) (bytes rest : List ℕ) → (byte == 48) ≡ false → byte ∷ bytes ≡ number_line n ++ rest → 0 < n
positive zero byte bytes rest other e =
    let zero_line : byte ∷ bytes ≡ 48 ∷ (13 ∷ 10 ∷ rest) = e ∙ ap (λ ds. (ds ++ line_end) ++ rest) (decimal_digit 0 (omega arith)) in
    let same : byte ≡ 48 = cc in
    absurd (eqb-false byte 48 other same)
positive (suc n) byte bytes rest other e = omega arith

pub number_fits : (most : ℕ) (fault : ProtocolFault) (bytes : List ℕ) (n : ℕ) (rest : List ℕ) → most < 2 ^ 64 → number_at most fault bytes ≡ Ok (n, rest) → n ≤ most
number_fits most fault bytes n rest small e = (number_at-takes most fault bytes n rest small e).0

pub number_positive : (byte : ℕ) (bytes : List ℕ) (n : ℕ) (rest : List ℕ) → (byte ≡ 48 → ⊥) → number_at (2 ^ 63) ExpectedLineEnd (byte ∷ bytes) ≡ Ok (n, rest) → 0 < n
number_positive byte bytes n rest other e =
    positive n byte bytes rest (ne_eqb byte 48 other) (number_at-takes (2 ^ 63) ExpectedLineEnd (byte ∷ bytes) n rest (lit< tt) e).1

pub negative_at-takes : (bytes : List ℕ) (z : ℤ) (rest : List ℕ) → negative_at bytes ≡ Ok (z, rest) → FitsSigned w64 z × (45 ∷ bytes ≡ signed_decimal z ++ 13 ∷ 10 ∷ rest)
negative_at-takes [] z rest e = absurd (cc)
negative_at-takes (byte ∷ bytes) z rest e =
    elim (chosen (byte == 48) (Err (Broken ExpectedLineEnd)) _ (Ok (z, rest)) e) [
      | inl h ↦ absurd (cc)
      | inr h ↦
          let read = bind_ok (λ n. Ok (negsuc (n.0 - 1), n.1)) (number_at (2 ^ 63) ExpectedLineEnd (byte ∷ bytes)) (z, rest) h.1 in
          let n = read.0.0 in
          let found = number_at-takes (2 ^ 63) ExpectedLineEnd (byte ∷ bytes) n read.0.1 (lit< tt) read.1 in
          let some : 0 < n = positive n byte bytes read.0.1 h.0 found.1 in
          let parts = ok_parts (negsuc (n - 1)) z read.0.1 rest read.2 in
          let same : suc (n - 1) ≡ n = omega arith in
          let fits : n - 1 < 2 ^ 63 = omega (arith, found.0) in
          subst (λ z. FitsSigned w64 z × (45 ∷ (byte ∷ bytes) ≡ signed_decimal z ++ 13 ∷ 10 ∷ rest)) parts.0
          (record { sfits = fits }, ap (λ b. 45 ∷ b) (found.1 ∙ number_line-append n read.0.1) ∙ ap (λ k. 45 ∷ (decimal k ++ 13 ∷ 10 ∷ read.0.1)) (sym same) ∙ ap (λ r. 45 ∷ (decimal (suc (n - 1)) ++ 13 ∷ 10 ∷ r)) parts.1)
    ]

pub integer_at-takes : (bytes : List ℕ) (z : ℤ) (rest : List ℕ) → integer_at bytes ≡ Ok (z, rest) → FitsSigned w64 z × (bytes ≡ signed_decimal z ++ 13 ∷ 10 ∷ rest)
integer_at-takes [] z rest e = absurd (cc)
integer_at-takes (byte ∷ bytes) z rest e =
    elim (chosen (byte == 45) (negative_at bytes) _ (Ok (z, rest)) e) [
      | inl h ↦
          let found = negative_at-takes bytes z rest h.1 in
          (found.0, ap (λ b. b ∷ bytes) (eqb-true byte 45 h.0) ∙ found.1)
      | inr h ↦
          let read = bind_ok (λ n. Ok (pos n.0, n.1)) (number_at (2 ^ 63 - 1) ExpectedLineEnd (byte ∷ bytes)) (z, rest) h.1 in
          let n = read.0.0 in
          let found = number_at-takes (2 ^ 63 - 1) ExpectedLineEnd (byte ∷ bytes) n read.0.1 (lit< tt) read.1 in
          let parts = ok_parts (pos n) z read.0.1 rest read.2 in
          let fits : n < 2 ^ 63 = omega (arith, found.0) in
          subst (λ z. FitsSigned w64 z × (byte ∷ bytes ≡ signed_decimal z ++ 13 ∷ 10 ∷ rest)) parts.0
          (record { sfits = fits }, found.1 ∙ number_line-append n read.0.1 ∙ ap (λ r. decimal n ++ 13 ∷ 10 ∷ r) parts.1)
    ]

-- ---- heads

-- the bytes of a head
abbrev pub head_text : Head → List ℕ
head_text (Whole reply) = text_of reply
head_text (Opens count) = 42 ∷ number_line count

-- a head within these bounds
abbrev pub IsReadableHead : ReplyLimits → ℕ → Head → Type 0
IsReadableHead limits most (Whole reply) = IsReadableAlone limits reply
IsReadableHead limits most (Opens count) = count ≤ most

-- a head read from these bytes
abbrev pub IsHead : ReplyLimits → ℕ → List ℕ → Head → List ℕ → Type 0
IsHead limits most bytes head rest = IsReadableHead limits most head × (bytes ≡ head_text head ++ rest)

after_null-takes : (bytes rest : List ℕ) → after_null bytes ≡ Ok rest → bytes ≡ 49 ∷ 13 ∷ 10 ∷ rest
after_null-takes bytes rest e =
    let one = bind_ok (λ one. after_byte 13 ExpectedLineEnd one >>= λ end. after_byte 10 ExpectedLineEnd end) (after_byte 49 ExpectedLineEnd bytes) rest e in
    let end = bind_ok (λ end. after_byte 10 ExpectedLineEnd end) (after_byte 13 ExpectedLineEnd one.0) rest one.2 in
    after_byte-takes 49 ExpectedLineEnd bytes one.0 one.1 ∙ ap (λ x. 49 ∷ x) (after_byte-takes 13 ExpectedLineEnd one.0 end.0 end.1 ∙ ap (λ x. 13 ∷ x) (after_byte-takes 10 ExpectedLineEnd end.0 rest end.2))

-- the readers behind the first byte give a head whose first byte it is
null_head-takes : (reply : Reply) (bytes : List ℕ) (head : Head) (rest : List ℕ) → (after_null bytes >>= λ rest. whole reply rest) ≡ Ok (head, rest) → (Whole reply ≡ head) × (bytes ≡ 49 ∷ 13 ∷ 10 ∷ rest)
null_head-takes reply bytes head rest e =
    let read = bind_ok (λ rest. whole reply rest) (after_null bytes) (head, rest) e in
    let parts = ok_parts (Whole reply) head read.0 rest read.2 in
    (parts.0, after_null-takes bytes read.0 read.1 ∙ ap (λ r. 49 ∷ 13 ∷ 10 ∷ r) parts.1)

bulk_at-takes : (limits : ReplyLimits) (most : ℕ) (bytes : List ℕ) (head : Head) (rest : List ℕ) → limits.bulk_bytes < 2 ^ 64 → bulk_at limits.bulk_bytes bytes ≡ Ok (head, rest) → IsHead limits most (36 ∷ bytes) head rest
bulk_at-takes limits most [] head rest small e = absurd (cc)
bulk_at-takes limits most (byte ∷ bytes) head rest small e =
    elim (chosen (byte == 45) (after_null bytes >>= λ rest. whole NullBulk rest) _ (Ok (head, rest)) e) [
      | inl h ↦
          let found = null_head-takes NullBulk bytes head rest h.1 in
          subst (λ head. IsHead limits most (36 ∷ (byte ∷ bytes)) head rest) found.0 (tt, ap (λ b. 36 ∷ (b ∷ bytes)) (eqb-true byte 45 h.0) ∙ ap (λ x. 36 ∷ 45 ∷ x) found.1)
      | inr h ↦
          let number = bind_ok (λ len. payload_at len.0 len.1 >>= λ word. whole (Bulk word.0) word.1) (number_at limits.bulk_bytes InvalidBulkLength (byte ∷ bytes)) (head, rest) h.1 in
          let len = number.0.0 in
          let payload = bind_ok (λ word. whole (Bulk word.0) word.1) (payload_at len number.0.1) (head, rest) number.2 in
          let word = payload.0.0 in
          let line = number_at-takes limits.bulk_bytes InvalidBulkLength (byte ∷ bytes) len number.0.1 small number.1 in
          let inside = payload_at-takes len number.0.1 word payload.0.1 payload.1 in
          let parts = ok_parts (Whole (Bulk word)) head payload.0.1 rest payload.2 in
          subst (λ head. IsHead limits most (36 ∷ (byte ∷ bytes)) head rest) parts.0 (
            omega (arith, line.0, inside.0),
            ap (λ x. 36 ∷ x) (line.1 ∙ ap (λ n. number_line n ++ number.0.1) (sym inside.0) ∙ ap (λ x. number_line (length word) ++ x) (inside.1 ∙ ap (λ r. word ++ 13 ∷ 10 ∷ r) parts.1)) ∙ sym (bulk-append word rest),
          )
    ]

count_at-takes : (limits : ReplyLimits) (most : ℕ) (bytes : List ℕ) (head : Head) (rest : List ℕ) → most < 2 ^ 64 → count_at most bytes ≡ Ok (head, rest) → IsHead limits most (42 ∷ bytes) head rest
count_at-takes limits most [] head rest small e = absurd (cc)
count_at-takes limits most (byte ∷ bytes) head rest small e =
    elim (chosen (byte == 45) (after_null bytes >>= λ rest. whole NullArray rest) _ (Ok (head, rest)) e) [
      | inl h ↦
          let found = null_head-takes NullArray bytes head rest h.1 in
          subst (λ head. IsHead limits most (42 ∷ (byte ∷ bytes)) head rest) found.0 (tt, ap (λ b. 42 ∷ (b ∷ bytes)) (eqb-true byte 45 h.0) ∙ ap (λ x. 42 ∷ 45 ∷ x) found.1)
      | inr h ↦
          let number = bind_ok (λ count. Ok (Opens count.0, count.1)) (number_at most InvalidMultibulkLength (byte ∷ bytes)) (head, rest) h.1 in
          let count = number.0.0 in
          let line = number_at-takes most InvalidMultibulkLength (byte ∷ bytes) count number.0.1 small number.1 in
          let parts = ok_parts (Opens count) head number.0.1 rest number.2 in
          subst (λ head. IsHead limits most (42 ∷ (byte ∷ bytes)) head rest) parts.0
          (line.0, ap (λ x. 42 ∷ x) (line.1 ∙ ap (λ r. number_line count ++ r) parts.1))
    ]

-- a line that makes a reply, after its first byte
abbrev IsLineReply : ReplyLimits → ℕ → (List ℕ → Reply) → Type 0
IsLineReply limits first former = ((text : List ℕ) → IsLine text → IsReadableAlone limits (former text)) × ((text : List ℕ) → text_of (former text) ≡ first ∷ text ++ line_end)

line_head-takes : (limits : ReplyLimits) (most first : ℕ) (former : List ℕ → Reply) (bytes : List ℕ) (head : Head) (rest : List ℕ) → IsLineReply limits first former → (line_at bytes >>= λ line. whole (former line.0) line.1) ≡ Ok (head, rest) → IsHead limits most (first ∷ bytes) head rest
line_head-takes limits most first former bytes head rest line e =
    let read = bind_ok (λ line. whole (former line.0) line.1) (line_at bytes) (head, rest) e in
    let text = read.0.0 in
    let found = line_at-takes bytes text read.0.1 read.1 in
    let parts = ok_parts (Whole (former text)) head read.0.1 rest read.2 in
    subst (λ head. IsHead limits most (first ∷ bytes) head rest) parts.0
    (line.0 text found.0, ap (λ x. first ∷ x) (found.1 ∙ ap (λ r. text ++ 13 ∷ 10 ∷ r) parts.1 ∙ sym (append_assoc text line_end rest)) ∙ ap (λ x. x ++ rest) (sym (line.1 text)))

integer_head-takes : (limits : ReplyLimits) (most : ℕ) (bytes : List ℕ) (head : Head) (rest : List ℕ) → (integer_at bytes >>= λ n. whole (Int n.0) n.1) ≡ Ok (head, rest) → IsHead limits most (58 ∷ bytes) head rest
integer_head-takes limits most bytes head rest e =
    let read = bind_ok (λ n. whole (Int n.0) n.1) (integer_at bytes) (head, rest) e in
    let z = read.0.0 in
    let found = integer_at-takes bytes z read.0.1 read.1 in
    let parts = ok_parts (Whole (Int z)) head read.0.1 rest read.2 in
    subst (λ head. IsHead limits most (58 ∷ bytes) head rest) parts.0
    (found.0, ap (λ x. 58 ∷ x) (found.1 ∙ ap (λ r. signed_decimal z ++ 13 ∷ 10 ∷ r) parts.1 ∙ integer_text z rest))

head_as : (limits : ReplyLimits) (most first byte : ℕ) (bytes : List ℕ) (head : Head) (rest : List ℕ) → (byte == first) ≡ true → IsHead limits most (first ∷ bytes) head rest → IsHead limits most (byte ∷ bytes) head rest
head_as limits most first byte bytes head rest same k = subst (λ b. IsHead limits most (b ∷ bytes) head rest) (sym (eqb-true byte first same)) k

pub head_at-takes : (limits : ReplyLimits) (most : ℕ) (bytes : List ℕ) (head : Head) (rest : List ℕ) → limits.bulk_bytes < 2 ^ 64 → most < 2 ^ 64 → head_at limits.bulk_bytes most bytes ≡ Ok (head, rest) → IsHead limits most bytes head rest
head_at-takes limits most [] head rest small few e = absurd (cc)
head_at-takes limits most (byte ∷ bytes) head rest small few e =
    elim (chosen (byte == 43) _ _ (Ok (head, rest)) e) [
      | inl h ↦ head_as limits most 43 byte bytes head rest h.0 (line_head-takes limits most 43 Simple bytes head rest (λ text k. k, λ text. refl) h.1)
      | inr simple ↦ elim (chosen (byte == 45) _ _ (Ok (head, rest)) simple.1) [
        | inl h ↦ head_as limits most 45 byte bytes head rest h.0 (line_head-takes limits most 45 Error bytes head rest (λ text k. k, λ text. refl) h.1)
        | inr error ↦ elim (chosen (byte == 58) _ _ (Ok (head, rest)) error.1) [
          | inl h ↦ head_as limits most 58 byte bytes head rest h.0 (integer_head-takes limits most bytes head rest h.1)
          | inr integer ↦ elim (chosen (byte == 36) _ _ (Ok (head, rest)) integer.1) [
            | inl h ↦ head_as limits most 36 byte bytes head rest h.0 (bulk_at-takes limits most bytes head rest small h.1)
            | inr sized ↦ elim (chosen (byte == 42) _ _ (Ok (head, rest)) sized.1) [
              | inl h ↦ head_as limits most 42 byte bytes head rest h.0 (count_at-takes limits most bytes head rest few h.1)
              | inr h ↦ absurd (cc)
            ]
          ]
        ]
      ]
    ]

-- ---- replies

-- replies read from these bytes
pub record AreReplies (Each : Reply → Type 0) (count : ℕ) (bytes : List ℕ) (replies : List Reply) (rest : List ℕ) : Type 0 where
  pub counted : length replies ≡ count
  pub each : AllByRecursion Each replies
  pub split : bytes ≡ flat_map text_of replies ++ rest

-- a reader takes the text of what it gives
abbrev pub Takes : (Reply → Type 0) → (List ℕ → Result (Read Reply) (Stop ProtocolFault)) → Type 0
Takes Each element = (bytes : List ℕ) (reply : Reply) (rest : List ℕ) → element bytes ≡ Ok (reply, rest) → Each reply × (bytes ≡ text_of reply ++ rest)

elements_at-takes : (Each : Reply → Type 0) (element : List ℕ → Result (Read Reply) (Stop ProtocolFault)) → Takes Each element → (count : ℕ) (bytes : List ℕ) (replies : List Reply) (rest : List ℕ) → elements_at element count bytes ≡ Ok (replies, rest) → AreReplies Each count bytes replies rest
elements_at-takes Each element takes zero bytes replies rest e =
    let parts = ok_parts [] replies bytes rest e in
    subst (λ replies. AreReplies Each zero bytes replies rest) parts.0 (record { counted = refl; each = tt; split = parts.1 })
elements_at-takes Each element takes (suc count) bytes replies rest e =
    let first = bind_ok (λ first. elements_at element count first.1 >>= λ others. Ok (first.0 ∷ others.0, others.1)) (element bytes) (replies, rest) e in
    let others = bind_ok (λ others. Ok (first.0.0 ∷ others.0, others.1)) (elements_at element count first.0.1) (replies, rest) first.2 in
    let one = takes bytes first.0.0 first.0.1 first.1 in
    let more = elements_at-takes Each element takes count first.0.1 others.0.0 others.0.1 others.1 in
    let parts = ok_parts (first.0.0 ∷ others.0.0) replies others.0.1 rest others.2 in
    subst (λ replies. AreReplies Each (suc count) bytes replies rest) parts.0
    (record {
      counted = ap suc more.counted;
      each = (one.0, more.each);
      split = one.1 ∙ ap (λ b. text_of first.0.0 ++ b) (more.split ∙ ap (λ r. flat_map text_of others.0.0 ++ r) parts.1) ∙ sym (append_assoc (text_of first.0.0) (flat_map text_of others.0.0) rest);
    })

-- the text of an array, from its head and its replies
array_split : (bytes inside rest : List ℕ) (count : ℕ) (replies : List Reply) → length replies ≡ count → bytes ≡ (42 ∷ number_line count) ++ inside → inside ≡ flat_map text_of replies ++ rest → bytes ≡ text_of (Array replies) ++ rest
array_split bytes inside rest count replies counted head split =
    head ∙ ap (λ x. (42 ∷ number_line count) ++ x) split ∙ ap (λ n. (42 ∷ number_line n) ++ (flat_map text_of replies ++ rest)) (sym counted)
    ∙ sym (append_assoc (42 ∷ number_line (length replies)) (flat_map text_of replies) rest) ∙ ap (λ x. x ++ rest) (sym (text_of-Array replies))

-- what a depth allows of a reply of its own, and of an array
abbrev Allows : ReplyLimits → ℕ → (Each : Reply → Type 0) → (Reply → Type 0) → Type 0
Allows limits most Each Is = ((reply : Reply) → IsReadableAlone limits reply → Is reply) × ((replies : List Reply) → length replies ≤ most → AllByRecursion Each replies → Is (Array replies))

reply_from-takes : (limits : ReplyLimits) (most : ℕ) (Each Is : Reply → Type 0) (element : List ℕ → Result (Read Reply) (Stop ProtocolFault)) → Takes Each element → Allows limits most Each Is → (head : Head) (bytes inside : List ℕ) (reply : Reply) (rest : List ℕ) → IsHead limits most bytes head inside → reply_from element head inside ≡ Ok (reply, rest) → Is reply × (bytes ≡ text_of reply ++ rest)
reply_from-takes limits most Each Is element takes allows (Whole whole) bytes inside reply rest is e =
    let parts = ok_parts whole reply inside rest e in
    subst (λ reply. Is reply × (bytes ≡ text_of reply ++ rest)) parts.0 (allows.0 whole is.0, is.1 ∙ ap (λ r. text_of whole ++ r) parts.1)
reply_from-takes limits most Each Is element takes allows (Opens count) bytes inside reply rest is e =
    let read = bind_ok (λ replies. Ok (Array replies.0, replies.1)) (elements_at element count inside) (reply, rest) e in
    let found = elements_at-takes Each element takes count inside read.0.0 read.0.1 read.1 in
    let parts = ok_parts (Array read.0.0) reply read.0.1 rest read.2 in
    subst (λ reply. Is reply × (bytes ≡ text_of reply ++ rest)) parts.0
    (allows.1 read.0.0 (omega (arith, found.counted, is.0)) found.each, array_split bytes inside rest count read.0.0 found.counted is.1 (found.split ∙ ap (λ r. flat_map text_of read.0.0 ++ r) parts.1))

-- limits whose numbers are read with 64 bits
pub record HasReplyNumbers (limits : ReplyLimits) : Type 0 where
  pub elements : limits.elements < 2 ^ 64
  pub bulk_bytes : limits.bulk_bytes < 2 ^ 64

pub no_replies : (replies : List Reply) → length replies ≤ 0 → replies ≡ []
no_replies [] h = refl
no_replies (reply ∷ replies) h = absurd (omega arith)

pub reply_at-takes : (limits : ReplyLimits) → HasReplyNumbers limits → (depth : ℕ) → Takes (IsReadableTo limits depth) (reply_at limits depth)
reply_at-takes limits numbers zero bytes reply rest e =
    let head = bind_ok (λ head. reply_from (λ rest. Err Short) head.0 head.1) (head_at limits.bulk_bytes 0 bytes) (reply, rest) e in
    reply_from-takes limits 0 (λ reply. ⊥) (IsReadableTo limits zero) (λ rest. Err Short) (λ bytes reply rest e. absurd (cc))
    (λ reply alone. inl alone, λ replies none each. inr (ap Array (no_replies replies none)))
    head.0.0 bytes head.0.1 reply rest (head_at-takes limits 0 bytes head.0.0 head.0.1 numbers.bulk_bytes (omega arith) head.1) head.2
reply_at-takes limits numbers (suc depth) bytes reply rest e =
    let head = bind_ok (λ head. reply_from (reply_at limits depth) head.0 head.1) (head_at limits.bulk_bytes limits.elements bytes) (reply, rest) e in
    reply_from-takes limits limits.elements (IsReadableTo limits depth) (IsReadableTo limits (suc depth)) (reply_at limits depth) (reply_at-takes limits numbers depth)
    (λ reply alone. inl alone, λ replies count each. inr (record { replies = replies; is = refl; count = count; each = each }))
    head.0.0 bytes head.0.1 reply rest (head_at-takes limits limits.elements bytes head.0.0 head.0.1 numbers.bulk_bytes numbers.elements head.1) head.2

-- ---- read back
