-- The text of a reply that can be read is read back, whatever follows it.
use Rattle.std.proofs.Common.{◌≡◌, ℕ, zero, suc, ◌+◌, ◌-◌, ◌^◌, ◌<◌, ◌≤◌, ℤ, pos, negsuc, false, ◌||◌, ◌==◌, inl, inr, List, [], ◌∷◌, ◌++◌, length, flat_map, Result, Ok, Err, refl, ap, sym}
use Rattle.std.proofs.Common.{◌∙◌, append_assoc, lit<, arith, FitsSigned, ◌*◌, ◌&&◌, nat_lt, nat_le}
use Rattle.std.proofs.lemmas.Bool.{ne_eqb, ltb-true, and_parts, or_from, cond-false}
use Rattle.std.specs.Int.{w64}
use Rattle.std.specs.List.{AllByRecursion}
use Rattle.std.specs.Fmt.{signed_decimal}
use Rattle.kv_types.specs.declared.item.ProtocolFault.{ProtocolFault}
use Rattle.kv_types.specs.declared.item.ProtocolFault.TheVariants.{InvalidMultibulkLength, InvalidBulkLength, ExpectedLineEnd}
use Rattle.kv_types.specs.declared.reply.Reply.{Reply, Simple, Error, Int, Bulk, NullBulk, Array, NullArray, Array'}
use Rattle.kv_types.specs.Request.{line_end, number_line}
use Rattle.kv_types.specs.Reply.{text_of}
use Rattle.kv_types.specs.declared.stop.Stop.{Stop}
use Rattle.kv_types.specs.declared.stop.Stop.TheVariants.{Short, Broken}
use Rattle.kv_types.specs.Reader.{Read, ◌>>=◌}
use Rattle.kv_types.specs.Reading.{after_byte, number_at, payload_at, is_digit, with_line_feed, number_from}
use Rattle.kv_types.proofs.ReaderLemmas.{bind_ok, ok_parts}
use Rattle.kv_types.proofs.GrammarSteps.{chosen}
use Rattle.kv_types.proofs.GrammarNumbers.{number_line-append, number_at-number_line}
use Rattle.kv_types.proofs.GrammarWords.{bulk-append, payload_at-behind}
use Rattle.resp_codec.specs.declared.reply_limits.ReplyLimits.{ReplyLimits}
use Rattle.resp_codec.specs.ReplyGrammar.{IsLine, IsReadableAlone, IsReadableTo}
use Rattle.resp_codec.specs.ReplyReading.{line_length, line_at, negative_at, integer_at, Whole, Opens, whole, bulk_at, count_at, head_at, elements_at, reply_from, reply_at}
use Rattle.resp_codec.proofs.ReplyTakes.{HasReplyNumbers}
use Rattle.kv_types.proofs.ReplyLemmas.{text_of-Array}

-- ---- lines

line_length-line : (text after : List ℕ) → IsLine text → line_length (text ++ 13 ∷ after) ≡ length text
line_length-line [] after h = refl
line_length-line (byte ∷ text) after h =
    cond-false (byte == 13 || byte == 10) _ _ (or_from _ _ (ne_eqb byte 13 h.0.0) (ne_eqb byte 10 h.0.1)) ∙ omega (arith, line_length-line text after h.1)

pub line_at-again : (text rest : List ℕ) → IsLine text → line_at (text ++ 13 ∷ 10 ∷ rest) ≡ Ok (text, rest)
line_at-again text rest h =
    ap (λ n. payload_at n (text ++ 13 ∷ 10 ∷ rest)) (line_length-line text (10 ∷ rest) h) ∙ payload_at-behind (length text) text (13 ∷ 10 ∷ rest) refl

-- ---- numbers

-- a number does not begin with '-'
not_minus : (most : ℕ) (fault : ProtocolFault) (byte : ℕ) (bytes : List ℕ) (n : ℕ) (rest : List ℕ) → number_at most fault (byte ∷ bytes) ≡ Ok (n, rest) → (byte == 45) ≡ false
not_minus most fault byte bytes n rest e =
    ne_eqb byte 45 (λ same.
    let broken : ◌≡◌ {A = Result (Read ℕ) (Stop ProtocolFault)} (Err (Broken fault)) (Ok (n, rest)) = sym (ap (λ b. number_at most fault (b ∷ bytes)) same) ∙ e in
    absurd (cc))

-- a number that begins with the digit 0 is 0
zero_number : (bytes : List ℕ) (n : ℕ) (rest : List ℕ) → number_from (2 ^ 63) ExpectedLineEnd 0 bytes ≡ Ok (n, rest) → n ≡ 0
zero_number [] n rest e = absurd (cc)
zero_number (byte ∷ bytes) n rest e =
    elim (chosen (byte == 13) (with_line_feed ExpectedLineEnd 0 bytes) _ (Ok (n, rest)) e) [
      | inl h ↦
          let step = bind_ok (λ rest. Ok (0, rest)) (after_byte 10 ExpectedLineEnd bytes) (n, rest) h.1 in
          sym (ok_parts 0 n step.0 rest step.2).0
      | inr h ↦ elim (chosen (is_digit byte && nat_lt 0 0 && nat_le (10 * 0 + (byte - 48)) (2 ^ 63)) _ _ (Ok (n, rest)) h.1) [
        | inl k ↦
            let parts = and_parts (is_digit byte && nat_lt 0 0) (nat_le (10 * 0 + (byte - 48)) (2 ^ 63)) k.0 in
            let none = and_parts (is_digit byte) (nat_lt 0 0) parts.0 in
            absurd (omega (arith, ltb-true 0 0 none.1))
        | inr k ↦ absurd (cc)
      ]
    ]

not_zero : (byte : ℕ) (bytes : List ℕ) (n : ℕ) (rest : List ℕ) → 0 < n → number_at (2 ^ 63) ExpectedLineEnd (byte ∷ bytes) ≡ Ok (n, rest) → (byte == 48) ≡ false
not_zero byte bytes n rest some e =
    ne_eqb byte 48 (λ same.
    let read : number_from (2 ^ 63) ExpectedLineEnd 0 bytes ≡ Ok (n, rest) = sym (ap (λ b. number_at (2 ^ 63) ExpectedLineEnd (b ∷ bytes)) same) ∙ e in
    absurd (omega (arith, zero_number bytes n rest read)))

negative_from : (bytes : List ℕ) (n : ℕ) (rest : List ℕ) → number_at (2 ^ 63) ExpectedLineEnd bytes ≡ Ok (suc n, rest) → negative_at bytes ≡ Ok (negsuc n, rest)
negative_from [] n rest e = absurd (cc)
negative_from (byte ∷ bytes) n rest e =
    let last : suc n - 1 ≡ n = omega arith in
    cond-false (byte == 48) _ _ (not_zero byte bytes (suc n) rest (omega arith) e) ∙ ap (λ r. r >>= λ n. Ok (negsuc (n.0 - 1), n.1)) e ∙ ap (λ k. Ok (negsuc k, rest)) last

integer_from : (bytes : List ℕ) (n : ℕ) (rest : List ℕ) → number_at (2 ^ 63 - 1) ExpectedLineEnd bytes ≡ Ok (n, rest) → integer_at bytes ≡ Ok (pos n, rest)
integer_from [] n rest e = absurd (cc)
integer_from (byte ∷ bytes) n rest e =
    cond-false (byte == 45) _ _ (not_minus (2 ^ 63 - 1) ExpectedLineEnd byte bytes n rest e) ∙ ap (λ r. r >>= λ n. Ok (pos n.0, n.1)) e

pub integer_read : (bytes : List ℕ) (n : ℕ) (z : ℤ) (rest : List ℕ) → number_at (2 ^ 63 - 1) ExpectedLineEnd bytes ≡ Ok (n, rest) → z ≡ pos n → integer_at bytes ≡ Ok (z, rest)
integer_read bytes n z rest e same = integer_from bytes n rest e ∙ ap (λ z. Ok (z, rest)) (sym same)

pub integer_at-again : (z : ℤ) (rest : List ℕ) → FitsSigned w64 z → integer_at (signed_decimal z ++ 13 ∷ 10 ∷ rest) ≡ Ok (z, rest)
integer_at-again (pos n) rest h =
    let fits : n < 2 ^ 63 = h.sfits in
    ap integer_at (sym (number_line-append n rest)) ∙ integer_from (number_line n ++ rest) n rest (number_at-number_line (2 ^ 63 - 1) ExpectedLineEnd n rest (lit< tt) (omega (arith, fits)))
integer_at-again (negsuc n) rest h =
    let fits : n < 2 ^ 63 = h.sfits in
    ap negative_at (sym (number_line-append (suc n) rest)) ∙ negative_from (number_line (suc n) ++ rest) n rest (number_at-number_line (2 ^ 63) ExpectedLineEnd (suc n) rest (lit< tt) (omega (arith, fits)))

-- ---- heads

bulk_from : (most : ℕ) (bytes : List ℕ) (n : ℕ) (rest : List ℕ) → number_at most InvalidBulkLength bytes ≡ Ok (n, rest) → bulk_at most bytes ≡ (payload_at n rest >>= λ word. whole (Bulk word.0) word.1)
bulk_from most [] n rest e = absurd (cc)
bulk_from most (byte ∷ bytes) n rest e =
    cond-false (byte == 45) _ _ (not_minus most InvalidBulkLength byte bytes n rest e) ∙ ap (λ r. r >>= λ len. payload_at len.0 len.1 >>= λ word. whole (Bulk word.0) word.1) e

count_from : (most : ℕ) (bytes : List ℕ) (n : ℕ) (rest : List ℕ) → number_at most InvalidMultibulkLength bytes ≡ Ok (n, rest) → count_at most bytes ≡ Ok (Opens n, rest)
count_from most [] n rest e = absurd (cc)
count_from most (byte ∷ bytes) n rest e =
    cond-false (byte == 45) _ _ (not_minus most InvalidMultibulkLength byte bytes n rest e) ∙ ap (λ r. r >>= λ count. Ok (Opens count.0, count.1)) e

line_head-again : (former : List ℕ → Reply) (text rest : List ℕ) → IsLine text → (line_at ((text ++ line_end) ++ rest) >>= λ line. whole (former line.0) line.1) ≡ Ok (Whole (former text), rest)
line_head-again former text rest h =
    ap (λ bytes. line_at bytes >>= λ line. whole (former line.0) line.1) (append_assoc text line_end rest) ∙ ap (λ r. r >>= λ line. whole (former line.0) line.1) (line_at-again text rest h)

pub head_at-again : (limits : ReplyLimits) (most : ℕ) (reply : Reply) (rest : List ℕ) → HasReplyNumbers limits → IsReadableAlone limits reply → head_at limits.bulk_bytes most (text_of reply ++ rest) ≡ Ok (Whole reply, rest)
head_at-again limits most (Simple text) rest numbers h = line_head-again Simple text rest h
head_at-again limits most (Error text) rest numbers h = line_head-again Error text rest h
head_at-again limits most (Int z) rest numbers h =
    ap (λ bytes. integer_at bytes >>= λ n. whole (Int n.0) n.1) (append_assoc (signed_decimal z) line_end rest) ∙ ap (λ r. r >>= λ n. whole (Int n.0) n.1) (integer_at-again z rest h)
head_at-again limits most (Bulk word) rest numbers h =
    let after = word ++ 13 ∷ 10 ∷ rest in
    let line = number_at-number_line limits.bulk_bytes InvalidBulkLength (length word) after numbers.bulk_bytes h in
    ap (head_at limits.bulk_bytes most) (bulk-append word rest) ∙ bulk_from limits.bulk_bytes (number_line (length word) ++ after) (length word) after line
    ∙ ap (λ r. r >>= λ word. whole (Bulk word.0) word.1) (payload_at-behind (length word) word (13 ∷ 10 ∷ rest) refl)
head_at-again limits most NullBulk rest numbers h = refl
head_at-again limits most (Array' shape replies) rest numbers h = absurd h
head_at-again limits most NullArray rest numbers h = refl

pub opens-again : (bulk_bytes most count : ℕ) (rest : List ℕ) → most < 2 ^ 64 → count ≤ most → head_at bulk_bytes most ((42 ∷ number_line count) ++ rest) ≡ Ok (Opens count, rest)
opens-again bulk_bytes most count rest small fits =
    count_from most (number_line count ++ rest) count rest (number_at-number_line most InvalidMultibulkLength count rest small fits)

-- ---- replies

-- a reader reads back the texts of such replies
abbrev pub ReadsBack : (Reply → Type 0) → (List ℕ → Result (Read Reply) (Stop ProtocolFault)) → Type 0
ReadsBack Each element = (reply : Reply) (rest : List ℕ) → Each reply → element (text_of reply ++ rest) ≡ Ok (reply, rest)

pub elements_at-again : (Each : Reply → Type 0) (element : List ℕ → Result (Read Reply) (Stop ProtocolFault)) → ReadsBack Each element → (replies : List Reply) (rest : List ℕ) → AllByRecursion Each replies → elements_at element (length replies) (flat_map text_of replies ++ rest) ≡ Ok (replies, rest)
elements_at-again Each element again [] rest h = refl
elements_at-again Each element again (reply ∷ replies) rest h =
    ap (elements_at element (suc (length replies))) (append_assoc (text_of reply) (flat_map text_of replies) rest)
    ∙ ap (λ r. r >>= λ first. elements_at element (length replies) first.1 >>= λ others. Ok (first.0 ∷ others.0, others.1)) (again reply (flat_map text_of replies ++ rest) h.0)
    ∙ ap (λ r. r >>= λ others. Ok (reply ∷ others.0, others.1)) (elements_at-again Each element again replies rest h.1)

array-again : (bulk_bytes most : ℕ) (Each : Reply → Type 0) (element : List ℕ → Result (Read Reply) (Stop ProtocolFault)) → ReadsBack Each element → most < 2 ^ 64 → (replies : List Reply) (rest : List ℕ) → length replies ≤ most → AllByRecursion Each replies → (head_at bulk_bytes most (text_of (Array replies) ++ rest) >>= λ head. reply_from element head.0 head.1) ≡ Ok (Array replies, rest)
array-again bulk_bytes most Each element again small replies rest count each =
    let split : text_of (Array replies) ++ rest ≡ (42 ∷ number_line (length replies)) ++ (flat_map text_of replies ++ rest) =
    ap (λ x. x ++ rest) (text_of-Array replies) ∙ append_assoc (42 ∷ number_line (length replies)) (flat_map text_of replies) rest in
    ap (λ bytes. head_at bulk_bytes most bytes >>= λ head. reply_from element head.0 head.1) split
    ∙ ap (λ r. r >>= λ head. reply_from element head.0 head.1) (opens-again bulk_bytes most (length replies) (flat_map text_of replies ++ rest) small count)
    ∙ ap (λ r. r >>= λ replies. Ok (Array replies.0, replies.1)) (elements_at-again Each element again replies rest each)

pub reply_at-again : (limits : ReplyLimits) → HasReplyNumbers limits → (depth : ℕ) → ReadsBack (IsReadableTo limits depth) (reply_at limits depth)
reply_at-again limits numbers zero reply rest h =
    elim h [
      | inl alone ↦ ap (λ r. r >>= λ head. reply_from (λ rest. Err Short) head.0 head.1) (head_at-again limits 0 reply rest numbers alone)
      | inr empty ↦
          ap (λ reply. reply_at limits zero (text_of reply ++ rest)) empty
          ∙ array-again limits.bulk_bytes 0 (λ reply. ⊥) (λ rest. Err Short) (λ reply rest none. absurd none) (omega arith) [] rest (omega arith) tt
          ∙ ap (λ reply. Ok (reply, rest)) (sym empty)
    ]
reply_at-again limits numbers (suc depth) reply rest h =
    elim h [
      | inl alone ↦ ap (λ r. r >>= λ head. reply_from (reply_at limits depth) head.0 head.1) (head_at-again limits limits.elements reply rest numbers alone)
      | inr array ↦
          ap (λ reply. reply_at limits (suc depth) (text_of reply ++ rest)) array.is
          ∙ array-again limits.bulk_bytes limits.elements (IsReadableTo limits depth) (reply_at limits depth) (reply_at-again limits numbers depth) numbers.elements array.replies rest array.count array.each
          ∙ ap (λ reply. Ok (reply, rest)) (sym array.is)
    ]
