-- Bytes that are too short for a reply begin the text of one.
use Rattle.std.proofs.Common.{◌≡◌, ℕ, zero, suc, ◌-◌, ◌^◌, ◌<◌, ◌≤◌, ℤ, pos, negsuc, true, ◌==◌, nat_lt, inl, inr, List, [], ◌∷◌, ◌++◌, length, take, drop, replicate, flat_map, Result, Ok, Err, refl, ap, sym, subst, ◌∙◌, append_assoc, append-nil, lit<, arith, FitsSigned}
use Rattle.std.proofs.lemmas.List.{length-replicate, length-take-le, take-append-drop}
use Rattle.std.proofs.lemmas.Bool.{eqb-true, ltb-true}
use Rattle.std.specs.Int.{w64}
use Rattle.std.specs.List.{AllByRecursion}
use Rattle.std.specs.Fmt.{decimal, signed_decimal}
use Rattle.kv_types.specs.declared.item.ProtocolFault.{ProtocolFault}
use Rattle.kv_types.specs.declared.item.ProtocolFault.TheVariants.{InvalidMultibulkLength, InvalidBulkLength, ExpectedLineEnd}
use Rattle.kv_types.specs.declared.limits.Limits.{Limits}
use Rattle.kv_types.specs.declared.reply.Reply.{Reply, Simple, Error, Int, Bulk, NullBulk, Array, NullArray}
use Rattle.kv_types.specs.Request.{line_end, number_line, IsProperPrefix}
use Rattle.kv_types.specs.Reply.{text_of}
use Rattle.kv_types.specs.declared.stop.Stop.{Stop}
use Rattle.kv_types.specs.declared.stop.Stop.TheVariants.{Short, Broken}
use Rattle.kv_types.specs.Reader.{Read, ◌>>=◌}
use Rattle.kv_types.specs.Reading.{after_byte, number_at, payload_at}
use Rattle.kv_types.proofs.ReaderLemmas.{bind_err}
use Rattle.kv_types.proofs.GrammarSteps.{chosen, after_byte-takes, after_byte-short}
use Rattle.kv_types.proofs.GrammarNumbers.{number_at-short}
use Rattle.kv_types.proofs.GrammarWords.{line_end_after, line_end_after-short, word_at-short}
use Rattle.resp_codec.specs.declared.reply_limits.ReplyLimits.{ReplyLimits}
use Rattle.resp_codec.specs.ReplyGrammar.{IsLine, IsReadableTo}
use Rattle.resp_codec.specs.ReplyReading.{line_length, line_at, negative_at, integer_at, Head, Whole, Opens, whole, after_null, bulk_at, count_at, head_at, elements_at, reply_from, reply_at}
use Rattle.resp_codec.proofs.ReplyGrows.{line_length-le}
use Rattle.resp_codec.proofs.ReplyTakes.{IsLine-line_length, positive, head_text, IsReadableHead, head_at-takes, Takes, HasReplyNumbers, reply_at-takes}
use Rattle.kv_types.proofs.ReplyLemmas.{text_of-Array}

-- the whole begins with the bytes
pub record IsStartOf (whole bytes : List ℕ) : Type 0 where
  pub more : List ℕ
  pub joined : bytes ++ more ≡ whole

IsStartOf-prefix : {whole bytes : List ℕ} → IsProperPrefix bytes whole → IsStartOf whole bytes
IsStartOf-prefix p = record { more = p.byte ∷ p.rest; joined = p.joined }

IsStartOf-none : (whole : List ℕ) → IsStartOf whole []
IsStartOf-none whole = record { more = whole; joined = refl }

IsStartOf-behind : {whole bytes : List ℕ} (before : List ℕ) → IsStartOf whole bytes → IsStartOf (before ++ whole) (before ++ bytes)
IsStartOf-behind {whole} {bytes} before s = record { more = s.more; joined = append_assoc before bytes s.more ∙ ap (λ x. before ++ x) s.joined }

IsStartOf-append : {whole bytes : List ℕ} (after : List ℕ) → IsStartOf whole bytes → IsStartOf (whole ++ after) bytes
IsStartOf-append {whole} {bytes} after s = record { more = s.more ++ after; joined = sym (append_assoc bytes s.more after) ∙ ap (λ x. x ++ after) s.joined }

IsStartOf-same : {whole whole' bytes bytes' : List ℕ} → whole ≡ whole' → bytes' ≡ bytes → IsStartOf whole bytes → IsStartOf whole' bytes'
IsStartOf-same same start s = record { more = s.more; joined = ap (λ b. b ++ s.more) start ∙ s.joined ∙ same }

-- ---- lines

line_at-short : (bytes : List ℕ) → line_at bytes ≡ Err Short → (text : List ℕ) × IsLine text × IsStartOf (text ++ line_end) bytes
line_at-short bytes e =
    let n = line_length bytes in
    elim (chosen (nat_lt (length bytes) n) (Err Short) (line_end_after (take n bytes) (drop n bytes)) (Err Short) e) [
      | inl h ↦ absurd (omega (arith, ltb-true (length bytes) n h.0, line_length-le bytes))
      | inr h ↦
          let parts = take-append-drop n bytes in
          let end = IsStartOf-behind (take n bytes) (IsStartOf-prefix (line_end_after-short (take n bytes) (drop n bytes) h.1)) in
          (take n bytes, IsLine-line_length (take n bytes) (drop n bytes) (ap line_length parts ∙ sym (length-take-le n bytes (line_length-le bytes))), IsStartOf-same refl (sym parts) end)
    ]

after_null-short : (bytes : List ℕ) → after_null bytes ≡ Err Short → IsStartOf (49 ∷ line_end) bytes
after_null-short bytes e =
    elim (bind_err (λ one. after_byte 13 ExpectedLineEnd one >>= λ end. after_byte 10 ExpectedLineEnd end) (after_byte 49 ExpectedLineEnd bytes) Short e) [
      | inl h ↦ IsStartOf-same refl (after_byte-short 49 ExpectedLineEnd bytes h) (IsStartOf-none (49 ∷ line_end))
      | inr h ↦ elim (bind_err (λ end. after_byte 10 ExpectedLineEnd end) (after_byte 13 ExpectedLineEnd h.0) Short h.2) [
        | inl k ↦
            IsStartOf-same refl (after_byte-takes 49 ExpectedLineEnd bytes h.0 h.1 ∙ ap (λ x. 49 ∷ x) (after_byte-short 13 ExpectedLineEnd h.0 k)) (record { more = line_end; joined = refl })
        | inr k ↦
            IsStartOf-same refl
            (after_byte-takes 49 ExpectedLineEnd bytes h.0 h.1 ∙ ap (λ x. 49 ∷ x) (after_byte-takes 13 ExpectedLineEnd h.0 k.0 k.1 ∙ ap (λ x. 13 ∷ x) (after_byte-short 10 ExpectedLineEnd k.0 k.2)))
            (record { more = 10 ∷ []; joined = refl })
      ]
    ]

-- what is made of a value that was read is too short only where the reading is
bind_short : {A B : Type 0} (f : A → B) (read : Result A (Stop ProtocolFault)) → (read >>= λ x. Ok (f x)) ≡ Err Short → read ≡ Err Short
bind_short f (Ok x) e = absurd (cc)
bind_short f (Err stop) e = let same : stop ≡ Short = cc in ap Err same

-- ---- numbers

negative_at-short : (bytes : List ℕ) → negative_at bytes ≡ Err Short → (n : ℕ) × (n < 2 ^ 63) × IsStartOf (decimal (suc n) ++ line_end) bytes
negative_at-short [] e = (0, lit< tt, IsStartOf-none (decimal 1 ++ line_end))
negative_at-short (byte ∷ bytes) e =
    elim (chosen (byte == 48) (Err (Broken ExpectedLineEnd)) _ (Err Short) e) [
      | inl h ↦ absurd (cc)
      | inr h ↦
          let k = bind_short (λ n. (negsuc (n.0 - 1), n.1)) (number_at (2 ^ 63) ExpectedLineEnd (byte ∷ bytes)) h.1 in
          let found = number_at-short (2 ^ 63) ExpectedLineEnd (byte ∷ bytes) (lit< tt) k in
          let n = found.0 in
          let prefix = found.2 in
          let some : 0 < n = positive n byte (bytes ++ prefix.byte ∷ prefix.rest) [] h.0 (prefix.joined ∙ sym (append-nil (number_line n))) in
          let same : n ≡ suc (n - 1) = omega arith in
          (n - 1, omega (arith, found.1), IsStartOf-same (ap (λ k. decimal k ++ line_end) same) refl (IsStartOf-prefix prefix))
    ]

integer_at-short : (bytes : List ℕ) → integer_at bytes ≡ Err Short → (z : ℤ) × FitsSigned w64 z × IsStartOf (signed_decimal z ++ line_end) bytes
integer_at-short [] e = (pos 0, record { sfits = lit< tt }, IsStartOf-none (signed_decimal (pos 0) ++ line_end))
integer_at-short (byte ∷ bytes) e =
    elim (chosen (byte == 45) (negative_at bytes) _ (Err Short) e) [
      | inl h ↦
          let found = negative_at-short bytes h.1 in
          (negsuc found.0, record { sfits = found.1 }, IsStartOf-same refl (ap (λ b. b ∷ bytes) (eqb-true byte 45 h.0)) (IsStartOf-behind (45 ∷ []) found.2))
      | inr h ↦
          let k = bind_short (λ n. (pos n.0, n.1)) (number_at (2 ^ 63 - 1) ExpectedLineEnd (byte ∷ bytes)) h.1 in
          let found = number_at-short (2 ^ 63 - 1) ExpectedLineEnd (byte ∷ bytes) (lit< tt) k in
          let fits : found.0 < 2 ^ 63 = omega (arith, found.1) in
          (pos found.0, record { sfits = fits }, IsStartOf-prefix found.2)
    ]

-- ---- heads

-- the bytes begin the text of a head
abbrev BeginsHead : ReplyLimits → ℕ → List ℕ → Type 0
BeginsHead limits most bytes = (head : Head) × IsReadableHead limits most head × IsStartOf (head_text head) bytes

null_head-short : (reply : Reply) (bytes : List ℕ) → (after_null bytes >>= λ rest. whole reply rest) ≡ Err Short → IsStartOf (49 ∷ line_end) bytes
null_head-short reply bytes e = after_null-short bytes (bind_short (λ rest. (Whole reply, rest)) (after_null bytes) e)

word_short : (read : Result (Read ℕ) (Stop ProtocolFault)) → (read >>= λ len. payload_at len.0 len.1 >>= λ word. whole (Bulk word.0) word.1) ≡ Err Short → (read >>= λ len. payload_at len.0 len.1) ≡ Err Short
word_short (Err stop) e = let same : stop ≡ Short = cc in ap Err same
word_short (Ok len) e = bind_short (λ word. (Whole (Bulk word.0), word.1)) (payload_at len.0 len.1) e

bulk_at-short : (limits : ReplyLimits) (most : ℕ) (bytes : List ℕ) → limits.bulk_bytes < 2 ^ 64 → bulk_at limits.bulk_bytes bytes ≡ Err Short → BeginsHead limits most (36 ∷ bytes)
bulk_at-short limits most [] small e = (Whole NullBulk, tt, record { more = 45 ∷ 49 ∷ line_end; joined = refl })
bulk_at-short limits most (byte ∷ bytes) small e =
    elim (chosen (byte == 45) (after_null bytes >>= λ rest. whole NullBulk rest) _ (Err Short) e) [
      | inl h ↦
          (Whole NullBulk, tt, IsStartOf-same refl (ap (λ b. 36 ∷ (b ∷ bytes)) (eqb-true byte 45 h.0)) (IsStartOf-behind (36 ∷ 45 ∷ []) (null_head-short NullBulk bytes h.1)))
      | inr h ↦
          let words : Limits = record { words = 0; word_bytes = limits.bulk_bytes } in
          let found = word_at-short words (36 ∷ (byte ∷ bytes)) small (word_short (number_at limits.bulk_bytes InvalidBulkLength (byte ∷ bytes)) h.1) in
          (Whole (Bulk found.0), found.1, IsStartOf-prefix found.2)
    ]

count_at-short : (limits : ReplyLimits) (most : ℕ) (bytes : List ℕ) → most < 2 ^ 64 → count_at most bytes ≡ Err Short → BeginsHead limits most (42 ∷ bytes)
count_at-short limits most [] small e = (Whole NullArray, tt, record { more = 45 ∷ 49 ∷ line_end; joined = refl })
count_at-short limits most (byte ∷ bytes) small e =
    elim (chosen (byte == 45) (after_null bytes >>= λ rest. whole NullArray rest) _ (Err Short) e) [
      | inl h ↦
          (Whole NullArray, tt, IsStartOf-same refl (ap (λ b. 42 ∷ (b ∷ bytes)) (eqb-true byte 45 h.0)) (IsStartOf-behind (42 ∷ 45 ∷ []) (null_head-short NullArray bytes h.1)))
      | inr h ↦
          let k = bind_short (λ count. (Opens count.0, count.1)) (number_at most InvalidMultibulkLength (byte ∷ bytes)) h.1 in
          let found = number_at-short most InvalidMultibulkLength (byte ∷ bytes) small k in
          (Opens found.0, found.1, IsStartOf-behind (42 ∷ []) (IsStartOf-prefix found.2))
    ]

begins_as : (limits : ReplyLimits) (most first byte : ℕ) (bytes : List ℕ) → (byte == first) ≡ true → BeginsHead limits most (first ∷ bytes) → BeginsHead limits most (byte ∷ bytes)
begins_as limits most first byte bytes same k = subst (λ b. BeginsHead limits most (b ∷ bytes)) (sym (eqb-true byte first same)) k

head_at-short : (limits : ReplyLimits) (most : ℕ) (bytes : List ℕ) → limits.bulk_bytes < 2 ^ 64 → most < 2 ^ 64 → head_at limits.bulk_bytes most bytes ≡ Err Short → BeginsHead limits most bytes
head_at-short limits most [] small few e = (Whole NullBulk, tt, IsStartOf-none (text_of NullBulk))
head_at-short limits most (byte ∷ bytes) small few e =
    elim (chosen (byte == 43) _ _ (Err Short) e) [
      | inl h ↦ let found = line_at-short bytes (bind_short (λ line. (Whole (Simple line.0), line.1)) (line_at bytes) h.1) in
          begins_as limits most 43 byte bytes h.0 (Whole (Simple found.0), found.1, IsStartOf-behind (43 ∷ []) found.2)
      | inr simple ↦ elim (chosen (byte == 45) _ _ (Err Short) simple.1) [
        | inl h ↦ let found = line_at-short bytes (bind_short (λ line. (Whole (Error line.0), line.1)) (line_at bytes) h.1) in
            begins_as limits most 45 byte bytes h.0 (Whole (Error found.0), found.1, IsStartOf-behind (45 ∷ []) found.2)
        | inr error ↦ elim (chosen (byte == 58) _ _ (Err Short) error.1) [
          | inl h ↦ let found = integer_at-short bytes (bind_short (λ n. (Whole (Int n.0), n.1)) (integer_at bytes) h.1) in
              begins_as limits most 58 byte bytes h.0 (Whole (Int found.0), found.1, IsStartOf-behind (58 ∷ []) found.2)
          | inr integer ↦ elim (chosen (byte == 36) _ _ (Err Short) integer.1) [
            | inl h ↦ begins_as limits most 36 byte bytes h.0 (bulk_at-short limits most bytes small h.1)
            | inr sized ↦ elim (chosen (byte == 42) _ _ (Err Short) sized.1) [
              | inl h ↦ begins_as limits most 42 byte bytes h.0 (count_at-short limits most bytes few h.1)
              | inr h ↦ absurd (cc)
            ]
          ]
        ]
      ]
    ]

-- ---- replies

-- where a reader finds the bytes too short, they begin the text of such a reply
abbrev pub Begins : (Reply → Type 0) → (List ℕ → Result (Read Reply) (Stop ProtocolFault)) → Type 0
Begins Each element = (bytes : List ℕ) → element bytes ≡ Err Short → (reply : Reply) × Each reply × IsStartOf (text_of reply) bytes

-- any number of replies of which one is known
filled : (Each : Reply → Type 0) → Each NullBulk → (count : ℕ) → AllByRecursion Each (replicate count NullBulk)
filled Each null zero = tt
filled Each null (suc count) = (null, filled Each null count)

record BeginsReplies (Each : Reply → Type 0) (count : ℕ) (bytes : List ℕ) : Type 0 where
  replies : List Reply
  counted : length replies ≡ count
  each : AllByRecursion Each replies
  start : IsStartOf (flat_map text_of replies) bytes

elements_at-short : (Each : Reply → Type 0) (element : List ℕ → Result (Read Reply) (Stop ProtocolFault)) → Each NullBulk → Takes Each element → Begins Each element → (count : ℕ) (bytes : List ℕ) → elements_at element count bytes ≡ Err Short → BeginsReplies Each count bytes
elements_at-short Each element null takes begins zero bytes e = absurd (cc)
elements_at-short Each element null takes begins (suc count) bytes e =
    elim (bind_err (λ first. elements_at element count first.1 >>= λ others. Ok (first.0 ∷ others.0, others.1)) (element bytes) Short e) [
      | inl h ↦
          let first = begins bytes h in
          record {
            replies = first.0 ∷ replicate count NullBulk;
            counted = ap suc (length-replicate {A = Reply} count NullBulk);
            each = (first.1, filled Each null count);
            start = IsStartOf-append (flat_map text_of (replicate count NullBulk)) first.2;
          }
      | inr h ↦ elim (bind_err (λ others. Ok (h.0.0 ∷ others.0, others.1)) (elements_at element count h.0.1) Short h.2) [
        | inl k ↦
            let one = takes bytes h.0.0 h.0.1 h.1 in
            let others = elements_at-short Each element null takes begins count h.0.1 k in
            record {
              replies = h.0.0 ∷ others.replies;
              counted = ap suc others.counted;
              each = (one.0, others.each);
              start = IsStartOf-same refl one.1 (IsStartOf-behind (text_of h.0.0) others.start);
            }
        | inr k ↦ absurd (cc)
      ]
    ]

null_readable : (limits : ReplyLimits) (depth : ℕ) → IsReadableTo limits depth NullBulk
null_readable limits zero = inl tt
null_readable limits (suc depth) = inl tt

-- the bytes of an array that begin with its head
array_start : (bytes inside : List ℕ) (replies : List Reply) (count : ℕ) → length replies ≡ count → bytes ≡ (42 ∷ number_line count) ++ inside → IsStartOf (flat_map text_of replies) inside → IsStartOf (text_of (Array replies)) bytes
array_start bytes inside replies count counted head start =
    IsStartOf-same (ap (λ n. (42 ∷ number_line n) ++ flat_map text_of replies) (sym counted) ∙ sym (text_of-Array replies)) head (IsStartOf-behind (42 ∷ number_line count) start)

empty_start : (count : ℕ) (bytes : List ℕ) → count ≤ 0 → IsStartOf (42 ∷ number_line count) bytes → IsStartOf (text_of (Array [])) bytes
empty_start count bytes none start =
    let zero_count : count ≡ 0 = omega arith in
    IsStartOf-same (ap (λ n. 42 ∷ number_line n) zero_count ∙ sym (append-nil (42 ∷ number_line 0)) ∙ sym (text_of-Array [])) refl start

nulls_start : (count : ℕ) (bytes : List ℕ) → IsStartOf (42 ∷ number_line count) bytes → IsStartOf (text_of (Array (replicate count NullBulk))) bytes
nulls_start count bytes start =
    let nulls = replicate count NullBulk in
    IsStartOf-same (ap (λ n. (42 ∷ number_line n) ++ flat_map text_of nulls) (sym (length-replicate {A = Reply} count NullBulk)) ∙ sym (text_of-Array nulls)) refl
    (IsStartOf-append (flat_map text_of nulls) start)

-- at depth 0
head_only : (limits : ReplyLimits) (bytes : List ℕ) (head : Head) → IsReadableHead limits 0 head → IsStartOf (head_text head) bytes → (reply : Reply) × IsReadableTo limits zero reply × IsStartOf (text_of reply) bytes
head_only limits bytes (Whole reply) readable start = (reply, inl readable, start)
head_only limits bytes (Opens count) none start = (Array [], inr refl, empty_start count bytes none start)

no_elements : (limits : ReplyLimits) (head : Head) (rest : List ℕ) → IsReadableHead limits 0 head → reply_from (λ rest. Err Short) head rest ≡ Err Short → ⊥
no_elements limits (Whole reply) rest h e = absurd (cc)
no_elements limits (Opens zero) rest h e = absurd (cc)
no_elements limits (Opens (suc count)) rest h e = absurd (omega arith)

-- below that depth
head_filled : (limits : ReplyLimits) (depth : ℕ) (bytes : List ℕ) (head : Head) → IsReadableHead limits limits.elements head → IsStartOf (head_text head) bytes → (reply : Reply) × IsReadableTo limits (suc depth) reply × IsStartOf (text_of reply) bytes
head_filled limits depth bytes (Whole reply) readable start = (reply, inl readable, start)
head_filled limits depth bytes (Opens count) fits start =
    let nulls = replicate count NullBulk in
    (Array nulls, inr (record { replies = nulls; is = refl; count = omega (arith, fits, length-replicate {A = Reply} count NullBulk); each = filled (IsReadableTo limits depth) (null_readable limits depth) count }), nulls_start count bytes start)

elements_filled : (limits : ReplyLimits) (depth : ℕ) → HasReplyNumbers limits → Begins (IsReadableTo limits depth) (reply_at limits depth) → (head : Head) (bytes inside : List ℕ) → IsReadableHead limits limits.elements head → bytes ≡ head_text head ++ inside → reply_from (reply_at limits depth) head inside ≡ Err Short → (reply : Reply) × IsReadableTo limits (suc depth) reply × IsStartOf (text_of reply) bytes
elements_filled limits depth numbers begins (Whole reply) bytes inside readable split e = absurd (cc)
elements_filled limits depth numbers begins (Opens count) bytes inside fits split e =
    let h = bind_short (λ replies. (Array replies.0, replies.1)) (elements_at (reply_at limits depth) count inside) e in
    let found = elements_at-short (IsReadableTo limits depth) (reply_at limits depth) (null_readable limits depth) (reply_at-takes limits numbers depth) begins count inside h in
    (Array found.replies, inr (record { replies = found.replies; is = refl; count = omega (arith, found.counted, fits); each = found.each }), array_start bytes inside found.replies count found.counted split found.start)

pub reply_at-short : (limits : ReplyLimits) → HasReplyNumbers limits → (depth : ℕ) → Begins (IsReadableTo limits depth) (reply_at limits depth)
reply_at-short limits numbers zero bytes e =
    elim (bind_err (λ head. reply_from (λ rest. Err Short) head.0 head.1) (head_at limits.bulk_bytes 0 bytes) Short e) [
      | inl h ↦ (let head = head_at-short limits 0 bytes numbers.bulk_bytes (omega arith) h in head_only limits bytes head.0 head.1 head.2)
      | inr h ↦ absurd (no_elements limits h.0.0 h.0.1 (head_at-takes limits 0 bytes h.0.0 h.0.1 numbers.bulk_bytes (omega arith) h.1).0 h.2)
    ]
reply_at-short limits numbers (suc depth) bytes e =
    elim (bind_err (λ head. reply_from (reply_at limits depth) head.0 head.1) (head_at limits.bulk_bytes limits.elements bytes) Short e) [
      | inl h ↦ (let head = head_at-short limits limits.elements bytes numbers.bulk_bytes numbers.elements h in head_filled limits depth bytes head.0 head.1 head.2)
      | inr h ↦
          let head = head_at-takes limits limits.elements bytes h.0.0 h.0.1 numbers.bulk_bytes numbers.elements h.1 in
          elements_filled limits depth numbers (reply_at-short limits numbers depth) h.0.0 bytes h.0.1 head.0 head.1 h.2
    ]
