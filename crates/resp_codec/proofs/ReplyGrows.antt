-- What a reader of replies answers remains when more bytes come.
use Rattle.std.proofs.Common.{◌≡◌, ℕ, zero, suc, ◌+◌, ◌-◌, ◌^◌, ◌<◌, ◌≤◌, pos, negsuc, true, false, cond, ◌||◌, ◌==◌, inl, inr, List, [], ◌∷◌, ◌++◌, length, Result, Ok, Err, refl, ap, sym, subst, ◌∙◌, append-nil, arith}
use Rattle.std.proofs.lemmas.Bool.{cases_lt}
use Rattle.kv_types.specs.declared.item.ProtocolFault.{ProtocolFault}
use Rattle.kv_types.specs.declared.item.ProtocolFault.TheVariants.{InvalidMultibulkLength, InvalidBulkLength, ExpectedLineEnd}
use Rattle.kv_types.specs.declared.reply.Reply.{Reply, Simple, Error, Int, Bulk, NullBulk, Array, NullArray}
use Rattle.kv_types.specs.declared.stop.Stop.{Stop}
use Rattle.kv_types.specs.declared.stop.Stop.TheVariants.{Short}
use Rattle.kv_types.specs.Reader.{Read, ◌>>=◌}
use Rattle.kv_types.specs.Reading.{after_byte, number_at, payload_at}
use Rattle.kv_types.proofs.GrammarGrows.{Keeps, with_more, longer, Keeps-bind, Keeps-if, after_byte-more, number_at-more, payload_at-more}
use Rattle.kv_types.proofs.GrammarWords.{payload_at-behind}
use Rattle.resp_codec.specs.declared.reply_limits.ReplyLimits.{ReplyLimits}
use Rattle.resp_codec.specs.ReplyReading.{line_length, line_at, negative_at, integer_at, Head, Whole, Opens, whole, after_null, bulk_at, count_at, head_at, elements_at, reply_from, reply_at}

-- ---- lines

pub line_length-le : (bytes : List ℕ) → line_length bytes ≤ length bytes
line_length-le [] = omega arith
line_length-le (byte ∷ bytes) =
    let shorter = line_length-le bytes in
    elim (byte == 13 || byte == 10) as (λ b. cond b 0 (line_length bytes + 1) ≤ suc (length bytes)) [
      | true ↦ omega arith
      | false ↦ omega (arith, shorter)
    ]

line_length-more : (bytes more : List ℕ) → line_length bytes < length bytes → line_length (bytes ++ more) ≡ line_length bytes
line_length-more [] more h = absurd (omega arith)
line_length-more (byte ∷ bytes) more h =
    (elim (byte == 13 || byte == 10) as (λ b. cond b 0 (line_length bytes + 1) < suc (length bytes) → cond b 0 (line_length (bytes ++ more) + 1) ≡ cond b 0 (line_length bytes + 1)) [
      | true ↦ λ k. refl
      | false ↦ λ k. ap (λ n. n + 1) (line_length-more bytes more (omega arith))
    ]) h

-- a line without its end may go on
line_at-unended : (bytes : List ℕ) → line_length bytes ≡ length bytes → line_at bytes ≡ Err Short
line_at-unended bytes e =
    ap (λ n. payload_at n bytes) e ∙ ap (payload_at (length bytes)) (sym (append-nil bytes)) ∙ payload_at-behind (length bytes) bytes [] refl

line_at-more : (more bytes : List ℕ) → Keeps (with_more more) (line_at bytes) (line_at (bytes ++ more))
line_at-more more bytes =
    elim (cases_lt (line_length bytes) (length bytes)) [
      | inl within ↦ subst (λ n. Keeps (with_more more) (line_at bytes) (payload_at n (bytes ++ more))) (sym (line_length-more bytes more within)) (payload_at-more more (line_length bytes) bytes)
      | inr past ↦ subst (λ read. Keeps (with_more more) read (line_at (bytes ++ more))) (sym (line_at-unended bytes (omega (arith, line_length-le bytes)))) tt
    ]

-- ---- numbers

negative_at-more : (more bytes : List ℕ) → Keeps (with_more more) (negative_at bytes) (negative_at (bytes ++ more))
negative_at-more more [] = tt
negative_at-more more (byte ∷ bytes) =
    Keeps-if (with_more more) (byte == 48) _ _ _ _ refl
    (Keeps-bind (with_more more) (with_more more) (λ n. Ok (negsuc (n.0 - 1), n.1)) (λ n. refl)
    (number_at (2 ^ 63) ExpectedLineEnd (byte ∷ bytes)) _ (number_at-more more (2 ^ 63) ExpectedLineEnd (byte ∷ bytes)))

integer_at-more : (more bytes : List ℕ) → Keeps (with_more more) (integer_at bytes) (integer_at (bytes ++ more))
integer_at-more more [] = tt
integer_at-more more (byte ∷ bytes) =
    Keeps-if (with_more more) (byte == 45) _ _ _ _ (negative_at-more more bytes)
    (Keeps-bind (with_more more) (with_more more) (λ n. Ok (pos n.0, n.1)) (λ n. refl)
    (number_at (2 ^ 63 - 1) ExpectedLineEnd (byte ∷ bytes)) _ (number_at-more more (2 ^ 63 - 1) ExpectedLineEnd (byte ∷ bytes)))

-- ---- heads

after_null-more : (more bytes : List ℕ) → Keeps (longer more) (after_null bytes) (after_null (bytes ++ more))
after_null-more more bytes =
    Keeps-bind (longer more) (longer more) (λ one. after_byte 13 ExpectedLineEnd one >>= λ end. after_byte 10 ExpectedLineEnd end)
    (λ one. Keeps-bind (longer more) (longer more) (λ end. after_byte 10 ExpectedLineEnd end) (λ end. after_byte-more more 10 ExpectedLineEnd end)
    (after_byte 13 ExpectedLineEnd one) _ (after_byte-more more 13 ExpectedLineEnd one))
    (after_byte 49 ExpectedLineEnd bytes) _ (after_byte-more more 49 ExpectedLineEnd bytes)

null_head-more : (more : List ℕ) (reply : Reply) (bytes : List ℕ) → Keeps (with_more more) (after_null bytes >>= λ rest. whole reply rest) (after_null (bytes ++ more) >>= λ rest. whole reply rest)
null_head-more more reply bytes = Keeps-bind (longer more) (with_more more) (λ rest. whole reply rest) (λ rest. refl) (after_null bytes) _ (after_null-more more bytes)

bulk_at-more : (more : List ℕ) (most : ℕ) (bytes : List ℕ) → Keeps (with_more more) (bulk_at most bytes) (bulk_at most (bytes ++ more))
bulk_at-more more most [] = tt
bulk_at-more more most (byte ∷ bytes) =
    Keeps-if (with_more more) (byte == 45) _ _ _ _ (null_head-more more NullBulk bytes)
    (Keeps-bind (with_more more) (with_more more) (λ len. payload_at len.0 len.1 >>= λ word. whole (Bulk word.0) word.1)
    (λ len. Keeps-bind (with_more more) (with_more more) (λ word. whole (Bulk word.0) word.1) (λ word. refl) (payload_at len.0 len.1) _ (payload_at-more more len.0 len.1))
    (number_at most InvalidBulkLength (byte ∷ bytes)) _ (number_at-more more most InvalidBulkLength (byte ∷ bytes)))

count_at-more : (more : List ℕ) (most : ℕ) (bytes : List ℕ) → Keeps (with_more more) (count_at most bytes) (count_at most (bytes ++ more))
count_at-more more most [] = tt
count_at-more more most (byte ∷ bytes) =
    Keeps-if (with_more more) (byte == 45) _ _ _ _ (null_head-more more NullArray bytes)
    (Keeps-bind (with_more more) (with_more more) (λ count. Ok (Opens count.0, count.1)) (λ count. refl)
    (number_at most InvalidMultibulkLength (byte ∷ bytes)) _ (number_at-more more most InvalidMultibulkLength (byte ∷ bytes)))

line_head-more : (more : List ℕ) (former : List ℕ → Reply) (bytes : List ℕ) → Keeps (with_more more) (line_at bytes >>= λ line. whole (former line.0) line.1) (line_at (bytes ++ more) >>= λ line. whole (former line.0) line.1)
line_head-more more former bytes = Keeps-bind (with_more more) (with_more more) (λ line. whole (former line.0) line.1) (λ line. refl) (line_at bytes) _ (line_at-more more bytes)

integer_head-more : (more bytes : List ℕ) → Keeps (with_more more) (integer_at bytes >>= λ n. whole (Int n.0) n.1) (integer_at (bytes ++ more) >>= λ n. whole (Int n.0) n.1)
integer_head-more more bytes = Keeps-bind (with_more more) (with_more more) (λ n. whole (Int n.0) n.1) (λ n. refl) (integer_at bytes) _ (integer_at-more more bytes)

head_at-more : (more : List ℕ) (bulk_bytes most : ℕ) (bytes : List ℕ) → Keeps (with_more more) (head_at bulk_bytes most bytes) (head_at bulk_bytes most (bytes ++ more))
head_at-more more bulk_bytes most [] = tt
head_at-more more bulk_bytes most (byte ∷ bytes) =
    Keeps-if (with_more more) (byte == 43) _ _ _ _ (line_head-more more Simple bytes)
    (Keeps-if (with_more more) (byte == 45) _ _ _ _ (line_head-more more Error bytes)
    (Keeps-if (with_more more) (byte == 58) _ _ _ _ (integer_head-more more bytes)
    (Keeps-if (with_more more) (byte == 36) _ _ _ _ (bulk_at-more more bulk_bytes bytes)
    (Keeps-if (with_more more) (byte == 42) _ _ _ _ (count_at-more more most bytes) refl))))

-- ---- replies

elements_at-more : (more : List ℕ) (element : List ℕ → Result (Read Reply) (Stop ProtocolFault)) → ((bytes : List ℕ) → Keeps (with_more more) (element bytes) (element (bytes ++ more))) → (count : ℕ) (bytes : List ℕ) → Keeps (with_more more) (elements_at element count bytes) (elements_at element count (bytes ++ more))
elements_at-more more element each zero bytes = refl
elements_at-more more element each (suc count) bytes =
    Keeps-bind (with_more more) (with_more more) (λ first. elements_at element count first.1 >>= λ others. Ok (first.0 ∷ others.0, others.1))
    (λ first. Keeps-bind (with_more more) (with_more more) (λ others. Ok (first.0 ∷ others.0, others.1)) (λ others. refl)
    (elements_at element count first.1) _ (elements_at-more more element each count first.1))
    (element bytes) _ (each bytes)

reply_from-more : (more : List ℕ) (element : List ℕ → Result (Read Reply) (Stop ProtocolFault)) → ((bytes : List ℕ) → Keeps (with_more more) (element bytes) (element (bytes ++ more))) → (head : Head) (bytes : List ℕ) → Keeps (with_more more) (reply_from element head bytes) (reply_from element head (bytes ++ more))
reply_from-more more element each (Whole reply) bytes = refl
reply_from-more more element each (Opens count) bytes =
    Keeps-bind (with_more more) (with_more more) (λ replies. Ok (Array replies.0, replies.1)) (λ replies. refl)
    (elements_at element count bytes) _ (elements_at-more more element each count bytes)

pub reply_at-more : (more : List ℕ) (limits : ReplyLimits) (depth : ℕ) (bytes : List ℕ) → Keeps (with_more more) (reply_at limits depth bytes) (reply_at limits depth (bytes ++ more))
reply_at-more more limits zero bytes =
    Keeps-bind (with_more more) (with_more more) (λ head. reply_from (λ rest. Err Short) head.0 head.1)
    (λ head. reply_from-more more (λ rest. Err Short) (λ rest. tt) head.0 head.1)
    (head_at limits.bulk_bytes 0 bytes) _ (head_at-more more limits.bulk_bytes 0 bytes)
reply_at-more more limits (suc depth) bytes =
    Keeps-bind (with_more more) (with_more more) (λ head. reply_from (reply_at limits depth) head.0 head.1)
    (λ head. reply_from-more more (reply_at limits depth) (reply_at-more more limits depth) head.0 head.1)
    (head_at limits.bulk_bytes limits.elements bytes) _ (head_at-more more limits.bulk_bytes limits.elements bytes)
