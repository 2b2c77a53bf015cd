-- The replies that bytes hold, computed: the forms of RESP2 (the Redis serialization protocol specification), each in the one spelling that
-- `text_of` gives it. The readers of numbers and line ends are those of requests. Bytes that begin no reply are told without a cause, so it
-- is of no matter which fault these readers name.
use Rattle.std.specs.Prelude.{ℕ, zero, suc, ◌+◌, ◌-◌, ◌^◌, ℤ, pos, negsuc, List, [], ◌∷◌, length, ◌||◌, ◌==◌, if◌then◌else◌, Result, Ok, Err}
use Rattle.kv_types.specs.declared.item.ProtocolFault.{ProtocolFault}
use Rattle.kv_types.specs.declared.item.ProtocolFault.TheVariants.{InvalidMultibulkLength, InvalidBulkLength, ExpectedLineEnd}
use Rattle.kv_types.specs.declared.reply.Reply.{Reply, Simple, Error, Int, Bulk, NullBulk, Array, NullArray}
use Rattle.kv_types.specs.declared.stop.Stop.{Stop}
use Rattle.kv_types.specs.declared.stop.Stop.TheVariants.{Short, Broken}
use Rattle.kv_types.specs.Reader.{Read, ◌>>=◌}
use Rattle.kv_types.specs.Reading.{after_byte, number_at, payload_at}
use Rattle.resp_codec.specs.declared.reply_limits.ReplyLimits.{ReplyLimits}
use Rattle.resp_codec.specs.declared.reply_item.ReplyItem.{ReplyItem}
use Rattle.resp_codec.specs.declared.reply_item.ReplyItem.TheVariants as item

-- how many bytes stand before the first CR or LF
abbrev pub line_length : List ℕ → ℕ
line_length [] = 0
line_length (byte ∷ bytes) = if byte == 13 || byte == 10 then 0 else line_length bytes + 1

-- the bytes of a line, without its line end
abbrev pub line_at : List ℕ → Result (Read (List ℕ)) (Stop ProtocolFault)
line_at bytes = payload_at (line_length bytes) bytes

-- an integer below zero, after its '-'
abbrev pub negative_at : List ℕ → Result (Read ℤ) (Stop ProtocolFault)
negative_at [] = Err Short
negative_at (byte ∷ bytes) =
    if byte == 48 then Err (Broken ExpectedLineEnd)
    else (number_at (2 ^ 63) ExpectedLineEnd (byte ∷ bytes) >>= λ n. Ok (negsuc (n.0 - 1), n.1))

-- an integer of 64 bits and its line end
abbrev pub integer_at : List ℕ → Result (Read ℤ) (Stop ProtocolFault)
integer_at [] = Err Short
integer_at (byte ∷ bytes) =
    if byte == 45 then negative_at bytes
    else (number_at (2 ^ 63 - 1) ExpectedLineEnd (byte ∷ bytes) >>= λ n. Ok (pos n.0, n.1))

-- The head of a reply: a whole reply that is no array, or the number of replies of an array, which follow.
pub data Head : Type 0 where
  Whole : (reply : Reply) → Head
  Opens : (count : ℕ) → Head

-- the head that was read, and the bytes after it
abbrev pub whole : Reply → List ℕ → Result (Read Head) (Stop ProtocolFault)
whole reply rest = Ok (Whole reply, rest)

-- the bytes after "-1\r\n", after its '-'
abbrev pub after_null : List ℕ → Result (List ℕ) (Stop ProtocolFault)
after_null bytes = after_byte 49 ExpectedLineEnd bytes >>= λ one. after_byte 13 ExpectedLineEnd one >>= λ end. after_byte 10 ExpectedLineEnd end

-- a bulk string of at most `most` bytes, or the null bulk string, after the '$'
abbrev pub bulk_at : ℕ → List ℕ → Result (Read Head) (Stop ProtocolFault)
bulk_at most [] = Err Short
bulk_at most (byte ∷ bytes) =
    if byte == 45 then (after_null bytes >>= λ rest. whole NullBulk rest)
    else (number_at most InvalidBulkLength (byte ∷ bytes) >>= λ len. payload_at len.0 len.1 >>= λ word. whole (Bulk word.0) word.1)

-- the number of replies of an array, at most `most`, or the null array, after the '*'
abbrev pub count_at : ℕ → List ℕ → Result (Read Head) (Stop ProtocolFault)
count_at most [] = Err Short
count_at most (byte ∷ bytes) =
    if byte == 45 then (after_null bytes >>= λ rest. whole NullArray rest)
    else (number_at most InvalidMultibulkLength (byte ∷ bytes) >>= λ count. Ok (Opens count.0, count.1))

-- the head at the front, by its first byte: '+', '-', ':', '$' or '*'
abbrev pub head_of : ℕ → ℕ → ℕ → List ℕ → Result (Read Head) (Stop ProtocolFault)
head_of bulk_bytes most byte bytes =
    if byte == 43 then (line_at bytes >>= λ line. whole (Simple line.0) line.1)
    else (if byte == 45 then (line_at bytes >>= λ line. whole (Error line.0) line.1)
    else (if byte == 58 then (integer_at bytes >>= λ n. whole (Int n.0) n.1)
    else (if byte == 36 then bulk_at bulk_bytes bytes
    else (if byte == 42 then count_at most bytes else Err (Broken ExpectedLineEnd)))))

abbrev pub head_at : ℕ → ℕ → List ℕ → Result (Read Head) (Stop ProtocolFault)
head_at bulk_bytes most [] = Err Short
head_at bulk_bytes most (byte ∷ bytes) = head_of bulk_bytes most byte bytes

-- so many replies, one after another, each read by `element`
abbrev pub elements_at : (List ℕ → Result (Read Reply) (Stop ProtocolFault)) → ℕ → List ℕ → Result (Read (List Reply)) (Stop ProtocolFault)
elements_at element zero bytes = Ok ([], bytes)
elements_at element (suc count) bytes = element bytes >>= λ first. elements_at element count first.1 >>= λ others. Ok (first.0 ∷ others.0, others.1)

-- the reply that begins with this head
abbrev pub reply_from : (List ℕ → Result (Read Reply) (Stop ProtocolFault)) → Head → List ℕ → Result (Read Reply) (Stop ProtocolFault)
reply_from element (Whole reply) bytes = Ok (reply, bytes)
reply_from element (Opens count) bytes = elements_at element count bytes >>= λ replies. Ok (Array replies.0, replies.1)

-- the reply at the front, with arrays within arrays at most `depth` deep: at depth 0 an array is empty
abbrev pub reply_at : ReplyLimits → ℕ → List ℕ → Result (Read Reply) (Stop ProtocolFault)
reply_at limits zero bytes = head_at limits.bulk_bytes 0 bytes >>= λ head. reply_from (λ rest. Err Short) head.0 head.1
reply_at limits (suc depth) bytes = head_at limits.bulk_bytes limits.elements bytes >>= λ head. reply_from (reply_at limits depth) head.0 head.1

-- the items of bytes, given what their first reply reads as; `following` gives the items of the bytes after that reply
abbrev pub reply_items_from : (List ℕ → List ReplyItem) → Result (Read Reply) (Stop ProtocolFault) → List ReplyItem
reply_items_from following (Ok read) = item.Reply read.0 ∷ following read.1
reply_items_from following (Err Short) = []
reply_items_from following (Err (Broken fault)) = item.Fault ∷ []

-- the items of bytes, from at most the given number of replies
abbrev pub reply_items_within : ℕ → ReplyLimits → List ℕ → List ReplyItem
reply_items_within zero limits bytes = []
reply_items_within (suc most) limits bytes = reply_items_from (reply_items_within most limits) (reply_at limits limits.depth bytes)

-- The replies that bytes hold, one after another, and a fault after them if the bytes that follow begin no reply. A reply has at least one
-- byte, so there are no more replies than bytes.
unfoldable pub replies_at : ReplyLimits → List ℕ → List ReplyItem
replies_at limits bytes = reply_items_within (length bytes) limits bytes
