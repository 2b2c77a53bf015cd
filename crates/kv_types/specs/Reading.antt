-- The items of a text, computed. The contract of `kv_types::items_are_asked_for` says that they are those that the grammar asks for.
use Rattle.std.specs.Prelude.{ℕ, zero, suc, ◌+◌, ◌-◌, ◌*◌, List, [], ◌∷◌, ◌++◌, length, take, drop, Bool, ◌&&◌, ◌==◌, if◌then◌else◌, nat_lt, nat_le, Result, Ok, Err}
use Rattle.kv_types.specs.declared.limits.Limits.{Limits}
use Rattle.kv_types.specs.declared.item.ProtocolFault.{ProtocolFault}
use Rattle.kv_types.specs.declared.item.ProtocolFault.TheVariants.{ExpectedArray, InvalidMultibulkLength, ExpectedBulk, InvalidBulkLength, ExpectedLineEnd}
use Rattle.kv_types.specs.declared.item.Item.{Item}
use Rattle.kv_types.specs.declared.item.Item.TheVariants.{Fault}
use Rattle.kv_types.specs.declared.stop.Stop.{Stop}
use Rattle.kv_types.specs.declared.stop.Stop.TheVariants.{Short, Broken}
use Rattle.kv_types.specs.Request.{item_of}
use Rattle.kv_types.specs.Reader.{Read, ◌>>=◌}

abbrev pub is_digit : ℕ → Bool
is_digit byte = nat_le 48 byte && nat_le byte 57

-- the bytes after a first byte, which must be `expected`
abbrev pub after_byte : ℕ → ProtocolFault → List ℕ → Result (List ℕ) (Stop ProtocolFault)
after_byte expected fault [] = Err Short
after_byte expected fault (byte ∷ bytes) = if byte == expected then Ok bytes else Err (Broken fault)

abbrev pub with_line_feed : ProtocolFault → ℕ → List ℕ → Result (Read ℕ) (Stop ProtocolFault)
with_line_feed fault n bytes = after_byte 10 fault bytes >>= λ rest. Ok (n, rest)

-- the number whose digits so far make n, read on through its line end: at most `most`
abbrev pub number_from : ℕ → ProtocolFault → ℕ → List ℕ → Result (Read ℕ) (Stop ProtocolFault)
number_from most fault n [] = Err Short
number_from most fault n (byte ∷ bytes) =
    if byte == 13 then with_line_feed fault n bytes
    else (if is_digit byte && nat_lt 0 n && nat_le (10 * n + (byte - 48)) most then number_from most fault (10 * n + (byte - 48)) bytes else Err (Broken fault))

-- a number of at most `most`, and its line end
abbrev pub number_at : ℕ → ProtocolFault → List ℕ → Result (Read ℕ) (Stop ProtocolFault)
number_at most fault [] = Err Short
number_at most fault (byte ∷ bytes) =
    if is_digit byte && nat_le (byte - 48) most then number_from most fault (byte - 48) bytes else Err (Broken fault)

-- the bytes after the '$' of a word
abbrev pub after_dollar : List ℕ → Result (List ℕ) (Stop ProtocolFault)
after_dollar [] = Err Short
after_dollar (byte ∷ bytes) = if byte == 36 then Ok bytes else Err (Broken (ExpectedBulk byte))

-- `len` bytes, and a line end
abbrev pub payload_at : ℕ → List ℕ → Result (Read (List ℕ)) (Stop ProtocolFault)
payload_at len bytes =
    if nat_lt (length bytes) len then Err Short
    else (after_byte 13 ExpectedLineEnd (drop len bytes) >>= λ rest. after_byte 10 ExpectedLineEnd rest >>= λ after. Ok (take len bytes, after))

abbrev pub word_at : Limits → List ℕ → Result (Read (List ℕ)) (Stop ProtocolFault)
word_at limits bytes = after_dollar bytes >>= λ rest. number_at limits.word_bytes InvalidBulkLength rest >>= λ len. payload_at len.0 len.1

abbrev pub with_first : List ℕ → Read (List (List ℕ)) → Read (List (List ℕ))
with_first word others = (word ∷ others.0, others.1)

abbrev pub words_at : Limits → ℕ → List ℕ → Result (Read (List (List ℕ))) (Stop ProtocolFault)
words_at limits zero bytes = Ok ([], bytes)
words_at limits (suc count) bytes = word_at limits bytes >>= λ word. words_at limits count word.1 >>= λ others. Ok (with_first word.0 others)

-- the words of the spelling with which the bytes begin, and the bytes after it
abbrev pub request_at : Limits → List ℕ → Result (Read (List (List ℕ))) (Stop ProtocolFault)
request_at limits bytes =
    after_byte 42 ExpectedArray bytes >>= λ rest. number_at limits.words InvalidMultibulkLength rest >>= λ count. words_at limits count.0 count.1

-- the items of a text, given what its first request reads as; `following` gives the items of the bytes after that request
abbrev pub items_from : (List ℕ → List Item) → Result (Read (List (List ℕ))) (Stop ProtocolFault) → List Item
items_from following (Ok request) = item_of request.0 ++ following request.1
items_from following (Err Short) = []
items_from following (Err (Broken fault)) = Fault fault ∷ []

-- the items of a text, from at most the given number of spellings
abbrev pub items_within : ℕ → Limits → List ℕ → List Item
items_within zero limits bytes = []
items_within (suc most) limits bytes = items_from (items_within most limits) (request_at limits bytes)

-- The items that a text asks for. A spelling has at least one byte, so a text has no more spellings than bytes.
unfoldable pub items_at : Limits → List ℕ → List Item
items_at limits bytes = items_within (length bytes) limits bytes
