-- Requests as bytes: the array of bulk strings of RESP2 (the Redis serialization protocol specification). The limits, and the moment at
-- which a fault is decided, are this project's profile.
use Rattle.std.specs.Prelude.{◌≡◌, ℕ, ◌<◌, ◌≤◌, List, [], ◌∷◌, ◌++◌, length, ◌≢◌, ◌⊎◌}
use Rattle.std.specs.List.{AllByRecursion, flat_map}
use Rattle.std.specs.Fmt.{decimal}
use Rattle.kv_types.specs.declared.limits.Limits.{Limits}
use Rattle.kv_types.specs.declared.item.ProtocolFault.{ProtocolFault}
use Rattle.kv_types.specs.declared.item.ProtocolFault.TheVariants.{ExpectedArray, InvalidMultibulkLength, ExpectedBulk, InvalidBulkLength, ExpectedLineEnd}
use Rattle.kv_types.specs.declared.item.Item.{Item}
use Rattle.kv_types.specs.declared.item.Item.TheVariants.{Request, Fault}
use Rattle.kv_types.specs.Word.{IsWithin}

-- "\r\n"
abbrev pub line_end : List ℕ
line_end = 13 ∷ 10 ∷ []

-- a number and its line end
abbrev pub number_line : ℕ → List ℕ
number_line n = decimal n ++ line_end

-- '$', the length and its line end, the bytes of the word and a line end
abbrev pub bulk : List ℕ → List ℕ
bulk word = 36 ∷ number_line (length word) ++ word ++ line_end

-- the one spelling of a request: '*', the number of words, the words. `*0` spells no request.
abbrev pub spelling : List (List ℕ) → List ℕ
spelling words = 42 ∷ number_line (length words) ++ flat_map bulk words

-- the whole text spells these words
pub record Spells (limits : Limits) (text : List ℕ) (words : List (List ℕ)) : Type 0 where
  pub within : IsWithin limits words
  pub whole : text ≡ spelling words

-- the prefix begins some spelling
pub record Begins (limits : Limits) (prefix : List ℕ) : Type 0 where
  pub rest : List ℕ
  pub words : List (List ℕ)
  pub spells : Spells limits (prefix ++ rest) words

-- a prefix of the whole, but not all of it
pub record IsProperPrefix (prefix whole : List ℕ) : Type 0 where
  pub byte : ℕ
  pub rest : List ℕ
  pub joined : prefix ++ byte ∷ rest ≡ whole

-- The fault that a byte makes, by its position: it comes after a prefix that still begins a spelling.
abbrev pub Says : Limits → List ℕ → ℕ → ProtocolFault → Type 0
-- the first byte of a request
Says limits prefix byte ExpectedArray = prefix ≡ []
-- in the number of words, or its line end
Says limits prefix byte InvalidMultibulkLength =
    (line : List ℕ) × (n : ℕ) × (n ≤ limits.words) × IsProperPrefix line (number_line n) × (prefix ≡ 42 ∷ line)
-- the first byte of a word
Says limits prefix byte (ExpectedBulk got) =
    (n : ℕ) × (words : List (List ℕ)) × (length words < n) × (prefix ≡ 42 ∷ number_line n ++ flat_map bulk words) × (got ≡ byte)
-- in the length of a word, or its line end
Says limits prefix byte InvalidBulkLength =
    (n : ℕ) × (words : List (List ℕ)) × (line : List ℕ) × (len : ℕ) × (length words < n) × (len ≤ limits.word_bytes) × IsProperPrefix line (number_line len)
    × (prefix ≡ 42 ∷ number_line n ++ flat_map bulk words ++ 36 ∷ line)
-- after the bytes of a word, where its line end should be
Says limits prefix byte ExpectedLineEnd =
    (n : ℕ) × (words : List (List ℕ)) × (word : List ℕ) × (end : List ℕ) × (length words < n) × IsProperPrefix end line_end
    × (prefix ≡ 42 ∷ number_line n ++ flat_map bulk words ++ 36 ∷ number_line (length word) ++ word ++ end)

-- the last byte of the shortest prefix of the bytes that begins no spelling makes this fault
pub record FaultsWith (limits : Limits) (bytes : List ℕ) (fault : ProtocolFault) : Type 0 where
  pub prefix : List ℕ
  pub byte : ℕ
  pub rest : List ℕ
  pub split : bytes ≡ prefix ++ byte ∷ rest
  pub begins : Begins limits prefix
  pub breaks : ¬ Begins limits (prefix ++ byte ∷ [])
  pub says : Says limits prefix byte fault

-- a request is an item; `*0` is none
abbrev pub item_of : List (List ℕ) → List Item
item_of [] = []
item_of (name ∷ words) = Request (name ∷ words) ∷ []

-- What follows the last whole spelling: a prefix of one more, or a fault.
abbrev pub EndsWith : Limits → List ℕ → List Item → Type 0
EndsWith limits rest ending = (Begins limits rest × (ending ≡ [])) ⊎ ((fault : ProtocolFault) × FaultsWith limits rest fault × (ending ≡ Fault fault ∷ []))

-- The text asks for these items: the requests of its longest prefix made of spellings, and then its fault, if one follows.
pub record AsksFor (limits : Limits) (text : List ℕ) (items : List Item) : Type 0 where
  pub requests : List (List (List ℕ))
  pub rest : List ℕ
  pub ending : List Item
  pub within : AllByRecursion (IsWithin limits) requests
  pub split : text ≡ flat_map spelling requests ++ rest
  pub longest : (words : List (List ℕ)) (more : List ℕ) → IsWithin limits words → rest ≢ spelling words ++ more
  pub ends : EndsWith limits rest ending
  pub all : items ≡ flat_map item_of requests ++ ending
