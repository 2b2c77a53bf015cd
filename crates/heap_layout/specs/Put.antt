-- What writing a version stores: its extent and its entry.
use Rattle.std.specs.Prelude.{ℕ, zero, suc, ◌+◌, ◌*◌, ◌<◌, ◌≤◌, List, [], ◌∷◌, ◌++◌, length, slice_index}
use Rattle.std.specs.Int.{w64, from_le_bytes}
use Rattle.kv_types.specs.declared.limits.TheConstants.{MAX_KEY_BYTES}
use Rattle.kv_types.specs.declared.record_id.RecordId.{RecordId}
use Rattle.kv_types.specs.declared.record_id.RecordId.TheVariants.{Str, Field}
use Rattle.kv_types.specs.Keyspace.{key_of}
use Rattle.pmem.specs.Runs.{pairs_from, lines_from}
use Rattle.model.specs.declared.group.Put.{Put}
use Rattle.model.specs.declared.layout.TheConstants.{FIELD_LENGTH_UNIT, WORD_BYTES}
use Rattle.model.specs.Layout.{first_word}
use Rattle.model.specs.Image.{entry_line, entry_word}
use Rattle.heap_layout.specs.declared.entry.Entry.{Entry}
use Rattle.heap_layout.specs.declared.entry.TheConstants.{STRING_KIND, FIELD_KIND}

-- the eight bytes from offset `at` as a word, lowest first, with zeros past the end
abbrev pub word_of_bytes : List ℕ → ℕ → ℕ
word_of_bytes bytes at =
    from_le_bytes w64 (slice_index bytes at ∷ slice_index bytes (at + 1) ∷ slice_index bytes (at + 2) ∷ slice_index bytes (at + 3)
    ∷ slice_index bytes (at + 4) ∷ slice_index bytes (at + 5) ∷ slice_index bytes (at + 6) ∷ slice_index bytes (at + 7) ∷ [])

-- `count` words made of the bytes, starting at offset `at`
abbrev pub packed : List ℕ → ℕ → ℕ → List ℕ
packed bytes at zero = []
packed bytes at (suc count) = word_of_bytes bytes at ∷ packed bytes (at + WORD_BYTES) count

-- the bytes of a record's name: key and field
abbrev pub name_bytes : RecordId → List ℕ
name_bytes (Str key) = key
name_bytes (Field key field) = key ++ field

-- the bytes of a version: key, field and value
abbrev pub version_bytes : Put → List ℕ
version_bytes put = name_bytes put.id ++ put.value

abbrev pub kind_number : RecordId → ℕ
kind_number (Str key) = STRING_KIND
kind_number (Field key field) = FIELD_KIND

-- how many bytes the field of a record has: a string has none
abbrev pub field_length : RecordId → ℕ
field_length (Str key) = 0
field_length (Field key field) = length field

-- the length of the key, plus FIELD_LENGTH_UNIT times the length of the field
abbrev pub lengths_word : RecordId → ℕ
lengths_word (Str key) = length key
lengths_word (Field key field) = length key + FIELD_LENGTH_UNIT * length field

-- the eight words of an entry
abbrev pub entry_words : ℕ → ℕ → Put → List ℕ
entry_words stamp position put =
    stamp ∷ 0 ∷ position ∷ put.extent.first_line ∷ put.extent.lines ∷ kind_number put.id ∷ lengths_word put.id ∷ length put.value ∷ []

-- the words of an extent
abbrev pub extent_words : Put → List ℕ
extent_words put = packed (version_bytes put) 0 (first_word put.extent.lines)

-- what a put stores, begun with this stamp at this position
abbrev pub put_pairs : ℕ → ℕ → Put → List (ℕ × ℕ)
put_pairs stamp position put =
    pairs_from (first_word put.extent.first_line) (extent_words put) ++ pairs_from (entry_word put.entry.0 0) (entry_words stamp position put)

-- the lines that it stores to
abbrev pub put_lines : Put → List ℕ
put_lines put = lines_from put.extent.first_line put.extent.lines ++ entry_line put.entry.0 ∷ []

-- the put can be read back: each of its bytes is below 256, and the key's length fits the lower half of the word of lengths
pub record IsStorable (put : Put) : Type 0 where
  pub bytes : (i : ℕ) → slice_index (version_bytes put) i < 256
  pub key : length (key_of put.id) < FIELD_LENGTH_UNIT

-- the key and the field of a record are within their limits
pub record IsShortName (id : RecordId) : Type 0 where
  pub key : length (key_of id) ≤ MAX_KEY_BYTES
  pub field : field_length id ≤ MAX_KEY_BYTES

-- what the entry of a put holds, begun with this stamp at this position
abbrev pub entry_of_put : ℕ → ℕ → Put → Entry
entry_of_put stamp position put = record { begin = stamp; end = 0; position = position; extent = put.extent; id = put.id; value = put.value }
