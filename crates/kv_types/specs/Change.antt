-- The bytes of a change, as frames carry them (this project's profile). Lengths are big-endian.
use Rattle.std.specs.Prelude.{ℕ, List, [], ◌∷◌, ◌++◌, length}
use Rattle.std.specs.List.{flat_map}
use Rattle.std.specs.Int.{w16, w32, to_be_bytes}
use Rattle.kv_types.specs.declared.record_id.RecordId.TheVariants.{Str, Field}
use Rattle.kv_types.specs.declared.change.Change.{Change}
use Rattle.kv_types.specs.declared.change.Change.TheVariants.{Put, Drop, DropKey, Clear}

-- the length in two bytes, then the bytes
abbrev pub short_bytes : List ℕ → List ℕ
short_bytes bytes = to_be_bytes w16 (length bytes) ++ bytes

-- the length in four bytes, then the bytes
abbrev pub long_bytes : List ℕ → List ℕ
long_bytes bytes = to_be_bytes w32 (length bytes) ++ bytes

abbrev pub change_text : Change → List ℕ
change_text (Put (Str key) value) = 1 ∷ short_bytes key ++ long_bytes value
change_text (Put (Field key field) value) = 2 ∷ short_bytes key ++ short_bytes field ++ long_bytes value
change_text (Drop (Str key)) = 3 ∷ short_bytes key
change_text (Drop (Field key field)) = 4 ∷ short_bytes key ++ short_bytes field
change_text (DropKey key) = 5 ∷ short_bytes key
change_text Clear = 6 ∷ []

-- the bytes of the changes, concatenated in order
abbrev pub changes_text : List Change → List ℕ
changes_text = flat_map change_text

-- how many bytes the changes have together
abbrev pub changes_size : List Change → ℕ
changes_size changes = length (changes_text changes)
