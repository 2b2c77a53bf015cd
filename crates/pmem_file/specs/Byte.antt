-- Words as a file holds them: word w is the eight bytes from byte 8w on, the lowest first.
use Rattle.std.specs.Prelude.{ℕ, ◌+◌, List, [], ◌∷◌, ◌++◌, get_or}
use Rattle.std.specs.Int.{w64, to_le_bytes, from_le_bytes}

-- the bytes of these words, one word after another
abbrev pub bytes_of : List ℕ → List ℕ
bytes_of [] = []
bytes_of (word ∷ words) = to_le_bytes w64 word ++ bytes_of words

-- the words that these bytes are. What is left at the end, fewer than eight bytes, is no word
abbrev pub words_in : List ℕ → List ℕ
words_in (a ∷ b ∷ c ∷ d ∷ e ∷ f ∷ g ∷ h ∷ bytes) = from_le_bytes w64 (a ∷ b ∷ c ∷ d ∷ e ∷ f ∷ g ∷ h ∷ []) ∷ words_in bytes
words_in bytes = []

-- the eight bytes at this place
abbrev pub eight_at : List ℕ → ℕ → List ℕ
eight_at bytes at =
    get_or bytes at 0 ∷ get_or bytes (at + 1) 0 ∷ get_or bytes (at + 2) 0 ∷ get_or bytes (at + 3) 0
    ∷ get_or bytes (at + 4) 0 ∷ get_or bytes (at + 5) 0 ∷ get_or bytes (at + 6) 0 ∷ get_or bytes (at + 7) 0 ∷ []
