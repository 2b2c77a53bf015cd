-- What the client asks: the requests that lines spell (this project's profile).
use Rattle.std.specs.Prelude.{ℕ, List, [], ◌∷◌, ◌++◌, map, Bool, true, false, ◌==◌, if◌then◌else◌}
use Rattle.std.specs.List.{filter}

-- the first piece is one byte longer
abbrev pub with_byte : ℕ → List (List ℕ) → List (List ℕ)
with_byte byte [] = (byte ∷ []) ∷ []
with_byte byte (piece ∷ pieces) = (byte ∷ piece) ∷ pieces

-- the pieces between the bytes of this value, empty ones too
abbrev pub pieces_at : ℕ → List ℕ → List (List ℕ)
pieces_at separator [] = [] ∷ []
pieces_at separator (byte ∷ bytes) = if byte == separator then [] ∷ pieces_at separator bytes else with_byte byte (pieces_at separator bytes)

abbrev pub holds_any : {A : Type 0} → List A → Bool
holds_any [] = false
holds_any (x ∷ xs) = true

-- the words of a line: what stands between runs of spaces
abbrev pub words_of : List ℕ → List (List ℕ)
words_of line = filter holds_any (pieces_at 32 line)

-- the words that a piece between spaces makes: one, unless it is empty
abbrev pub one_word : List ℕ → List (List ℕ)
one_word piece = filter holds_any (piece ∷ [])

-- this piece goes on with the first of the others
abbrev pub joined : List ℕ → List (List ℕ) → List (List ℕ)
joined piece [] = piece ∷ []
joined piece (next ∷ pieces) = (piece ++ next) ∷ pieces

-- the words of a line from a piece on that was read, and the bytes behind it
abbrev pub words_behind : (piece rest : List ℕ) → List (List ℕ)
words_behind piece rest = filter holds_any (joined piece (pieces_at 32 rest))

-- the request that words make, if there is any
abbrev pub one_request : List (List ℕ) → List (List (List ℕ))
one_request words = filter holds_any (words ∷ [])

-- the requests of an input: the words of each line that has any
abbrev pub requests_of : List ℕ → List (List (List ℕ))
requests_of input = filter holds_any (map words_of (pieces_at 10 input))
