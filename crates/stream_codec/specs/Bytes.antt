-- Reading numbers and runs of bytes from the front of bytes that may be only the beginning of what is read.
use Rattle.std.specs.Prelude.{ℕ, ◌≡◌, ◌+◌, ◌-◌, ◌*◌, ◌^◌, ◌<◌, List, [], ◌∷◌, length, take, drop, get_or, ◌&&◌, if◌then◌else◌, nat_lt, nat_le, Result, Ok, Err}
use Rattle.kv_types.specs.declared.stop.Stop.{Stop}
use Rattle.kv_types.specs.declared.stop.Stop.TheVariants.{Short, Broken}
use Rattle.kv_types.specs.Reader.{Read, ◌>>=◌}

-- what a reader of frames answers; it tells no more of a fault than that there is one
abbrev pub Outcome : Type 0 → Type 0
Outcome A = Result (Read A) (Stop Unit)

-- what the first of two readers answers of the same bytes, or the second where these break the first
abbrev pub or_else : {A : Type 0} → Outcome A → Outcome A → Outcome A
or_else (Ok read) other = Ok read
or_else (Err Short) other = Err Short
or_else (Err (Broken fault)) other = other

-- each is a byte
abbrev pub IsBytes : List ℕ → Type 0
IsBytes bytes = (i : ℕ) → get_or bytes i 0 < 256

-- what each byte of a big-endian number counts
abbrev pub two_places : List ℕ
two_places = 256 ∷ 1 ∷ []

abbrev pub four_places : List ℕ
four_places = 2 ^ 24 ∷ 2 ^ 16 ∷ 2 ^ 8 ∷ 1 ∷ []

abbrev pub eight_places : List ℕ
eight_places = 2 ^ 56 ∷ 2 ^ 48 ∷ 2 ^ 40 ∷ 2 ^ 32 ∷ 2 ^ 24 ∷ 2 ^ 16 ∷ 2 ^ 8 ∷ 1 ∷ []

-- how many numbers have these places
abbrev pub span : List ℕ → ℕ
span [] = 1
span (place ∷ places) = 256 * place

-- each byte counts 256 times what the next one does, and the last counts 1
abbrev pub ArePlaces : List ℕ → Type 0
ArePlaces [] = Unit {0}
ArePlaces (place ∷ places) = (place ≡ span places) × ArePlaces places

-- A number from `least` to `most`, of which the bytes so far count `sum`. It is broken at the first byte with which no number from `least` to
-- `most` begins.
abbrev pub number_from : List ℕ → ℕ → ℕ → ℕ → List ℕ → Outcome ℕ
number_from [] least most sum bytes = Ok (sum, bytes)
number_from (place ∷ places) least most sum [] = Err Short
number_from (place ∷ places) least most sum (byte ∷ bytes) =
    if nat_lt byte 256 && nat_le (sum + byte * place) most && nat_le least (sum + byte * place + (place - 1))
    then number_from places least most (sum + byte * place) bytes
    else Err (Broken tt)

-- a number from `least` to `most` in as many bytes as there are places
abbrev pub number_at : List ℕ → ℕ → ℕ → List ℕ → Outcome ℕ
number_at places least most bytes = number_from places least most 0 bytes

-- as many bytes as are told
abbrev pub bytes_at : ℕ → List ℕ → Outcome (List ℕ)
bytes_at count bytes = if nat_lt (length bytes) count then Err Short else Ok (take count bytes, drop count bytes)

-- a length of at most `most` in these places, and so many bytes
abbrev pub counted_at : List ℕ → ℕ → List ℕ → Outcome (List ℕ)
counted_at places most bytes = number_at places 0 most bytes >>= λ count. bytes_at count.0 count.1
