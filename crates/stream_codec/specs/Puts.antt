-- Bytes appended to a writer.
use Rattle.std.specs.Prelude.{◌≡◌, ℕ, ◌+◌, ◌<◌, ◌≤◌, List, ◌++◌, length, Result, Ok, Err}

-- The bytes were appended and took at most their own length of the spare room, or the spare room was too small for them.
abbrev pub Puts : {T E : Type 0} → Result T E → (old new : List ℕ) → (old_spare new_spare : ℕ) → List ℕ → Type 0
Puts (Ok x) old new old_spare new_spare bytes = (new ≡ old ++ bytes) × (old_spare ≤ new_spare + length bytes)
Puts (Err e) old new old_spare new_spare bytes = old_spare < length bytes
