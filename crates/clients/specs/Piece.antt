-- What one read gave.
use Rattle.std.specs.Prelude.{ℕ, List, [], Option, None, Some}

-- the bytes that were read, and none where nothing was
abbrev pub bytes_of : Option (List ℕ) → List ℕ
bytes_of None = []
bytes_of (Some bytes) = bytes
