-- A number made of a key (this project's profile).
use Rattle.std.specs.Prelude.{ℕ, ◌+◌, ◌*◌, ◌%◌, ◌^◌, List, [], ◌∷◌}
use Rattle.heap_layout.specs.declared.tagged.TheConstants.{TAG_FACTOR}

-- with the bytes of a key behind those of which the number was made
abbrev pub tag_from : ℕ → List ℕ → ℕ
tag_from tag [] = tag
tag_from tag (byte ∷ bytes) = tag_from (((tag * TAG_FACTOR) % 2 ^ 64 + byte) % 2 ^ 64) bytes

abbrev pub tag_of : List ℕ → ℕ
tag_of key = tag_from 0 key
