-- Runs of bytes, read several at a time.
use Rattle.std.specs.Prelude.{◌≡◌, ℕ, ◌+◌, ◌*◌, ◌<◌, List, [], ◌∷◌, ◌++◌, length}
use Rattle.std.specs.List.{AllByRecursion}

-- the number that the bytes spell after n, the greatest first
abbrev pub big_endian : ℕ → List ℕ → ℕ
big_endian n [] = n
big_endian n (b ∷ bs) = big_endian (n * 256 + b) bs

-- so many bytes spell the number, and the rest are those after them
pub record IsReadOff (count : ℕ) (bytes : List ℕ) (number : ℕ) (rest : List ℕ) : Type 0 where
  pub front : List ℕ
  pub len : length front ≡ count
  pub small : AllByRecursion (λ b. b < 256) front
  pub whole : bytes ≡ front ++ rest
  pub spelled : number ≡ big_endian 0 front
