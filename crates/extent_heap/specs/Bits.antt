-- Numbers that are marked by the bits of words, 64 to a word.
use Rattle.std.specs.Prelude.{◌≡◌, ◌≢◌, ℕ, ◌/◌, ◌%◌, ◌<◌, Bool, false, not, nat_eq, if◌then◌else◌, IsTrue, List, map, length, get_or}
use Rattle.std.specs.Int.{bit_at}
use Rattle.std.specs.List.{range_with_len}

-- the number is marked
abbrev pub has_bit : List ℕ → ℕ → Bool
has_bit words i = nat_eq (bit_at (get_or words (i / 64) 0) (i % 64)) 1

-- which numbers below an end are marked
abbrev pub flags : List ℕ → ℕ → List Bool
flags words end = map (has_bit words) (range_with_len 0 end)

-- the word has a number that is marked
abbrev pub has_some : List ℕ → ℕ → Bool
has_some words k = not (nat_eq (get_or words k 0) 0)

-- The number is marked or not, as `mark` says, and each other is as it was; `any` tells whether its word has one that is.
pub record Assigns (old : List ℕ) (number : ℕ) (mark : Bool) (new : List ℕ) (any : Bool) : Type 0 where
  pub size : length new ≡ length old
  pub bits : (i : ℕ) → has_bit new i ≡ (if nat_eq i number then mark else has_bit old i)
  pub others : (k : ℕ) → k ≢ number / 64 → get_or new k 0 ≡ get_or old k 0
  pub some : any ≡ has_some new (number / 64)

-- The word is the first that has a number that is marked.
pub record IsFirstWord (words : List ℕ) (k : ℕ) : Type 0 where
  pub some : 0 < get_or words k 0
  pub before : (j : ℕ) → j < k → get_or words j 0 ≡ 0

-- The number is the first that is marked.
pub record IsFirstBit (words : List ℕ) (i : ℕ) : Type 0 where
  pub is : IsTrue (has_bit words i)
  pub before : (j : ℕ) → j < i → has_bit words j ≡ false

-- marks over the words of another, that tell which of them have a number that is marked
abbrev pub IsSummary : List ℕ → List ℕ → Type 0
IsSummary words above = (k : ℕ) → has_bit above k ≡ has_some words k
