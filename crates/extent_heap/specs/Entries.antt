-- Which entries are free: item `i` is of entry `i`.
use Rattle.std.specs.Prelude.{◌≡◌, ℕ, ◌+◌, ◌<◌, Bool, false, if◌then◌else◌, IsTrue, List, [], ◌∷◌, get_or}

-- the entry is free: none beyond the end is
abbrev pub is_free : List Bool → ℕ → Bool
is_free entries i = get_or entries i false

-- how many entries are free
abbrev pub count_free : List Bool → ℕ
count_free [] = 0
count_free (free ∷ entries) = (if free then 1 else 0) + count_free entries

-- The entry is the lowest free one.
pub record IsLowest (entries : List Bool) (entry : ℕ) : Type 0 where
  pub is : IsTrue (is_free entries entry)
  pub before : (i : ℕ) → i < entry → is_free entries i ≡ false
