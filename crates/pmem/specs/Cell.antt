-- The candidates of a simulated device, as its lists hold them.
use Rattle.std.specs.Prelude.{◌≡◌, ℕ, zero, suc, ◌*◌, ◌/◌, ◌<◌, Bool, true, false, ◌||◌, ◌==◌, if◌then◌else◌, List, [], ◌∷◌, ◌++◌, length, slice_index, slice_index_or, Option, Some, None}
use Rattle.pmem.specs.declared.cells.Candidate.{Candidate}
use Rattle.pmem.specs.declared.cells.Cells.{Cells}
use Rattle.pmem.specs.Device.{Older, Word}

-- the candidate at this index of the pool
abbrev pub at : List Candidate → ℕ → Candidate
at pool k = slice_index_or pool k (record { word = 0; value = 0; passed = false; next = None })

-- the index of the last candidate of the line among the first n
abbrev pub last_below : (ℕ → Candidate) → ℕ → ℕ → Option ℕ
last_below pool line zero = None
last_below pool line (suc n) = if (pool n).word / 8 == line then Some n else last_below pool line n

abbrev pub older_of : Candidate → ℕ → List Older
older_of c word = if word == c.word then record { value = c.value; passed = c.passed } ∷ [] else []

-- the older candidates of the word among the first n, the oldest first
abbrev pub older_below : (ℕ → Candidate) → ℕ → ℕ → List Older
older_below pool word zero = []
older_below pool word (suc n) = older_below pool word n ++ older_of (pool n) word

-- the older candidates of a word
abbrev pub older_in : List Candidate → ℕ → List Older
older_in pool word = older_below (at pool) word (length pool)

-- each line has a head, which leads to its last candidate, from there to the previous one, and so on
pub record IsChained (heads' : List (Option ℕ)) (pool : List Candidate) : Type 0 where
  pub heads : (line : ℕ) → line < length heads' → slice_index_or heads' line None ≡ last_below (at pool) line (length pool)
  pub nexts : (k : ℕ) → k < length pool → (at pool k).next ≡ last_below (at pool) ((at pool k).word / 8) k
  pub lines : (k : ℕ) → k < length pool → (at pool k).word / 8 < length heads'

-- whether one of the older candidates has this value
abbrev pub is_older : List Older → ℕ → Bool
is_older [] x = false
is_older (o ∷ older) x = (x == o.value) || is_older older x

abbrev pub may_be : Word → ℕ → Bool
may_be word x = (x == word.newest) || is_older word.older x

-- the lists hold these words: exactly their candidates, or only some of them if the device is starved
pub record HoldsIn (newest' : List ℕ) (heads : List (Option ℕ)) (pool : List Candidate) (words : ℕ → Word) (starved : Bool) : Type 0 where
  pub sizes : length newest' ≡ 8 * length heads
  pub chained : IsChained heads pool
  pub newest : (word : ℕ) → slice_index newest' word ≡ (words word).newest
  pub exact : starved ≡ false → (word : ℕ) → older_in pool word ≡ (words word).older
  pub within : (word x : ℕ) → is_older (older_in pool word) x ≡ true → may_be (words word) x ≡ true

abbrev pub Holds : Cells → (ℕ → Word) → Bool → Type 0
Holds cells words starved = HoldsIn cells.newest.items cells.heads.items cells.pool.items words starved

-- what the lists themselves hold
abbrev pub held_in : List ℕ → List Candidate → ℕ → Word
held_in newest pool word = record { newest = slice_index newest word; older = older_in pool word }

abbrev pub held : Cells → ℕ → Word
held cells = held_in cells.newest.items cells.pool.items
