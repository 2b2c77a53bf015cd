-- What the calls on a file do to the words that it may hold.
use Rattle.std.specs.Prelude.{◌≡◌, ℕ, ◌+◌, ◌-◌, ◌/◌, Bool, true, false, ◌&&◌, ◌||◌, ◌==◌, nat_le, nat_lt, List, ◌∷◌, slice_index}
use Rattle.pmem_file.specs.Call.{Call, Synced, has_failed, written, may_hold}
use Rattle.pmem_file.specs.Line.{has_line}

-- what was asked between two moments brought nothing but these values to these words
abbrev pub MayWrite : (ℕ → Bool) → (ℕ → ℕ) → List Call → List Call → Type 0
MayWrite touched value old new =
    (read : List ℕ) (word x : ℕ) → may_hold read new word x ≡ true → (may_hold read old word x || (touched word && (x == value word))) ≡ true

-- it wrote these values to these words, and nothing else. Until a sync each of them may still be what it was
pub record Writes (touched : ℕ → Bool) (value : ℕ → ℕ) (old new : List Call) : Type 0 where
  pub last : (read : List ℕ) (word : ℕ) → touched word ≡ true → written read new word ≡ value word
  pub others : (read : List ℕ) (word : ℕ) → touched word ≡ false → written read new word ≡ written read old word
  pub within : MayWrite touched value old new

-- it wrote them and then synced the file
pub record Commits (touched : ℕ → Bool) (value : ℕ → ℕ) (old new : List Call) : Type 0 where
  pub between : List Call
  pub writes : Writes touched value old between
  pub unfailed : has_failed between ≡ false
  pub synced : new ≡ Synced true ∷ between

-- the words of a file that so many go to, from this one on
abbrev pub is_among : ℕ → ℕ → ℕ → Bool
is_among first count word = nat_le first word && nat_lt word (first + count)

-- these words, from this word of a file on
abbrev pub from : ℕ → List ℕ → ℕ → ℕ
from first words word = slice_index words (word - first)

-- the words of these lines
abbrev pub is_in : List ℕ → ℕ → Bool
is_in lines word = has_line lines (word / 8)

-- each word of these, and 0 behind them
abbrev pub word_of : List ℕ → ℕ → ℕ
word_of words word = slice_index words word

-- zeros
abbrev pub blank : ℕ → ℕ
blank word = 0
