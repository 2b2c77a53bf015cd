-- The free entries in bits.
use Rattle.std.specs.Prelude.{◌≡◌, ℕ, ◌+◌, ◌/◌, ◌^◌, ◌<◌, IsTrue, List, length}
use Rattle.extent_heap.specs.Bits.{has_bit, flags, IsSummary}
use Rattle.extent_heap.specs.Entries.{count_free}

-- No entry from the end on is free, each set of marks follows the one below it, and there is a word for each mark.
pub record IsEntrySet (end : ℕ) (entries words blocks : List ℕ) (free : ℕ) : Type 0 where
  pub small : end < 2 ^ 64
  pub within : (i : ℕ) → IsTrue (has_bit entries i) → i < end
  pub words_follow : IsSummary entries words
  pub blocks_follow : IsSummary words blocks
  pub entries_size : length entries ≡ end / 64 + 1
  pub words_size : length words ≡ end / 4096 + 1
  pub blocks_size : length blocks ≡ end / 262144 + 1
  pub count : free ≡ count_free (flags entries end)
