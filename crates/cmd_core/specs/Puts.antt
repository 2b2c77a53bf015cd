-- How many versions a command may put and how long they are, told from the words after its name: more than it puts, maybe, and never less. A version is
-- stored as the bytes of its key, its field and its value.
use Rattle.std.specs.Prelude.{ℕ, ◌+◌, ◌/◌, ◌≤◌, max, List, [], ◌∷◌, length, take, drop}
use Rattle.std.specs.List.{AllByRecursion}
use Rattle.kv_types.specs.declared.limits.TheConstants.{MAX_VALUE_BYTES}
use Rattle.kv_types.specs.declared.record_id.RecordId.{RecordId}
use Rattle.kv_types.specs.declared.record_id.RecordId.TheVariants.{Str, Field}
use Rattle.kv_types.specs.declared.change.Change.{Change}
use Rattle.kv_types.specs.declared.change.Change.TheVariants.{Put, Drop, DropKey, Clear}
use Rattle.cmd_core.specs.declared.puts.TheConstants.{MAX_INTEGER_BYTES}
use Rattle.cmd_core.specs.declared.puts.Puts.{Puts}
use Rattle.cmd_core.specs.declared.puts.Puts.TheVariants.{Nothing, Words, Integer, Appended, Pairs}
use Rattle.cmd_core.specs.declared.puts.PutBound.{PutBound}

-- the bytes of the words together
abbrev pub bytes_of_words : List (List ℕ) → ℕ
bytes_of_words [] = 0
bytes_of_words (word ∷ words) = length word + bytes_of_words words

-- of pairs of words, one after another, the bytes of the longest
abbrev pub longest_pair : List (List ℕ) → ℕ
longest_pair (first ∷ second ∷ words) = max (length first + length second) (longest_pair words)
longest_pair _ = 0

-- one version of so many bytes
abbrev pub one : ℕ → PutBound
one bytes = record { count = 1; bytes = bytes }

-- the most that is put where these words stand after the command's name
abbrev pub most : Puts → List (List ℕ) → PutBound
most Nothing words = record { count = 0; bytes = 0 }
most (Words n) words = one (bytes_of_words (take n words))
most (Integer n) words = one (bytes_of_words (take n words) + MAX_INTEGER_BYTES)
most Appended words = one (bytes_of_words (take 1 words) + MAX_VALUE_BYTES)
most (Pairs n) words = record { count = length (drop n words) / 2; bytes = bytes_of_words (take n words) + longest_pair (drop n words) }

-- ---- what changes put

abbrev pub bytes_of_id : RecordId → ℕ
bytes_of_id (Str key) = length key
bytes_of_id (Field key field) = length key + length field

-- the bytes of each version that is put, one after another
abbrev pub put_sizes : List Change → List ℕ
put_sizes [] = []
put_sizes (Put id value ∷ changes) = (bytes_of_id id + length value) ∷ put_sizes changes
put_sizes (Drop id ∷ changes) = put_sizes changes
put_sizes (DropKey key ∷ changes) = put_sizes changes
put_sizes (Clear ∷ changes) = put_sizes changes

-- no more versions are put, and no longer ones
pub record PutsWithin (bound : PutBound) (changes : List Change) : Type 0 where
  pub few : length (put_sizes changes) ≤ bound.count
  pub short : AllByRecursion (λ size. size ≤ bound.bytes) (put_sizes changes)
