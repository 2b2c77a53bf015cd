-- The words of a request and their limits.
use Rattle.std.specs.Prelude.{ℕ, ◌<◌, ◌≤◌, List, length}
use Rattle.std.specs.List.{AllByRecursion}
use Rattle.kv_types.specs.declared.limits.Limits.{Limits}
use Rattle.kv_types.specs.declared.limits.TheConstants.{REQUEST_LIMITS}

-- no more words than the limit, and none longer than the limit
pub record IsWithin (limits : Limits) (words : List (List ℕ)) : Type 0 where
  pub count : length words ≤ limits.words
  pub lengths : AllByRecursion (λ word. length word ≤ limits.word_bytes) words

-- the words of one command: at least its name, and within the full limits
pub record AreWords (words : List (List ℕ)) : Type 0 where
  pub named : 0 < length words
  pub within : IsWithin REQUEST_LIMITS words
