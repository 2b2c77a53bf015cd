-- The shapes of requests (this project's profile): how many words, and which of them are keys or fields.
use Rattle.std.specs.Prelude.{ℕ, ◌+◌, ◌≤◌, ◌%◌, ◌==◌, Bool, true, false, IsTrue, ◌&&◌, if◌then◌else◌, nat_le, List, [], ◌∷◌, length}
use Rattle.std.specs.List.{AllByRecursion}
use Rattle.kv_types.specs.declared.limits.TheConstants.{MAX_KEY_BYTES, MAX_VALUE_BYTES}
use Rattle.cmd_core.specs.declared.shape.WordCount.{WordCount}
use Rattle.cmd_core.specs.declared.shape.WordCount.TheVariants.{Exactly, AtLeast, Between, OddFrom, EvenFrom}
use Rattle.cmd_core.specs.declared.shape.Keys.{Keys}
use Rattle.cmd_core.specs.declared.shape.Keys.TheVariants as keys

-- a request may have so many words, the name among them
abbrev pub takes : WordCount → ℕ → Bool
takes (Exactly n) count = count == n
takes (AtLeast least) count = nat_le least count
takes (Between least most) count = nat_le least count && nat_le count most
takes (OddFrom least) count = nat_le least count && count % 2 == 1
takes (EvenFrom least) count = nat_le least count && count % 2 == 0

-- the next word is a key or a field
abbrev pub names_next : Keys → Bool
names_next keys.None = false
names_next keys.First = true
names_next keys.FirstTwo = true
names_next keys.All = true
names_next keys.EverySecond = true
names_next keys.SkipOne = false
names_next keys.FirstAndPairs = true

-- which are keys or fields among the words after the next
abbrev pub after_next : Keys → Keys
after_next keys.None = keys.None
after_next keys.First = keys.None
after_next keys.FirstTwo = keys.First
after_next keys.All = keys.All
after_next keys.EverySecond = keys.SkipOne
after_next keys.SkipOne = keys.EverySecond
after_next keys.FirstAndPairs = keys.EverySecond

-- no key or field is too long
abbrev pub are_short : Keys → List (List ℕ) → Bool
are_short k [] = true
are_short k (word ∷ words) = (if names_next k then nat_le (length word) MAX_KEY_BYTES else true) && are_short (after_next k) words

-- the words after the name are as asked, and each may be a value
pub record Fits (words : WordCount) (k : Keys) (arguments : List (List ℕ)) : Type 0 where
  pub count : IsTrue (takes words (length arguments + 1))
  pub names : IsTrue (are_short k arguments)
  pub values : AllByRecursion (λ word. length word ≤ MAX_VALUE_BYTES) arguments
