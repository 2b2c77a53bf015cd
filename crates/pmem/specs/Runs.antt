-- What runs of calls do, for the layers above.
use Rattle.std.specs.Prelude.{◌≡◌, ◌⊎◌, ℕ, zero, suc, ◌+◌, ◌/◌, true, ◌==◌, if◌then◌else◌, List, [], ◌∷◌, ◌++◌}
use Rattle.pmem.specs.Device.{Word, State, Fences, MayBe, Only, store_at, flush_at, moment, fences_after, is_asked, is_unsure}
use Rattle.pmem.specs.Crash.{IsImage, MayLeave, image_of}

-- stores of these pairs of a word and a value, in this order
abbrev pub stores : List (ℕ × ℕ) → (ℕ → Word) → ℕ → Word
stores [] words = words
stores (pair ∷ pairs) words = stores pairs (store_at pair.0 pair.1 words)

-- flushes of these lines, in this order
abbrev pub flushes : List ℕ → (ℕ → Word) → ℕ → Word
flushes [] words = words
flushes (line ∷ lines) words = flushes lines (flush_at line words)

-- the words that these values go to, each with its value: consecutive words, starting at `first`
abbrev pub pairs_from : ℕ → List ℕ → List (ℕ × ℕ)
pairs_from first [] = []
pairs_from first (x ∷ values) = (first, x) ∷ pairs_from (first + 1) values

-- the given number of consecutive lines, starting at `first`
abbrev pub lines_from : ℕ → ℕ → List ℕ
lines_from first zero = []
lines_from first (suc n) = first ∷ lines_from (first + 1) n

-- one of the pairs stores this value at this word
abbrev pub IsStored : List (ℕ × ℕ) → ℕ → ℕ → Type 0
IsStored [] word x = ⊥
IsStored (pair ∷ pairs) word x = ((pair.0 ≡ word) × (pair.1 ≡ x)) ⊎ IsStored pairs word x

-- no pair stores at this word
abbrev pub IsOutside : List (ℕ × ℕ) → ℕ → Type 0
IsOutside pairs word = (x : ℕ) → IsStored pairs word x → ⊥

-- the image with these pairs stored, in this order
abbrev pub written : List (ℕ × ℕ) → (ℕ → ℕ) → ℕ → ℕ
written [] image = image
written (pair ∷ pairs) image = written pairs (λ word. if word == pair.0 then pair.1 else image word)

-- each word is one of its candidates, or one of the pairs stores its value there
abbrev pub IsPartlyStored : List (ℕ × ℕ) → (ℕ → Word) → (ℕ → ℕ) → Type 0
IsPartlyStored pairs words image = (word : ℕ) → MayBe (words word) (image word) ⊎ IsStored pairs word (image word)

-- the line is one of these
abbrev pub IsLine : List ℕ → ℕ → Type 0
IsLine [] line = ⊥
IsLine (l ∷ lines) line = (l ≡ line) ⊎ IsLine lines line

-- what no store, flush or fence of a run changes
pub record Stays (old new : State) : Type 0 where
  pub lines : new.lines ≡ old.lines
  pub kept : new.kept ≡ old.kept
  pub starved : old.starved ≡ true → new.starved ≡ true

-- the words of each moment that a device has gone through, the present ones first
abbrev pub words_gone_through : State → List (ℕ → Word)
words_gone_through d = d.words ∷ d.past

-- The new state comes after the old one: it has gone through all that the old one had gone through, its words then among it, and then perhaps more.
pub record HasPassed (old new : State) : Type 0 where
  pub more : List (ℕ → Word)
  pub goes_on : words_gone_through new ≡ more ++ words_gone_through old

-- The device passed `old` and came to `new`, and a crash at any moment since `old` leaves an image that satisfies P.
pub record LeavesOnly (old new : State) (P : (ℕ → ℕ) → Type 0) : Type 0 where
  pub passed : HasPassed old new
  pub each : (image : ℕ → ℕ) → MayLeave new (moment old) image → P image

-- A fence that failed had a cause: the device is starved, or the fence was asked to fail, or any fence may fail.
abbrev pub HasCause : Fences → State → Type 0
HasCause fences new = (new.starved ≡ true) ⊎ ((is_asked fences ≡ true) ⊎ (is_unsure fences ≡ true))

-- A run without a fence led from old to new: its words are these, and a crash at any moment of it leaves one of their images.
pub record Runs (old new : State) (words' : ℕ → Word) : Type 0 where
  pub words : new.words ≡ words'
  pub failures : new.failures ≡ old.failures
  pub fences : new.fences ≡ old.fences
  pub stays : Stays old new
  pub moments : LeavesOnly old new (IsImage words')

-- Stores of these pairs, flushes of these lines and a fence that succeeded led from old to new.
pub record Staged (old new : State) (pairs : List (ℕ × ℕ)) (lines' : List ℕ) : Type 0 where
  -- what loads return
  pub newest : (word : ℕ) → image_of new.words word ≡ written pairs (image_of old.words) word
  -- in the flushed lines a crash leaves exactly that
  pub certain : (word : ℕ) → IsLine lines' (word / 8) → Only (new.words word) (written pairs (image_of old.words) word)
  -- elsewhere it leaves nothing that it could not leave before
  pub elsewhere : (word y : ℕ) → IsOutside pairs word → MayBe (new.words word) y → MayBe (old.words word) y
  pub failures : new.failures ≡ old.failures
  pub fences : new.fences ≡ fences_after old.fences
  pub stays : Stays old new
  pub moments : LeavesOnly old new (IsPartlyStored pairs old.words)

-- The same, but the fence failed: nothing is certain.
pub record StageFailed (old new : State) (pairs : List (ℕ × ℕ)) : Type 0 where
  pub newest : (word : ℕ) → image_of new.words word ≡ written pairs (image_of old.words) word
  pub failures : new.failures ≡ suc old.failures
  pub fences : new.fences ≡ fences_after old.fences
  pub stays : Stays old new
  pub moments : LeavesOnly old new (IsPartlyStored pairs old.words)
