-- What a crash leaves: any candidate of each word, independently of the other words.
use Rattle.std.specs.Prelude.{◌≡◌, ◌⊎◌, ℕ, zero, suc, ◌+◌, ◌%◌, ◌≤◌, true, nat_le, if◌then◌else◌, List, [], ◌∷◌, length, slice_index, Option, Some, None}
use Rattle.pmem.specs.Device.{Older, Word, State, MayBe, candidates}

-- a crash may leave this image of these words: one candidate of each word, chosen independently
abbrev pub IsImage : (ℕ → Word) → (ℕ → ℕ) → Type 0
IsImage words image = (word : ℕ) → MayBe (words word) (image word)

-- the words of some past moment, t or later, have this image
abbrev pub HadImage : List (ℕ → Word) → ℕ → (ℕ → ℕ) → Type 0
HadImage [] t image = ⊥
HadImage (words ∷ past) t image = ((t ≤ length past) × IsImage words image) ⊎ HadImage past t image

-- a crash at some moment since t may leave this image
abbrev pub MayLeave : State → ℕ → (ℕ → ℕ) → Type 0
MayLeave d t image = IsImage d.words image ⊎ HadImage d.past t image

-- each word has one candidate, as after a crash
abbrev pub IsSettled : (ℕ → Word) → Type 0
IsSettled words = (word : ℕ) → (words word).older ≡ []

-- what loads return
abbrev pub image_of : (ℕ → Word) → ℕ → ℕ
image_of words word = (words word).newest

-- the words at moment t, or the present words if t is not in the past
abbrev pub words_at : (ℕ → Word) → List (ℕ → Word) → ℕ → ℕ → Word
words_at now [] t = now
words_at now (words ∷ past) t = if nat_le t (length past) then words_at words past t else now

-- the words that the next crash picks from
abbrev pub words_to_crash : State → Option ℕ → ℕ → Word
words_to_crash d None = d.words
words_to_crash d (Some t) = words_at d.words d.past t

abbrev pub has_several : List Older → ℕ
has_several [] = 0
has_several (o ∷ older) = 1

-- how many words below this one have several candidates
abbrev pub several_below : (ℕ → Word) → ℕ → ℕ
several_below words zero = 0
several_below words (suc word) = several_below words word + has_several (words word).older

-- what a crash leaves with these picks: the i-th word with several candidates, in ascending order, gets the candidate with the index of
-- the i-th pick modulo their number, where 0 is the oldest; without such a pick it gets the oldest
abbrev pub picked : (ℕ → Word) → List ℕ → ℕ → ℕ
picked words picks word =
    slice_index (candidates (words word)) (slice_index picks (several_below words word) % length (candidates (words word)))

-- after a crash: a fence that was asked to fail still will, and no moment is kept
pub record Restarts (old new : State) : Type 0 where
  pub settled : IsSettled new.words
  pub past : new.past ≡ old.words ∷ old.past
  pub lines : new.lines ≡ old.lines
  pub failures : new.failures ≡ old.failures
  pub starved : new.starved ≡ old.starved
  pub fences : new.fences ≡ old.fences
  pub kept : new.kept ≡ None

-- the device is asked to keep moment t: nothing else changes, except that the copy may starve the device
pub record Keeps (old new : State) (t : ℕ) : Type 0 where
  pub words : new.words ≡ old.words
  pub past : new.past ≡ old.past
  pub lines : new.lines ≡ old.lines
  pub failures : new.failures ≡ old.failures
  pub starved : old.starved ≡ true → new.starved ≡ true
  pub fences : new.fences ≡ old.fences
  pub kept : new.kept ≡ Some t
