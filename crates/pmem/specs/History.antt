-- What a device has gone through, call by call.
use Rattle.std.specs.Prelude.{ℕ, suc, List, [], ◌∷◌, slice_index}
use Rattle.pmem.specs.declared.history.History.{History}
use Rattle.pmem.specs.declared.history.History.TheVariants.{Zeros, Opened, Stored', Flushed', Fenced', Failed', Unsynced', Crashed'}
use Rattle.pmem.specs.Device.{Word, settled, store_at, flush_at, fenced}

-- the candidates of each word
abbrev pub words_of : History → ℕ → Word
words_of Zeros = λ word. settled 0
words_of (Opened words) = λ word. settled (slice_index words.value.items word)
words_of (Stored' word value mark before) = store_at word.value value.value (words_of before)
words_of (Flushed' line mark before) = flush_at line.value (words_of before)
words_of (Fenced' mark before) = fenced (words_of before)
words_of (Failed' mark before) = words_of before
words_of (Unsynced' mark before) = words_of before
words_of (Crashed' left mark before) = λ word. settled (slice_index left.value.items word)

-- the candidates before each call but the syncs
abbrev pub past_of : History → List (ℕ → Word)
past_of Zeros = []
past_of (Opened words) = []
past_of (Stored' word value mark before) = words_of before ∷ past_of before
past_of (Flushed' line mark before) = words_of before ∷ past_of before
past_of (Fenced' mark before) = words_of before ∷ past_of before
past_of (Failed' mark before) = words_of before ∷ past_of before
past_of (Unsynced' mark before) = past_of before
past_of (Crashed' left mark before) = words_of before ∷ past_of before

-- how many fences and syncs have failed
abbrev pub failures_of : History → ℕ
failures_of Zeros = 0
failures_of (Opened words) = 0
failures_of (Stored' word value mark before) = failures_of before
failures_of (Flushed' line mark before) = failures_of before
failures_of (Fenced' mark before) = failures_of before
failures_of (Failed' mark before) = suc (failures_of before)
failures_of (Unsynced' mark before) = suc (failures_of before)
failures_of (Crashed' left mark before) = failures_of before
