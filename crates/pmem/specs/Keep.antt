-- The moment that the next crash picks from, and what is kept of it.
use Rattle.std.specs.Prelude.{◌≡◌, ℕ, ◌+◌, ◌≤◌, Bool, true, false, length, Option, Some, None}
use Rattle.pmem.specs.declared.keep.Keep.{Keep}
use Rattle.pmem.specs.declared.keep.Keep.TheVariants.{Unasked, Awaited, Kept, Forgotten}
use Rattle.pmem.specs.declared.history.History.{History}
use Rattle.pmem.specs.Device.{Word}
use Rattle.pmem.specs.Crash.{words_at}
use Rattle.pmem.specs.History.{words_of, past_of}
use Rattle.pmem.specs.Cell.{Holds}
use Rattle.pmem.specs.declared.cells.Cells.{Cells}

-- the moment that is or will be kept, if the present moment is `now`
abbrev pub kept_moment : Keep → ℕ → Option ℕ
kept_moment Unasked now = None
kept_moment (Awaited more) now = Some (now + 1 + more)
kept_moment (Kept cells after) now = Some (length (past_of after.value))
kept_moment (Forgotten after) now = Some (length (past_of after.value))

-- the candidates that the next crash picks from, as far as they are known
abbrev pub words_kept : Keep → History → ℕ → Word
words_kept Unasked now = words_of now
words_kept (Awaited more) now = words_of now
words_kept (Kept cells after) now = words_of after.value
words_kept (Forgotten after) now = words_of now

-- there was no memory for the copy
abbrev pub is_forgotten : Keep → Bool
is_forgotten Unasked = false
is_forgotten (Awaited more) = false
is_forgotten (Kept cells after) = false
is_forgotten (Forgotten after) = true

-- a copy with `lines'` lines holds the candidates of a moment that the device has gone through
pub record HoldsCopy (cells : Cells) (after : History) (lines' : ℕ) (now : History) (starved : Bool) : Type 0 where
  pub held : Holds cells (words_of after) starved
  pub lines : length cells.heads.items ≡ lines'
  pub before : length (past_of after) ≤ length (past_of now)
  pub went : (word : ℕ) → words_at (words_of now) (past_of now) (length (past_of after)) word ≡ words_of after word

-- what is kept is true of the device, which is starved if there was no memory for a copy
abbrev pub HoldsKept : Keep → ℕ → History → Bool → Type 0
HoldsKept Unasked lines now starved = Unit {0}
HoldsKept (Awaited more) lines now starved = Unit {0}
HoldsKept (Kept cells after) lines now starved = HoldsCopy cells after.value lines now starved
HoldsKept (Forgotten after) lines now starved = starved ≡ true
