-- What a device over a file knows of its candidates.
use Rattle.std.specs.Prelude.{◌≡◌, ℕ, ◌/◌, ◌<◌, Bool, true, false, ◌||◌, List, [], ◌∷◌, length, slice_index}
use Rattle.pmem_file.specs.declared.notes.Notes.{Notes}
use Rattle.pmem.specs.Device.{Older, Word}
use Rattle.pmem.specs.Cell.{may_be}
use Rattle.pmem_file.specs.Call.{Call, may_hold}
use Rattle.pmem_file.specs.Noted.{is_noted}

-- some older candidate was passed
abbrev pub has_passed : List Older → Bool
has_passed [] = false
has_passed (o ∷ older) = o.passed || has_passed older

-- the copy, the noted lines and the file, which held these words when it was read, fit these candidates
pub record Holds (copy : List ℕ) (notes : Notes) (read : List ℕ) (calls : List Call) (words : ℕ → Word) : Type 0 where
  -- a load gives the newest candidate
  pub newest : (word : ℕ) → slice_index copy word ≡ (words word).newest
  -- where a flush has passed a candidate, the line is noted
  pub noted : (word : ℕ) → is_noted notes (word / 8) ≡ false → has_passed (words word).older ≡ false
  -- a crash leaves nothing in their place in the file but candidates
  pub within : (word x : ℕ) → word < length copy → may_hold read calls word x ≡ true → may_be (words word) x ≡ true
