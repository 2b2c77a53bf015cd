-- What a device over a file with a journal knows of what a crash, or the end of the process, leaves of it.
use Rattle.std.specs.Prelude.{◌≡◌, ◌⊎◌, ℕ, ◌≤◌, ◌*◌, ◌/◌, false, List, ◌∷◌, ◌++◌, length, take, slice_index, get_or}
use Rattle.journal.specs.Record.{Record}
use Rattle.journal.specs.Replay.{replayed}
use Rattle.pmem.specs.Device.{Word}
use Rattle.pmem.specs.Crash.{IsImage, HadImage}
use Rattle.pmem_file.specs.declared.file_journal.FileJournal.{FileJournal}
use Rattle.pmem_file.specs.declared.notes.Notes.{Notes}
use Rattle.pmem_file.specs.Call.{Call, IsFileImage, has_failed}
use Rattle.pmem_file.specs.Holding.{has_passed}
use Rattle.pmem_file.specs.Noted.{is_noted}
use Rattle.pmem_file.specs.Journaled.{IsMadeOf, HasHead, Journals}

-- the copy and the noted lines fit these candidates
pub record Copies (copy : List ℕ) (notes : Notes) (words : ℕ → Word) : Type 0 where
  -- a load gives the newest candidate
  pub newest : (word : ℕ) → slice_index copy word ≡ (words word).newest
  -- where a flush has passed a candidate, the line is noted
  pub noted : (word : ℕ) → is_noted notes (word / 8) ≡ false → has_passed (words word).older ≡ false

-- a crash at some moment from the floor on leaves this image, of a device with these words now and those at earlier moments
abbrev pub IsLeft : (ℕ → Word) → List (ℕ → Word) → ℕ → (ℕ → ℕ) → Type 0
IsLeft words past floor image = IsImage words image ⊎ HadImage past floor image

-- Each record that waits was sealed by a fence since the floor: so the image after the durable records and any first ones of those that wait is one that a
-- crash may leave, and the image after all of them is one of the present words
pub record FollowsMoments (words : ℕ → Word) (past : List (ℕ → Word)) (floor : ℕ) (image : ℕ → ℕ) (synced since : List Record) : Type 0 where
  pub each : (n : ℕ) → n ≤ length since → IsLeft words past floor (replayed (synced ++ take n since) image)
  pub last : IsImage words (replayed (synced ++ since) image)

pub record Follows (journal : FileJournal) (read : List ℕ) (calls : List Call) (words : ℕ → Word) (past : List (ℕ → Word)) (floor : ℕ) : Type 0 where
  pub image : ℕ → ℕ
  pub synced : List Record
  pub since : List Record
  pub journals : Journals journal read calls image synced since
  pub moments : FollowsMoments words past floor image synced since

-- Whatever the file may hold, it has a head, and an opening makes of it what a crash may leave of the device. Where no call has failed, it is known how that
-- goes on
pub record Keeps (journal : FileJournal) (read : List ℕ) (calls : List Call) (words : ℕ → Word) (past : List (ℕ → Word)) (floor : ℕ) : Type 0 where
  pub leaves : (file image : ℕ → ℕ) → IsFileImage read calls file → IsMadeOf journal.head.shape file image → IsLeft words past floor image
  pub head : HasHead journal.head.shape journal.head.generation read calls
  pub follows : has_failed calls ≡ false → Follows journal read calls words past floor

-- behind the lines of a device a load would give 0, now and at each earlier moment
abbrev pub IsBlankBehind : ℕ → (ℕ → Word) → List (ℕ → Word) → Type 0
IsBlankBehind lines words past =
    (k word : ℕ) → 8 * lines ≤ word → (get_or (words ∷ past) k words word).newest ≡ 0
