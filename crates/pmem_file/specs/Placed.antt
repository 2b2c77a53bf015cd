-- A device over a file without a journal: what it has gone through, and what it asked of its file.
use Rattle.std.specs.Prelude.{◌≡◌, ℕ, ◌*◌, ◌^◌, ◌<◌, ◌≤◌, true, false, List, [], ◌∷◌, None, vec_len, slice_index}
use Rattle.std.specs.List.Sorted.{IsNonDecreasing}
use Rattle.std.proofs.Common.{le_refl}
use Rattle.pmem.specs.Device.{State, settled, moment}
use Rattle.pmem.specs.Device.Fences.{Unsure}
use Rattle.pmem.specs.Floor.{MayBeLeft}
use Rattle.pmem.specs.History.{words_of, past_of, failures_of}
use Rattle.pmem_file.specs.declared.placed.PlacedFile.{PlacedFile}
use Rattle.pmem_file.specs.Call.{Call, Measured, Synced, IsFileImage, read_of, calls_of}
use Rattle.pmem_file.specs.Line.{has_line, runs_of, with_writes}
use Rattle.pmem_file.specs.Noted.{is_noted}
use Rattle.pmem_file.specs.Opening.{Step, steps_of}

-- Each fence may fail. The device takes no memory once it is open, so it is never starved of any
abbrev pub state_of : PlacedFile → State
state_of device =
    record {
      words = words_of device.history;
      past = past_of device.history;
      lines = vec_len device.notes.marks;
      failures = failures_of device.history;
      starved = false;
      fences = Unsure;
      kept = None;
    }

-- a fence that succeeds syncs the file, so what the file may hold is an image of the present words
abbrev pub floor_of : PlacedFile → ℕ
floor_of device = moment (state_of device)

pub reached : (device : PlacedFile) → floor_of device ≤ moment (state_of device)
reached device = le_refl (moment (state_of device))

-- its words can be counted
pub countable : (device : PlacedFile) → 8 * (state_of device).lines < 2 ^ 64
countable device = device.countable

-- the words that the file held when it was opened
abbrev pub read_by : PlacedFile → List ℕ
read_by device = read_of device.file.calls

-- what was asked of the file since, the newest call first
abbrev pub asked_by : PlacedFile → List Call
asked_by device = calls_of device.file.calls

-- what was asked of the file before the device was there, the newest call first
abbrev pub opening_by : PlacedFile → List Step
opening_by device = steps_of device.opening

-- a device that was just opened: nothing was asked of it or of its file, and a crash leaves its words
pub record IsFresh (device : PlacedFile) : Type 0 where
  pub words : (state_of device).words ≡ (λ word. settled (slice_index device.words word))
  pub past : (state_of device).past ≡ []
  pub failures : (state_of device).failures ≡ 0
  pub asked : asked_by device ≡ []

-- a fence that succeeded found the file as long as it was, wrote the noted lines in rising order, neighbours by one write, and then synced
pub record Persists (old new : PlacedFile) : Type 0 where
  pub lines : List ℕ
  pub sorted : IsNonDecreasing lines
  pub noted : (line : ℕ) → has_line lines line ≡ is_noted old.notes line
  pub calls : asked_by new ≡ Synced true ∷ with_writes old.words (runs_of lines) (Measured old.bytes true ∷ asked_by old)

-- the first words of what a crash may leave in the file are what it may leave of the device, behind which there are no words
abbrev pub LeavesItsImage : PlacedFile → Type 0
LeavesItsImage device =
    (file image : ℕ → ℕ) → IsFileImage (read_by device) (asked_by device) file
    → ((word : ℕ) → word < 8 * (state_of device).lines → image word ≡ file word)
    → ((word : ℕ) → 8 * (state_of device).lines ≤ word → image word ≡ 0)
    → MayBeLeft (state_of device) (floor_of device) image
