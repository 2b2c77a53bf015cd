-- A device over a file with a journal: what it has gone through, and what it asked of its file.
use Rattle.std.specs.Prelude.{◌≡◌, ℕ, ◌*◌, ◌^◌, ◌<◌, ◌≤◌, false, List, [], None, length, vec_len, slice_index}
use Rattle.journal.specs.declared.shape.Shape.{Shape}
use Rattle.pmem.specs.Device.{State, settled, moment}
use Rattle.pmem.specs.Device.Fences.{Unsure}
use Rattle.pmem.specs.Floor.{MayBeLeft}
use Rattle.pmem.specs.History.{words_of, past_of, failures_of}
use Rattle.pmem_file.specs.declared.journaled.JournaledFile.{JournaledFile}
use Rattle.pmem_file.specs.Call.{Call, IsFileImage, read_of, calls_of}
use Rattle.pmem_file.specs.Journaled.{IsMadeOf, HasHead}
use Rattle.pmem_file.specs.Opening.{Step, steps_of}

-- Each fence may fail. The device takes no memory once it is open, so it is never starved of any
abbrev pub state_of : JournaledFile → State
state_of device =
    record {
      words = words_of device.history;
      past = past_of device.history;
      lines = vec_len device.notes.marks;
      failures = failures_of device.history;
      starved = false;
      fences = Unsure;
      kept = None;
    }

-- the moment of the last sync
abbrev pub floor_of : JournaledFile → ℕ
floor_of device = length (past_of device.synced.value)

pub reached : (device : JournaledFile) → floor_of device ≤ moment (state_of device)
reached device = device.reached

-- its words can be counted
pub countable : (device : JournaledFile) → 8 * (state_of device).lines < 2 ^ 64
countable device = device.countable

-- the words that the file held when it was opened
abbrev pub read_by : JournaledFile → List ℕ
read_by device = read_of device.file.calls

-- what was asked of the file since, the newest call first
abbrev pub asked_by : JournaledFile → List Call
asked_by device = calls_of device.file.calls

-- what was asked of the file before that, the newest call first
abbrev pub opening_by : JournaledFile → List Step
opening_by device = steps_of device.opening

-- the shape of the file
abbrev pub shape_of : JournaledFile → Shape
shape_of device = device.journal.head.shape

-- a device that was just opened: nothing was asked of it, and a crash leaves its words
pub record IsFresh (device : JournaledFile) : Type 0 where
  pub words : (state_of device).words ≡ (λ word. settled (slice_index device.words word))
  pub past : (state_of device).past ≡ []
  pub failures : (state_of device).failures ≡ 0

-- whatever a crash may leave in the file, an opening makes of it what a crash may leave of the device
abbrev pub LeavesItsImage : JournaledFile → Type 0
LeavesItsImage device =
    (file image : ℕ → ℕ) → IsFileImage (read_by device) (asked_by device) file → IsMadeOf (shape_of device) file image
    → MayBeLeft (state_of device) (floor_of device) image

-- and the file has the head of its journal
abbrev pub LeavesItsHead : JournaledFile → Type 0
LeavesItsHead device = HasHead (shape_of device) device.journal.head.generation (read_by device) (asked_by device)
