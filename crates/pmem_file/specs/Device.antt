-- A device over a file, with a journal or without: what it has gone through, and what it asked of its file.
use Rattle.std.specs.Prelude.{◌≡◌, ⊤, ℕ, ◌*◌, ◌^◌, ◌<◌, ◌≤◌, Bool, true, false, List, [], ◌∷◌, ◌++◌, Option, Some, None, length, slice_index}
use Rattle.std.specs.Int.{div_ceil}
use Rattle.pmem.specs.Device.{State, settled, moment}
use Rattle.pmem.specs.Floor.{MayBeLeft}
use Rattle.journal.specs.declared.shape.Head.{Head}
use Rattle.journal.specs.declared.shape.Shape.{Shape}
use Rattle.journal.specs.File.{lines_of_file, Opens}
use Rattle.pmem_file.specs.declared.device.FilePmem.{FilePmem}
use Rattle.pmem_file.specs.declared.device.FilePmem.TheVariants.{Placed, Journaled}
use Rattle.pmem_file.specs.declared.run.TheConstants.{LINES_A_WRITE}
use Rattle.pmem_file.specs.Call.{Call, IsFileImage}
use Rattle.pmem_file.specs.Finding.{IsSeen}
use Rattle.pmem_file.specs.Opening.{Step, Opened, Locked, FileSynced, FolderSynced, Found, DataSynced, IsBegun, AreReads, with_blocks}
use Rattle.pmem_file.specs.Placed as placed
use Rattle.pmem_file.specs.OverJournal as journaled

abbrev pub state_of : FilePmem → State
state_of (Placed device) = placed.state_of device
state_of (Journaled device) = journaled.state_of device

-- the moment of the last sync; without a journal the present moment, since each fence syncs
abbrev pub floor_of : FilePmem → ℕ
floor_of (Placed device) = placed.floor_of device
floor_of (Journaled device) = journaled.floor_of device

pub reached : (device : FilePmem) → floor_of device ≤ moment (state_of device)
reached (Placed device) = placed.reached device
reached (Journaled device) = journaled.reached device

-- its words can be counted
pub countable : (device : FilePmem) → 8 * (state_of device).lines < 2 ^ 64
countable (Placed device) = placed.countable device
countable (Journaled device) = journaled.countable device

-- the words that the file held when it was opened
abbrev pub read_by : FilePmem → List ℕ
read_by (Placed device) = placed.read_by device
read_by (Journaled device) = journaled.read_by device

-- what was asked of the file since, the newest call first
abbrev pub asked_by : FilePmem → List Call
asked_by (Placed device) = placed.asked_by device
asked_by (Journaled device) = journaled.asked_by device

-- what was asked of the file before that, the newest call first
abbrev pub opening_by : FilePmem → List Step
opening_by (Placed device) = placed.opening_by device
opening_by (Journaled device) = journaled.opening_by device

-- the shape of a file with a journal
abbrev pub shape_of : FilePmem → Option Shape
shape_of (Placed device) = None
shape_of (Journaled device) = Some (journaled.shape_of device)

abbrev pub has_journal : FilePmem → Bool
has_journal (Placed device) = false
has_journal (Journaled device) = true

-- what an opening makes of the words of a file: without a journal they are those of the image; with one, the lines in place and the records replayed over them
abbrev pub Makes : ℕ → Option Shape → (ℕ → ℕ) → (ℕ → ℕ) → Type 0
Makes lines None file image = (word : ℕ) → word < 8 * lines → image word ≡ file word
Makes lines (Some shape) file image = Opens shape file image

-- what it makes of a file whose image has so many lines, behind which there are no words
pub record IsMade (lines : ℕ) (shape : Option Shape) (file image : ℕ → ℕ) : Type 0 where
  pub made : Makes lines shape file image
  pub behind : (word : ℕ) → 8 * lines ≤ word → image word ≡ 0

-- whatever a crash may leave in the file, an opening makes of it what a crash may leave of the device
abbrev pub LeavesAnImage : FilePmem → Type 0
LeavesAnImage device =
    (file image : ℕ → ℕ) → IsFileImage (read_by device) (asked_by device) file → IsMade (state_of device).lines (shape_of device) file image
    → MayBeLeft (state_of device) (floor_of device) image

-- and it finds the head of the journal, where there is one
abbrev pub LeavesAHead : FilePmem → Type 0
LeavesAHead (Placed device) = ⊤
LeavesAHead (Journaled device) = journaled.LeavesItsHead device

-- a device that was just opened: nothing was asked of it, and a crash leaves what the opening made of the words that were read, all of which is in place in the
-- file. Without a journal nothing was asked of the file
pub record IsFresh (device : FilePmem) : Type 0 where
  pub image : ℕ → ℕ
  pub words : (state_of device).words ≡ (λ word. settled (image word))
  pub made : IsMade (state_of device).lines (shape_of device) (slice_index (read_by device)) image
  pub past : (state_of device).past ≡ []
  pub failures : (state_of device).failures ≡ 0
  pub asked : has_journal device ≡ false → asked_by device ≡ []
  pub in_place : (file : ℕ → ℕ) → IsFileImage (read_by device) (asked_by device) file
      → (word : ℕ) → word < 8 * (state_of device).lines → file word ≡ image word

-- how many lines the file of a device has that was opened
abbrev pub lines_in_file : FilePmem → ℕ
lines_in_file (Placed device) = (placed.state_of device).lines
lines_in_file (Journaled device) = lines_of_file (journaled.shape_of device)

-- after these calls some words of the file of so many lines were read, to see whether it has a journal, and then the whole file, block by block in order, which
-- gave its words; each block was written back as it was read; then the data were synced, with success; and nothing else was asked before the words were there
pub record IsReadAfter (device : FilePmem) (lines : ℕ) (before : List Step) : Type 0 where
  pub words : length (read_by device) ≡ 8 * lines
  pub fit : (word : ℕ) → slice_index (read_by device) word < 2 ^ 64
  pub looks : List Step
  pub looked : AreReads looks
  pub calls : opening_by device ≡ DataSynced true ∷ with_blocks true (read_by device) (div_ceil lines LINES_A_WRITE) (looks ++ before)

-- without a journal a fence that succeeded brought the noted lines to the file and synced it
abbrev pub PersistsInPlace : FilePmem → FilePmem → Type 0
PersistsInPlace (Placed old) (Placed new) = placed.Persists old new
PersistsInPlace (Placed old) (Journaled new) = ⊥
PersistsInPlace (Journaled old) new = ⊤

-- a device that was opened: its file was opened and locked, found as long as it is, read, written back and synced
abbrev pub IsOpened : FilePmem → Type 0
IsOpened device = IsReadAfter device (lines_in_file device) (Found (Some (64 * lines_in_file device)) ∷ Locked true ∷ Opened true ∷ [])

-- a device that was created: its file was begun, synced, its folder synced, found as long as it is, read, written back and synced
pub record IsCreated (device : FilePmem) : Type 0 where
  pub lines : ℕ
  pub begun : List Step
  pub begins : IsBegun (64 * lines) begun
  pub read : IsReadAfter device lines (Found (Some (64 * lines)) ∷ FolderSynced true ∷ FileSynced true ∷ begun)

-- a device that was opened to be read alone: its file was opened, found as long as its words, and read
pub record IsRead (device : FilePmem) : Type 0 where
  pub words : length (read_by device) ≡ 8 * (state_of device).lines
  pub looks : List Step
  pub looked : AreReads looks
  pub calls : opening_by device
      ≡ with_blocks false (read_by device) (div_ceil (state_of device).lines LINES_A_WRITE)
      (looks ++ Found (Some (64 * (state_of device).lines)) ∷ Opened true ∷ [])

-- A device that was opened to be read alone over a file with a journal. The head was looked at, then the whole file was read, then the head was looked at again,
-- and told the same generation: no other one began meanwhile. Its words are what an opening makes of the words that were read
pub record IsReadThrough (device : FilePmem) : Type 0 where
  pub head : Head
  pub file : List ℕ
  pub image : ℕ → ℕ
  pub size : length file ≡ 8 * lines_of_file head.shape
  pub lines : (state_of device).lines ≡ head.shape.lines
  pub made : IsMade head.shape.lines (Some head.shape) (slice_index file) image
  pub words : (state_of device).words ≡ (λ word. settled (image word))
  pub past : (state_of device).past ≡ []
  pub failures : (state_of device).failures ≡ 0
  pub before : List Step
  pub looked : List Step
  pub first : IsSeen head before looked
  pub again : IsSeen head (with_blocks false file (div_ceil (lines_of_file head.shape) LINES_A_WRITE) looked) (opening_by device)

-- a device that was just made of the words of a file of this shape
pub record IsMadeOver (device : FilePmem) (shape : Shape) (file : List ℕ) : Type 0 where
  pub image : ℕ → ℕ
  pub made : IsMade shape.lines (Some shape) (slice_index file) image
  pub words : (state_of device).words ≡ (λ word. settled (image word))
  pub past : (state_of device).past ≡ []
  pub failures : (state_of device).failures ≡ 0
