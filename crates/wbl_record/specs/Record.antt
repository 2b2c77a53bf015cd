-- What writing the next record does to a device.
use Rattle.std.specs.Prelude.{◌≡◌, ◌⊎◌, ℕ, ◌+◌, ◌<◌, ◌≤◌, List, [], ◌∷◌}
use Rattle.pmem.specs.Device.{State, MayBe}
use Rattle.pmem.specs.Crash.{IsImage, image_of}
use Rattle.pmem.specs.Runs.{Stays, pairs_from, lines_from}
use Rattle.model.specs.declared.record.Record.{Record}
use Rattle.model.specs.declared.layout.Layout.{Layout}
use Rattle.model.specs.Layout.{first_word, record_word, root_word, slot_line, slot_lines}
use Rattle.model.specs.Image.{Image, HasRecord, record_words}

-- in an image of this layout and `lines` lines the word is the root, or belongs to the slot of record n
abbrev pub IsRecordWord : Layout → ℕ → ℕ → ℕ → Type 0
IsRecordWord layout lines n word =
    (word ≡ root_word layout) ⊎ ((record_word layout lines n 0 ≤ word) × (word < record_word layout lines n (first_word (slot_lines layout))))

-- the body of a record, in its slot
abbrev pub body_pairs : ℕ → Record → List (ℕ × ℕ)
body_pairs lines r = pairs_from (first_word (slot_line r.layout lines r.number)) (record_words r)

abbrev pub body_lines : ℕ → Record → List ℕ
body_lines lines r = lines_from (slot_line r.layout lines r.number) (slot_lines r.layout)

-- the number of a record, in the root
abbrev pub root_pairs : Record → List (ℕ × ℕ)
root_pairs r = (root_word r.layout, r.number) ∷ []

-- the next record is on the device, and nothing else was touched
pub record IsRecorded (old new : State) (next : Record) : Type 0 where
  -- whatever a crash leaves now has it
  pub durable : (image : Image) → IsImage new.words image → HasRecord new.lines next image
  -- elsewhere a crash leaves nothing that it could not leave before
  pub elsewhere : (word y : ℕ) → (IsRecordWord next.layout old.lines next.number word → ⊥) → MayBe (new.words word) y → MayBe (old.words word) y
  pub newest : (word : ℕ) → (IsRecordWord next.layout old.lines next.number word → ⊥) → image_of new.words word ≡ image_of old.words word
  pub failures : new.failures ≡ old.failures
  pub stays : Stays old new

-- a fence failed while the next record was written
pub record IsRecordFault (old new : State) (next : Record) : Type 0 where
  pub newest : (word : ℕ) → (IsRecordWord next.layout old.lines next.number word → ⊥) → image_of new.words word ≡ image_of old.words word
  pub failures : old.failures < new.failures
  pub stays : Stays old new

-- each crash of the device leaves the current record, and the next one is its successor, of the same layout
pub record IsSucceeded (d : State) (current next : Record) : Type 0 where
  pub layout : next.layout ≡ current.layout
  pub number : next.number ≡ current.number + 1
  pub durable : (image : Image) → IsImage d.words image → HasRecord d.lines current image

-- the image has one record or the other, and elsewhere what a crash of the device could leave before
pub record IsEitherRecord (d : State) (current next : Record) (image : Image) : Type 0 where
  pub either : HasRecord d.lines current image ⊎ HasRecord d.lines next image
  pub elsewhere : (word : ℕ) → (IsRecordWord next.layout d.lines next.number word → ⊥) → MayBe (d.words word) (image word)
