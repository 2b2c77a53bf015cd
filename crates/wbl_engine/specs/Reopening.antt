-- Reopening: what it reads of an image, the record that it writes, and what a crash in it leaves.
use Rattle.std.specs.Prelude.{◌≡◌, ◌≢◌, ℕ, zero, suc, ◌+◌, ◌-◌, ◌<◌, ◌≤◌, ◌&&◌, ◌||◌, ◌⊎◌, ◌==◌, Bool, not, nat_lt, if◌then◌else◌, List, [], ◌∷◌, ◌++◌, length, Some, None, is_none}
use Rattle.kv_types.specs.declared.place.EntryNo.{EntryNo}
use Rattle.heap_layout.specs.declared.entry.Entry.{Entry}
use Rattle.heap_layout.specs.Versions.{counted_below, gapped_below}
use Rattle.kv_types.specs.declared.refusal.Refusal.{Refusal}
use Rattle.kv_types.specs.declared.refusal.Refusal.TheVariants.{Damaged, Exhausted, Memory, WrongRole}
use Rattle.heap_layout.specs.Superblock.{super_refusal}
use Rattle.pmem.specs.Device.{State, Only}
use Rattle.pmem.specs.Crash.{IsImage, image_of}
use Rattle.model.specs.declared.image.TheConstants.{COUNTER_LIMIT, MAX_LINES, MIN_LINES, STAMP_WINDOW}
use Rattle.model.specs.declared.layout.Layout.{Layout}
use Rattle.model.specs.declared.layout.Layout.TheVariants.{Version1, Version2, Halfway}
use Rattle.model.specs.declared.layout.TheConstants.{DIRECTORY_LINE, SUPERBLOCK_WORDS}
use Rattle.model.specs.Layout.{first_word, max_gaps, version}
use Rattle.model.specs.declared.record.Gap.{Gap}
use Rattle.model.specs.declared.record.Record.{Record}
use Rattle.model.specs.declared.record.Role.{Role}
use Rattle.model.specs.Group.{Contents, IsConsistent, entries_of}
use Rattle.model.specs.Image.{Image, HasRecord, counts, directory_end, entries_of_lines, entry_word, first_extent_line, is_in_gap, version_at}
use Rattle.wbl_engine.specs.Erasing.{oldest_gap}
use Rattle.wbl_engine.specs.Freeing.{is_listed, record_after_clearing}
use Rattle.wbl_engine.specs.Lawful.{IsUndamaged}

-- ---- the record

-- the stamps that were perhaps given out after the record: strictly between `cp` and `cd`
abbrev pub open_gap : Record → Gap
open_gap r = record { first = r.cp + 1; last = r.cd - 1 }

-- the next record, in which none of them counts
abbrev pub with_open_gap : Record → Record
with_open_gap r =
    record r {
      number = r.number + 1;
      cp = r.cd;
      cd = r.cd + 1 + STAMP_WINDOW;
      gaps = record { items = r.gaps.items ++ open_gap r ∷ [] };
    }

-- the record holds as many gaps as it can
abbrev pub is_full : Record → Bool
is_full r = length r.gaps.items == max_gaps r.layout

-- the record with room for a gap: where there is none, its oldest gap is cleared
abbrev pub with_room : Record → Record
with_room r = if is_full r then record_after_clearing r else r

abbrev pub reopened : Record → Record
reopened r = with_open_gap (with_room r)

-- a counter of the reopened record would reach the limit
abbrev pub ExhaustsReopening : Record → Type 0
ExhaustsReopening r = (COUNTER_LIMIT ≤ (reopened r).cd) ⊎ (COUNTER_LIMIT ≤ (reopened r).number)

-- ---- the contents

-- the stamp is in the gap that a reopening clears
abbrev pub is_cleared : Record → ℕ → Bool
is_cleared r stamp = is_full r && is_in_gap stamp (oldest_gap r)

-- a begin that neither counts nor is cleared: its entry is neither free nor holds a version
abbrev pub is_left : Record → ℕ → Bool
is_left r begin = not (begin == 0) && (not (counts r begin) && not (is_cleared r begin))

abbrev pub left_at : Record → Image → ℕ → List EntryNo
left_at r image i = if is_left r (image (entry_word i 0)) then record { 0 = i } ∷ [] else []

-- the entries below this number with such a begin, in rising order
abbrev pub left_below : Record → Image → ℕ → List EntryNo
left_below r image zero = []
left_below r image (suc i) = left_below r image i ++ left_at r image i

-- Both images have this layout. In the second one the stamps that pass the test are 0, and beside the records nothing else has changed.
pub record AreCleared (layout : Layout) (lines : ℕ) (test : ℕ → Bool) (image image' : Image) : Type 0 where
  pub superblock : (word : ℕ) → word < SUPERBLOCK_WORDS → image' word ≡ image word
  pub stamps : (i k : ℕ) → i < entries_of_lines layout lines → k < 2
      → image' (entry_word i k) ≡ (if test (image (entry_word i k)) then 0 else image (entry_word i k))
  pub words : (i k : ℕ) → i < entries_of_lines layout lines → 2 ≤ k → k < 8 → image' (entry_word i k) ≡ image (entry_word i k)
  pub extents : (word : ℕ) → first_word (first_extent_line lines) ≤ word → image' word ≡ image word

-- The image was undamaged, with a record of this role, and these are the contents and the lists of versions once it is reopened.
pub record Reopens (lines' : ℕ) (image : Image) (role : Role) (contents : Contents) (counted' : List (EntryNo × Entry)) (gapped' : List EntryNo) : Type 0 where
  pub before : Record
  pub undamaged : IsUndamaged lines' before image
  pub role_is : before.role ≡ role
  -- no counter of the record reaches its limit
  pub fits : ¬ ExhaustsReopening before
  pub current : contents.current ≡ reopened before
  pub lines_are : contents.lines ≡ lines'
  -- each version stays
  pub versions : (i : ℕ) → contents.versions i ≡ (if nat_lt i (entries_of_lines before.layout lines') then version_at before image i else None)
  -- an entry is free if it was, or if the reopening cleared its begin
  pub is_free : (i : ℕ) → contents.is_free i
      ≡ (nat_lt i (entries_of_lines before.layout lines') && (image (entry_word i 0) == 0 || is_cleared before (image (entry_word i 0))))
  pub counted : counted' ≡ counted_below before image (entries_of_lines before.layout lines')
  -- the entries that are not free and hold no version, each once, in rising order
  pub left : gapped' ≡ left_below before image (entries_of_lines before.layout lines')
  pub gapped : (i : ℕ) → is_listed i gapped'
      ≡ (nat_lt i (entries_of_lines before.layout lines') && (not (contents.is_free i) && is_none (contents.versions i)))

-- The lists are what this image has under the record of the contents, entry by entry. The image is undamaged, and an entry is free where its begin is 0.
pub record IsShown (contents : Contents) (counted' : List (EntryNo × Entry)) (gapped' : List EntryNo) (image : Image) : Type 0 where
  pub undamaged : IsUndamaged contents.lines contents.current image
  pub counted : counted' ≡ counted_below contents.current image (entries_of contents)
  pub gapped : gapped' ≡ gapped_below contents.current image (entries_of contents)
  pub is_free : (i : ℕ) → i < entries_of contents → contents.is_free i ≡ (image (entry_word i 0) == 0)

-- a reopening leads from these contents to those: no version changes, and the record goes on with the same position, epoch and role
pub record KeepsThrough (old new : Contents) : Type 0 where
  pub current : new.current ≡ reopened old.current
  pub lines_are : new.lines ≡ old.lines
  pub versions : (i : ℕ) → i < entries_of old → new.versions i ≡ old.versions i
  -- a free entry has no version, and neither does one beyond the directory
  pub consistent : IsConsistent new

-- ---- refusals

-- The layout by which an image is opened again that tells its version itself. (One of a version that there is not is refused as one of version 1.)
abbrev pub layout_in : Image → Layout
layout_in image = if image 1 == version Version2 then Version2 else if image 1 == version Halfway then Halfway else Version1

-- Why an image of this layout is not read: the superblock earns this refusal, or the image breaks a rule, or an allocation was refused.
abbrev pub RefusesReading : Layout → ℕ → Image → Refusal → Type 0
RefusesReading layout lines image refusal =
    (super_refusal layout lines image ≡ Some refusal)
    ⊎ ((refusal ≡ Damaged) × ((r : Record) → IsUndamaged lines r image → ⊥))
    ⊎ (refusal ≡ Memory)

-- Why it is not reopened in this role, with nothing stored.
abbrev pub RefusesReopening : Layout → ℕ → Image → Role → Refusal → Type 0
RefusesReopening layout lines image role refusal =
    RefusesReading layout lines image refusal
    ⊎ ((refusal ≡ WrongRole) × ((r : Record) → IsUndamaged lines r image → r.role ≢ role))
    ⊎ ((refusal ≡ Exhausted) × ((r : Record) → IsUndamaged lines r image → ExhaustsReopening r))

-- ---- what a crash leaves

-- in an image of this layout and `lines` lines the word belongs to no record: it says what the image is, or is in the directory, or in an extent
abbrev pub IsBesideRecords : Layout → ℕ → ℕ → Type 0
IsBesideRecords layout lines word =
    (word < SUPERBLOCK_WORDS)
    ⊎ ((first_word DIRECTORY_LINE ≤ word) × (word < first_word (directory_end layout lines)))
    ⊎ (first_word (first_extent_line lines) ≤ word)

-- Each crash leaves this record and, beside the records, what loads return; and that is an undamaged image.
pub record IsReadable (r : Record) (d : State) : Type 0 where
  pub many : MIN_LINES ≤ d.lines
  pub few : d.lines ≤ MAX_LINES
  pub undamaged : IsUndamaged d.lines r (image_of d.words)
  pub recorded : (image : Image) → IsImage d.words image → HasRecord d.lines r image
  pub certain : (word : ℕ) → IsBesideRecords r.layout d.lines word → Only (d.words word) (image_of d.words word)

-- The second image is undamaged, and has the versions that the first has under this record, and the record's layout, position, epoch, role and floor.
-- So it can be reopened again.
pub record StaysReadable (lines' : ℕ) (r : Record) (image image' : Image) : Type 0 where
  pub current : Record
  pub undamaged : IsUndamaged lines' current image'
  pub layout : current.layout ≡ r.layout
  pub position : current.position ≡ r.position
  pub epoch : current.epoch ≡ r.epoch
  pub role : current.role ≡ r.role
  pub floor : current.floor ≡ r.floor
  pub versions : (i : ℕ) → i < entries_of_lines r.layout lines' → version_at current image' i ≡ version_at r image i
