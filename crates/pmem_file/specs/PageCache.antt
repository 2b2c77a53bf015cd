-- The premise on a file, as a model: what its disk holds of each word, what the system's page cache holds, and which words wait there to be
-- brought to the disk. A read gives what is cached; a power cut, at any moment, leaves what the disk holds then; a process that ends changes nothing.
-- A word, eight bytes at a multiple of eight, goes to the disk whole. The system brings words there whenever it likes; what it fails to bring it may
-- count as brought, and forget, and then it tells it at the next sync, once (Linux since 4.13). POSIX.1-2017 promises of this only that a sync that
-- succeeded has brought what was written; the rest is this project's profile. Nobody else writes the file.
use Rattle.std.specs.Prelude.{◌≡◌, ℕ, ◌<◌, Bool, true, false, not, ◌&&◌, ◌||◌, if◌then◌else◌, List, [], ◌∷◌, length, slice_index}
use Rattle.pmem_file.specs.Call.{Call, Wrote, Measured, Synced, reaches, brought, may_hold}
use Rattle.pmem_file.specs.Opening.{Step, Made, Opened, Locked, Resized, FileSynced, FolderSynced, Found, ReadAt, WroteBack, DataSynced}

pub record Pages : Type 0 where
  -- what the disk holds of each word
  pub disk : ℕ → ℕ
  -- what a read gives
  pub cached : ℕ → ℕ
  -- whether the system counts it as one that is to be brought to the disk
  pub dirty : ℕ → Bool

-- what may become of them
pub data Event : Type 0 where
  -- a write of these bytes from this byte of the file on. Where it failed it has written a part of these words
  Writes : (offset : ℕ) (bytes : List ℕ) (part : ℕ → Bool) (done : Bool) → Event
  -- a look at the length
  Looks : (bytes : ℕ) (done : Bool) → Event
  -- a sync. Where it failed it has brought some words to the disk, and counts others as brought that it has not
  Syncs : (brings cleans : ℕ → Bool) (done : Bool) → Event
  -- the system by itself brings words to the disk, and forgets others that do not wait
  Rests : (brings forgets : ℕ → Bool) → Event
  -- the system by itself fails to bring words to the disk, and counts them as brought
  GivesUp : (words : ℕ → Bool) → Event

abbrev pub at_event : Event → Pages → Pages
at_event (Writes offset bytes part done) pages =
    record {
      disk = pages.disk;
      cached = λ word. if reaches offset bytes word && (done || part word) then brought offset bytes word else pages.cached word;
      dirty = λ word. (reaches offset bytes word && (done || part word)) || pages.dirty word;
    }
at_event (Looks bytes done) pages = pages
at_event (Syncs brings cleans done) pages =
    record {
      disk = λ word. if pages.dirty word && (done || brings word) then pages.cached word else pages.disk word;
      cached = pages.cached;
      dirty = λ word. pages.dirty word && not (done || cleans word);
    }
at_event (Rests brings forgets) pages =
    record {
      disk = λ word. if pages.dirty word && brings word then pages.cached word else pages.disk word;
      cached = λ word. if forgets word && not (pages.dirty word) then pages.disk word else pages.cached word;
      dirty = λ word. pages.dirty word && not (brings word);
    }
at_event (GivesUp words) pages =
    record {
      disk = pages.disk;
      cached = pages.cached;
      dirty = λ word. pages.dirty word && not (words word);
    }

-- after these events, the newest first
abbrev pub pages_after : List Event → Pages → Pages
pages_after [] pages = pages
pages_after (event ∷ events) pages = at_event event (pages_after events pages)

-- something was given up of which no sync has told yet
abbrev pub has_untold : List Event → Bool
has_untold [] = false
has_untold (Writes offset bytes part done ∷ events) = has_untold events
has_untold (Looks bytes done ∷ events) = has_untold events
has_untold (Syncs brings cleans done ∷ events) = false
has_untold (Rests brings forgets ∷ events) = has_untold events
has_untold (GivesUp words ∷ events) = true

-- no sync succeeds that has to tell of something
abbrev pub tells : List Event → Bool
tells [] = true
tells (Writes offset bytes part done ∷ events) = tells events
tells (Looks bytes done ∷ events) = tells events
tells (Syncs brings cleans done ∷ events) = not (done && has_untold events) && tells events
tells (Rests brings forgets ∷ events) = tells events
tells (GivesUp words ∷ events) = tells events

-- what was asked of the file meanwhile
abbrev pub calls_in : List Event → List Call
calls_in [] = []
calls_in (Writes offset bytes part done ∷ events) = Wrote offset bytes done ∷ calls_in events
calls_in (Looks bytes done ∷ events) = Measured bytes done ∷ calls_in events
calls_in (Syncs brings cleans done ∷ events) = Synced done ∷ calls_in events
calls_in (Rests brings forgets ∷ events) = calls_in events
calls_in (GivesUp words ∷ events) = calls_in events

-- the steps of an opening that change what is cached, or what waits
abbrev pub changes_in : List Step → List Call
changes_in [] = []
changes_in (Made done ∷ steps) = changes_in steps
changes_in (Opened done ∷ steps) = changes_in steps
changes_in (Locked done ∷ steps) = changes_in steps
changes_in (Resized bytes done ∷ steps) = changes_in steps
changes_in (FileSynced done ∷ steps) = Synced done ∷ changes_in steps
changes_in (FolderSynced done ∷ steps) = changes_in steps
changes_in (Found bytes ∷ steps) = changes_in steps
changes_in (ReadAt offset bytes done ∷ steps) = changes_in steps
changes_in (WroteBack offset bytes done ∷ steps) = Wrote offset bytes done ∷ changes_in steps
changes_in (DataSynced done ∷ steps) = Synced done ∷ changes_in steps

-- each word of a file is one of these, on the disk and in the cache
abbrev pub HasOnly : List ℕ → Pages → Type 0
HasOnly words pages =
    (word : ℕ) → word < length words → (pages.disk word ≡ slice_index words word) × (pages.cached word ≡ slice_index words word)

-- the list of calls allows what the disk holds of each word, which a power cut leaves, and what is cached, which the next opening reads
abbrev pub Allows : List ℕ → List Call → Pages → Type 0
Allows read calls pages =
    (word : ℕ) → word < length read
    → (may_hold read calls word (pages.disk word) ≡ true) × (may_hold read calls word (pages.cached word) ≡ true)

-- a file of zeros
abbrev pub zeros : Pages
zeros = record { disk = λ word. 0; cached = λ word. 0; dirty = λ word. false }

-- it may come to pass that a sync has succeeded, the system has told all, a read gives 1 for a word, and the disk holds 0
pub record ReadingIsNotEnough : Type 0 where
  pub events : List Event
  pub earlier : List Call
  pub told : tells events ≡ true
  pub synced : calls_in events ≡ Synced true ∷ earlier
  pub cached : (pages_after events zeros).cached 0 ≡ 1
  pub disk : (pages_after events zeros).disk 0 ≡ 0
