-- A journal of a file: what is known of it between two calls of which none has failed, and what each of its calls does to that.
use Rattle.std.specs.Prelude.{◌≡◌, ◌⊎◌, ℕ, ◌+◌, ◌*◌, ◌/◌, ◌%◌, ◌^◌, ◌<◌, ◌≤◌, true, false, if◌then◌else◌, List, [], ◌++◌, length, take, slice_index}
use Rattle.journal.specs.declared.shape.Shape.{Shape}
use Rattle.journal.specs.Record.{Record, AreRecords, all_sealed}
use Rattle.journal.specs.Replay.{replayed, is_recorded}
use Rattle.journal.specs.Head.{head_of}
use Rattle.journal.specs.File.{head_at, part_at, Opens, Appends}
use Rattle.pmem_file.specs.declared.file_journal.FileJournal.{FileJournal}
use Rattle.pmem_file.specs.Call.{Call, IsFileImage, written}
use Rattle.pmem_file.specs.Written.{is_in}
use Rattle.pmem_file.specs.Noted.{is_noted}

-- what an opening makes of the words of a file of this shape. Behind the image there are no words
pub record IsMadeOf (shape : Shape) (file image : ℕ → ℕ) : Type 0 where
  pub opens : Opens shape file image
  pub behind : (word : ℕ) → 8 * shape.lines ≤ word → image word ≡ 0

-- the file has the head of a journal of this shape and generation
abbrev pub IsHead : Shape → ℕ → (ℕ → ℕ) → Type 0
IsHead shape generation file = (k : ℕ) → k < 8 → file (head_at shape + k) ≡ slice_index (head_of shape generation) k

-- whatever a crash leaves of the file, it has a head of this shape, of this generation or of the one before
abbrev pub HasHead : Shape → ℕ → List ℕ → List Call → Type 0
HasHead shape generation read calls =
    (file : ℕ → ℕ) → IsFileImage read calls file
    → IsHead shape generation file ⊎ ((before : ℕ) × (generation ≡ (before + 1) % 2 ^ 64) × IsHead shape before file)

-- ---- what is known of a journal

-- Some records of this generation are durable. Whatever the file may hold, it has these and no others, so with the lines in place as the generation began an
-- opening makes of it the image after these records. The other part was written with zeros last, which the next sync makes durable
pub record OnDisk (shape : Shape) (generation : ℕ) (read : List ℕ) (calls : List Call) (image : ℕ → ℕ) (synced : List Record) : Type 0 where
  pub disk : (file : ℕ → ℕ) → IsFileImage read calls file → Appends shape generation image synced [] file
  pub head : (file : ℕ → ℕ) → IsFileImage read calls file → IsHead shape generation file
  pub next : (k : ℕ) → k < 8 * shape.part → written read calls (part_at shape (generation + 1) + k) ≡ 0

-- Others were sealed since, and wait for a sync
pub record Journals (journal : FileJournal) (read : List ℕ) (calls : List Call) (image : ℕ → ℕ) (synced since : List Record) : Type 0 where
  pub on_disk : OnDisk journal.head.shape journal.head.generation read calls image synced
  pub synced_records : AreRecords journal.head.shape.lines synced
  pub sealed_records : AreRecords journal.head.shape.lines since
  pub used : journal.used ≡ length (all_sealed synced)
  pub sealed : journal.sealed.items ≡ all_sealed since
  pub recorded : (line : ℕ) → is_noted journal.recorded line ≡ is_recorded (synced ++ since) line
  pub behind : (word : ℕ) → 8 * journal.head.shape.lines ≤ word → image word ≡ 0

-- ---- what the calls of a journal do

-- An image that is made while lines of these words go to the file: the one after all durable records and some first ones of the others, or one in which each
-- word is that of the image after all records, or the one of these words
abbrev pub IsEarlier : (ℕ → ℕ) → List Record → List Record → List ℕ → (ℕ → ℕ) → Type 0
IsEarlier image synced since words made =
    ((n : ℕ) × (n ≤ length since) × ((word : ℕ) → made word ≡ replayed (synced ++ take n since) image word))
    ⊎ ((word : ℕ) → (made word ≡ replayed (synced ++ since) image word) ⊎ (made word ≡ slice_index words word))

-- an image in which these lines are as in these words
pub record HasLines (image : ℕ → ℕ) (synced since : List Record) (words lines : List ℕ) (made : ℕ → ℕ) : Type 0 where
  pub these : (word : ℕ) → is_in lines word ≡ true → made word ≡ slice_index words word
  pub others : (word : ℕ) → is_in lines word ≡ false → (made word ≡ replayed (synced ++ since) image word) ⊎ (made word ≡ slice_index words word)

-- what is known after lines of these words were ordered behind all before them
pub record Ordered (new : FileJournal) (read : List ℕ) (calls : List Call) (image : ℕ → ℕ) (synced since : List Record) (words lines : List ℕ) : Type 0 where
  pub image' : ℕ → ℕ
  pub synced' : List Record
  pub since' : List Record
  pub journals : Journals new read calls image' synced' since'
  pub each : (n : ℕ) → n ≤ length since'
      → IsEarlier image synced since words (replayed (synced' ++ take n since') image')
      ⊎ HasLines image synced since words lines (replayed (synced' ++ take n since') image')
  pub last : HasLines image synced since words lines (replayed (synced' ++ since') image')

pub record Orders (old new : FileJournal) (calls calls' : List Call) (words lines : List ℕ) : Type 0 where
  pub ordered : (read : List ℕ) (image : ℕ → ℕ) (synced since : List Record) → Journals old read calls image synced since
      → Ordered new read calls' image synced since words lines

-- a sync that succeeded: all that waited is durable, and nothing waits
pub record Syncs (old new : FileJournal) (calls calls' : List Call) : Type 0 where
  pub synced : (read : List ℕ) (image : ℕ → ℕ) (synced since : List Record) → Journals old read calls image synced since
      → Journals new read calls' image (synced ++ since) []

-- an image with the lines of these records as they are in these words
abbrev pub placed : List Record → List ℕ → (ℕ → ℕ) → ℕ → ℕ
placed records words image = λ word. if is_recorded records (word / 8) then slice_index words word else image word

-- a checkpoint that succeeded: the next generation has no record, and the lines that the old one had are in place
pub record ChecksPoint (old new : FileJournal) (calls calls' : List Call) (words : List ℕ) : Type 0 where
  pub begun : (read : List ℕ) (image : ℕ → ℕ) (synced : List Record) → Journals old read calls image synced []
      → Journals new read calls' (placed synced words image) [] []

-- a sync and a checkpoint that succeeded
pub record ClearsAway (old new : FileJournal) (calls calls' : List Call) (words : List ℕ) : Type 0 where
  pub begun : (read : List ℕ) (image : ℕ → ℕ) (synced since : List Record) → Journals old read calls image synced since
      → Journals new read calls' (placed (synced ++ since) words image) [] []

-- a call that failed: whatever a crash leaves, the file has a head, and an opening makes of it an image of before the call or of lines of these words
pub record Stops (old new : FileJournal) (calls calls' : List Call) (words : List ℕ) : Type 0 where
  pub makes : (read : List ℕ) (image file made : ℕ → ℕ) (synced since : List Record) → Journals old read calls image synced since
      → IsFileImage read calls' file → IsMadeOf old.head.shape file made → IsEarlier image synced since words made
  pub head : (read : List ℕ) (image : ℕ → ℕ) (synced since : List Record) → Journals old read calls image synced since
      → HasHead new.head.shape new.head.generation read calls'

-- nothing else of a journal changed but that one record more waits
pub record Sealed (old new : FileJournal) (words lines : List ℕ) : Type 0 where
  pub sealed : (read : List ℕ) (calls : List Call) (image : ℕ → ℕ) (synced since : List Record) → Journals old read calls image synced since
      → Ordered new read calls image synced since words lines
  pub head : new.head ≡ old.head

-- whatever a crash leaves of a recovery, the file has a head, and the next opening makes of it these words
pub record LeavesTheSame (shape : Shape) (generation : ℕ) (read : List ℕ) (calls : List Call) (words : List ℕ) : Type 0 where
  pub makes : (file made : ℕ → ℕ) → IsFileImage read calls file → IsMadeOf shape file made → (word : ℕ) → made word ≡ slice_index words word
  pub head : HasHead shape generation read calls

-- what a crash may leave of the first head, and of the parts before it: each word of the head is there or is 0, and both parts hold zeros
pub record IsUnbegun (shape : Shape) (file : ℕ → ℕ) : Type 0 where
  pub head : (k : ℕ) → k < 8 → (file (head_at shape + k) ≡ 0) ⊎ (file (head_at shape + k) ≡ slice_index (head_of shape 1) k)
  pub zeros : (k : ℕ) → k < 8 * shape.part → (file (part_at shape 0 + k) ≡ 0) × (file (part_at shape 1 + k) ≡ 0)

-- whatever a crash leaves of the first recovery of a file, the journal has not begun, or its head is whole, and the next opening makes of it these words
pub record LeavesTheFirst (shape : Shape) (read : List ℕ) (calls : List Call) (words : List ℕ) : Type 0 where
  pub makes : (file made : ℕ → ℕ) → IsFileImage read calls file → IsMadeOf shape file made → (word : ℕ) → made word ≡ slice_index words word
  pub unbegun : (file : ℕ → ℕ) → IsFileImage read calls file → IsUnbegun shape file
