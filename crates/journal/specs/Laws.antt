-- What the form of a journal is for.
use Rattle.std.specs.Prelude.{◌≡◌, ◌⊎◌, ℕ, ◌/◌, true, false, if◌then◌else◌, List, [], ◌∷◌, ◌++◌, take, replicate}
use Rattle.journal.specs.Record.{Record, IsRecord, AreRecords, sealed, all_sealed, record_of}
use Rattle.journal.specs.Loss.{IsLossOf}
use Rattle.journal.specs.Journal.{passes, IsJournal}
use Rattle.journal.specs.declared.shape.Shape.{Shape}
use Rattle.journal.specs.File.{Opens, Appends, Begins}
use Rattle.journal.specs.Replay.{replayed, has_line, is_recorded}

-- A record that passes is the one that was written, whatever stands behind it.
abbrev pub AllOrNothing : Type 0
AllOrNothing =
    (lines : ℕ) (r : Record) (left rest : List ℕ) → IsRecord lines r → IsLossOf (sealed r) left → passes lines (left ++ rest) ≡ true
    → left ≡ sealed r

-- Of what was written and synced an opening takes all, and of what was written behind it over zeros, and not synced, some first records, each whole.
abbrev pub TakesAllThatWasSynced : Type 0
TakesAllThatWasSynced =
    (lines room : ℕ) (synced since : List Record) (left : List ℕ) → AreRecords lines synced → AreRecords lines since
    → IsLossOf (all_sealed since ++ replicate room 0) left
    → (n : ℕ) × IsJournal lines (all_sealed synced ++ left) (synced ++ take n since)

-- The words of a journal tell its records.
abbrev pub AreToldByTheirWords : Type 0
AreToldByTheirWords =
    (lines : ℕ) (words : List ℕ) (records others : List Record) → IsJournal lines words records → IsJournal lines words others → records ≡ others

-- A record of some lines of an image brings these lines to another image, and nothing else.
abbrev pub BringsItsLines : Type 0
BringsItsLines =
    (image other : ℕ → ℕ) (numbers : List ℕ) (word : ℕ)
    → replayed (record_of image numbers ∷ []) other word ≡ (if has_line numbers (word / 8) then image word else other word)

-- What a line of an image holds that a record has does not matter: so a crash may come while such lines are written in place, or behind it, and as often as it
-- likes.
abbrev pub DoesNotMatter : Type 0
DoesNotMatter =
    (records : List Record) (image other : ℕ → ℕ)
    → ((word : ℕ) → is_recorded records (word / 8) ≡ false → other word ≡ image word)
    → (word : ℕ) → replayed records other word ≡ replayed records image word

-- ---- the whole file

-- Whatever a crash leaves while records are written, an opening makes of it the image with all records that were synced and some first ones of the others.
abbrev pub OpensWithAllThatWasSynced : Type 0
OpensWithAllThatWasSynced =
    (shape : Shape) (generation : ℕ) (image file : ℕ → ℕ) (synced since : List Record) → AreRecords shape.lines synced → AreRecords shape.lines since
    → Appends shape generation image synced since file → (n : ℕ) × Opens shape file (replayed (synced ++ take n since) image)

-- Whatever a crash leaves while the next generation begins, an opening makes of it the image with all records of the old one, or what was put in place.
abbrev pub OpensOldOrNew : Type 0
OpensOldOrNew =
    (shape : Shape) (generation next : ℕ) (image placed file : ℕ → ℕ) (synced : List Record) → AreRecords shape.lines synced
    → Begins shape generation next image placed synced file → Opens shape file (replayed synced image) ⊎ Opens shape file placed
