-- A file with a journal: the lines of the image, the head, one line, and behind it two parts of as many lines each. The generation, a word of the head, says
-- which part is in use: the first one where it is even. The other part is filled with zeros meanwhile, and the next generation begins there.
use Rattle.std.specs.Prelude.{◌≡◌, ◌⊎◌, ℕ, zero, suc, ◌+◌, ◌*◌, ◌/◌, ◌%◌, ◌<◌, ◌≤◌, ◌==◌, false, if◌then◌else◌, List, [], ◌∷◌, length, slice_index}
use Rattle.journal.specs.declared.shape.Shape.{Shape}
use Rattle.journal.specs.Record.{Record, all_sealed}
use Rattle.journal.specs.Journal.{IsJournal}
use Rattle.journal.specs.Replay.{replayed, is_recorded}

-- how many lines a file of this shape has
abbrev pub lines_of_file : Shape → ℕ
lines_of_file shape = shape.lines + 1 + 2 * shape.part

-- the first word of the head
abbrev pub head_at : Shape → ℕ
head_at shape = 8 * shape.lines

-- the first word of the part that this generation uses
abbrev pub part_at : Shape → ℕ → ℕ
part_at shape generation = if generation % 2 == 0 then 8 * (shape.lines + 1) else 8 * (shape.lines + 1 + shape.part)

-- so many words of a file from this one on
abbrev pub words_from : (ℕ → ℕ) → ℕ → ℕ → List ℕ
words_from file first zero = []
words_from file first (suc count) = file first ∷ words_from file (first + 1) count

-- the generation that a file tells
abbrev pub generation_in : Shape → (ℕ → ℕ) → ℕ
generation_in shape file = file (head_at shape + 1)

-- the part of a file that this generation uses
abbrev pub part_in : Shape → ℕ → (ℕ → ℕ) → List ℕ
part_in shape generation file = words_from file (part_at shape generation) (8 * shape.part)

-- what an opening makes of a file: its lines with the records of the part in use replayed over them
pub record Opens (shape : Shape) (file image : ℕ → ℕ) : Type 0 where
  pub records : List Record
  pub journal : IsJournal shape.lines (part_in shape (generation_in shape file) file) records
  pub holds : (word : ℕ) → word < 8 * shape.lines → image word ≡ replayed records file word

-- What the disk may hold while records are written. Of the image: what was in place as the generation began, but in lines that a synced record has, where it may
-- be anything, since they may be on their way to their places. Of the part in use: the synced records, and behind them, over zeros, what came there of those
-- written since
pub record Appends (shape : Shape) (generation : ℕ) (image : ℕ → ℕ) (synced since : List Record) (file : ℕ → ℕ) : Type 0 where
  pub told : generation_in shape file ≡ generation
  pub place : (word : ℕ) → word < 8 * shape.lines → is_recorded synced (word / 8) ≡ false → file word ≡ image word
  pub kept : (k : ℕ) → k < length (all_sealed synced) → file (part_at shape generation + k) ≡ slice_index (all_sealed synced) k
  pub behind : (k : ℕ) → length (all_sealed synced) + k < 8 * shape.part
      → (file (part_at shape generation + (length (all_sealed synced) + k)) ≡ 0)
      ⊎ (file (part_at shape generation + (length (all_sealed synced) + k)) ≡ slice_index (all_sealed since) k)
  pub room : length (all_sealed synced) + length (all_sealed since) ≤ 8 * shape.part

-- What it may hold while the next generation begins: all lines of the image are in place, those that a record has with these words. The head has the old
-- generation or the new one, and the new part holds zeros
pub record Begins (shape : Shape) (generation next : ℕ) (image placed : ℕ → ℕ) (synced : List Record) (file : ℕ → ℕ) : Type 0 where
  pub told : (generation_in shape file ≡ generation) ⊎ (generation_in shape file ≡ next)
  pub place : (word : ℕ) → word < 8 * shape.lines → file word ≡ placed word
  pub recorded : (word : ℕ) → word < 8 * shape.lines → is_recorded synced (word / 8) ≡ false → placed word ≡ image word
  pub kept : (k : ℕ) → k < length (all_sealed synced) → file (part_at shape generation + k) ≡ slice_index (all_sealed synced) k
  pub behind : (k : ℕ) → length (all_sealed synced) + k < 8 * shape.part → file (part_at shape generation + (length (all_sealed synced) + k)) ≡ 0
  pub room : length (all_sealed synced) ≤ 8 * shape.part
  pub zeros : (k : ℕ) → k < 8 * shape.part → file (part_at shape next + k) ≡ 0
