-- The head of a journal, as an opening finds it.
use Rattle.std.specs.Prelude.{◌≡◌, ◌⊎◌, ⊤, ℕ, ◌+◌, ◌*◌, ◌-◌, ◌<◌, ◌≤◌, true, List, ◌∷◌, length, take, drop, slice_index, Option, Some, None}
use Rattle.journal.specs.declared.shape.Head.{Head}
use Rattle.journal.specs.declared.shape.Shape.{Shape}
use Rattle.journal.specs.declared.shape.TheConstants.{MAX_PART_LINES}
use Rattle.journal.specs.Head.{head_of}
use Rattle.journal.specs.File.{head_at, part_at}
use Rattle.pmem_file.specs.Byte.{words_in}
use Rattle.pmem_file.specs.Opening.{Step, ReadAt}

-- the words of the part in use, of what stands behind an image: its second word tells the generation
abbrev pub part_behind : Shape → List ℕ → List ℕ
part_behind shape tail = take (8 * shape.part) (drop (part_at shape (slice_index tail 1) - head_at shape) tail)

-- A file is made in this shape alone: a part is a quarter of the lines of the image, and MAX_PART_LINES at most.
pub record IsMade (shape : Shape) : Type 0 where
  pub most : shape.part ≤ MAX_PART_LINES
  pub quarter : 4 * shape.part ≤ shape.lines
  pub large : 4 * MAX_PART_LINES ≤ shape.lines → shape.part ≡ MAX_PART_LINES
  pub small : shape.lines < 4 * MAX_PART_LINES → shape.lines < 4 * shape.part + 4

-- as many words as these, each of which is there or is 0
pub record IsPartOf (words whole : List ℕ) : Type 0 where
  pub size : length words ≡ length whole
  pub each : (k : ℕ) → k < length words → (slice_index words k ≡ 0) ⊎ (slice_index words k ≡ slice_index whole k)

-- These words are a head of this shape and generation; or the journal has not begun, its generation is 0, and the shape is the one in which files are made: what
-- stands behind an image is written over in no other.
abbrev pub IsTold : Shape → ℕ → List ℕ → Type 0
IsTold shape generation words = (words ≡ head_of shape generation) ⊎ ((generation ≡ 0) × IsMade shape)

-- the file's first line was looked at, and then the line behind the image, which told a head of this shape and generation
pub record IsSeen (head : Head) (old new : List Step) : Type 0 where
  pub front : List ℕ
  pub line : List ℕ
  pub calls : new ≡ ReadAt (64 * head.shape.lines) line true ∷ ReadAt 0 front true ∷ old
  pub told : IsTold head.shape head.generation (words_in line)

abbrev pub IsSeenWhere : Option Head → List Step → List Step → Type 0
IsSeenWhere None old new = ⊤
IsSeenWhere (Some head) old new = IsSeen head old new
