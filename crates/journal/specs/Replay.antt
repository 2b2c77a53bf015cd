-- What the records of a journal make of an image: each puts its words in the place of those of its lines, the later ones over the earlier ones.
use Rattle.std.specs.Prelude.{ℕ, ◌/◌, ◌%◌, Bool, false, ◌||◌, ◌==◌, if◌then◌else◌, List, [], ◌∷◌, drop, slice_index}
use Rattle.journal.specs.Record.{Record}

-- an image with the first eight of these words as a line
abbrev pub with_line : ℕ → List ℕ → (ℕ → ℕ) → ℕ → ℕ
with_line number words image = λ word. if word / 8 == number then slice_index words (word % 8) else image word

-- an image with these lines, eight words for each
abbrev pub with_lines : List ℕ → List ℕ → (ℕ → ℕ) → ℕ → ℕ
with_lines [] words image = image
with_lines (number ∷ numbers) words image = with_lines numbers (drop 8 words) (with_line number words image)

-- an image after these records, the first one first
abbrev pub replayed : List Record → (ℕ → ℕ) → ℕ → ℕ
replayed [] image = image
replayed (r ∷ records) image = replayed records (with_lines r.numbers r.words image)

-- whether this is the number of one of these lines
abbrev pub has_line : List ℕ → ℕ → Bool
has_line [] line = false
has_line (number ∷ numbers) line = (line == number) || has_line numbers line

-- whether one of these records has this line
abbrev pub is_recorded : List Record → ℕ → Bool
is_recorded [] line = false
is_recorded (r ∷ records) line = has_line r.numbers line || is_recorded records line
