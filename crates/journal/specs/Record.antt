-- A record of a journal: lines of an image with their words, behind a count of the zeros among them. A record is written over zeros, so that a word that did
-- not come to the disk is one zero more: the count tells, and a checksum is not needed. (As `commit_counted` of the kit's `sqlite_wal` does it, by words.)
use Rattle.std.specs.Prelude.{◌≡◌, ⊤, ℕ, zero, suc, ◌+◌, ◌*◌, ◌<◌, Bool, true, nat_lt, List, [], ◌∷◌, ◌++◌, length}
use Rattle.std.specs.List.{list_all}

-- lines of an image: their numbers, and eight words for each, in the same order
pub record Record : Type 0 where
  pub numbers : List ℕ
  pub words : List ℕ

-- each of these numbers is one of a line, where there are so many
abbrev pub are_below : ℕ → List ℕ → Bool
are_below lines numbers = list_all (λ number. nat_lt number lines) numbers

-- a record has a line at least, lines of an image of so many alone, and eight words for each
pub record IsRecord (lines : ℕ) (r : Record) : Type 0 where
  pub some : 0 < length r.numbers
  pub below : are_below lines r.numbers ≡ true
  pub eight : length r.words ≡ 8 * length r.numbers

-- these are records of an image of so many lines
abbrev pub AreRecords : ℕ → List Record → Type 0
AreRecords lines [] = ⊤
AreRecords lines (r ∷ records) = IsRecord lines r × AreRecords lines records

-- how many of these words are 0
abbrev pub zeros : List ℕ → ℕ
zeros [] = 0
zeros (zero ∷ words) = suc (zeros words)
zeros (suc n ∷ words) = zeros words

-- what a record has behind its count of zeros and its number of lines
abbrev pub body : Record → List ℕ
body r = r.numbers ++ r.words

-- the words of a record: one more than the number of zeros in its body, its number of lines, its body. None of the first two is 0
abbrev pub sealed : Record → List ℕ
sealed r = suc (zeros (body r)) ∷ length r.numbers ∷ body r

-- the words of these records, one behind the other
abbrev pub all_sealed : List Record → List ℕ
all_sealed [] = []
all_sealed (r ∷ records) = sealed r ++ all_sealed records

-- the eight words of a line of an image
abbrev pub line_of : (ℕ → ℕ) → ℕ → List ℕ
line_of image number =
    image (8 * number) ∷ image (8 * number + 1) ∷ image (8 * number + 2) ∷ image (8 * number + 3)
    ∷ image (8 * number + 4) ∷ image (8 * number + 5) ∷ image (8 * number + 6) ∷ image (8 * number + 7) ∷ []

-- the words of these lines of an image
abbrev pub lines_of : (ℕ → ℕ) → List ℕ → List ℕ
lines_of image [] = []
lines_of image (number ∷ numbers) = line_of image number ++ lines_of image numbers

-- the record of these lines of an image
abbrev pub record_of : (ℕ → ℕ) → List ℕ → Record
record_of image numbers = record { numbers = numbers; words = lines_of image numbers }
