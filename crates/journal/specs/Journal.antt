-- What an opening takes of the words of a journal: record behind record, up to the first that does not pass.
use Rattle.std.specs.Prelude.{◌≡◌, ℕ, suc, ◌*◌, Bool, true, false, ◌&&◌, ◌==◌, nat_lt, nat_le, List, [], ◌∷◌, length, take, drop, slice_index}
use Rattle.journal.specs.Record.{Record, are_below, zeros}

-- how many lines the record at the beginning of these words has, by its second word
abbrev pub lines_in : List ℕ → ℕ
lines_in words = slice_index words 1

-- what it has behind its first two words
abbrev pub body_in : List ℕ → List ℕ
body_in words = take (9 * lines_in words) (drop 2 words)

-- what stands behind it
abbrev pub behind : List ℕ → List ℕ
behind words = drop (9 * lines_in words) (drop 2 words)

-- the record at the beginning of these words
abbrev pub record_in : List ℕ → Record
record_in words = record { numbers = take (lines_in words) (drop 2 words); words = drop (lines_in words) (body_in words) }

-- Whether it passes, in a journal of an image of so many lines: it has a line at least, there are words enough, its first word is one more than the number of
-- zeros behind its second, and its lines are lines of the image
abbrev pub passes : ℕ → List ℕ → Bool
passes lines words =
    nat_lt 0 (lines_in words) && nat_le (9 * lines_in words) (length (drop 2 words)) && (slice_index words 0 == suc (zeros (body_in words)))
    && are_below lines (record_in words).numbers

-- these words are a journal with these records: each passes, and behind the last one none does
abbrev pub IsJournal : ℕ → List ℕ → List Record → Type 0
IsJournal lines words [] = passes lines words ≡ false
IsJournal lines words (r ∷ records) = (passes lines words ≡ true) × (r ≡ record_in words) × IsJournal lines (behind words) records
