-- What records do not bring.
use Rattle.std.proofs.Common.{◌≡◌, ℕ, ◌+◌, ◌*◌, ◌/◌, ◌%◌, ◌<◌, ◌≤◌, zero, suc, Bool, true, false, ◌||◌, ◌==◌, nat_lt, List, [], ◌∷◌, ◌++◌, length, take, drop, get_or, refl, inl, inr, sym, ap, ◌∙◌, arith, length-append}
use Rattle.std.proofs.lemmas.Bool.{cases_lt, or_parts, or_from, or_left, or_right, and_parts, and_from, cond-false, eqb-true, eq-eqb, ltb-true, lt-ltb, false_from_ne_true, true≢false}
use Rattle.journal.specs.Record.{Record, IsRecord, AreRecords, are_below, sealed, line_of, lines_of, record_of}
use Rattle.journal.specs.Journal.{IsJournal, behind as later}
use Rattle.journal.specs.Replay.{with_line, with_lines, replayed, has_line as J_has_line, is_recorded}
use Rattle.journal.proofs.RecordLemmas.{passed}
use Rattle.pmem_file.specs.Line.{has_line}

-- a line is one of a record's as it is one of any lines
pub same-lines : (lines : List ℕ) (line : ℕ) → J_has_line lines line ≡ has_line lines line
same-lines [] line = refl
same-lines (l ∷ lines) line = ap (λ (b : Bool). (line == l) || b) (same-lines lines line)

with_lines-none : (numbers words : List ℕ) (image : ℕ → ℕ) (word : ℕ) → J_has_line numbers (word / 8) ≡ false → with_lines numbers words image word ≡ image word
with_lines-none [] words image word none = refl
with_lines-none (number ∷ numbers) words image word none =
    let both = or_parts (word / 8 == number) (J_has_line numbers (word / 8)) none in
    with_lines-none numbers (drop 8 words) (with_line number words image) word both.1
    ∙ cond-false (word / 8 == number) (get_or words (word % 8) 0) (image word) both.0

-- a word of no recorded line stays
pub replayed-none : (records : List Record) (image : ℕ → ℕ) (word : ℕ) → is_recorded records (word / 8) ≡ false → replayed records image word ≡ image word
replayed-none [] image word none = refl
replayed-none (r ∷ records) image word none =
    let both = or_parts (J_has_line r.numbers (word / 8)) (is_recorded records (word / 8)) none in
    replayed-none records (with_lines r.numbers r.words image) word both.1 ∙ with_lines-none r.numbers r.words image word both.0

below-none : (lines : ℕ) (numbers : List ℕ) (line : ℕ) → are_below lines numbers ≡ true → lines ≤ line → J_has_line numbers line ≡ false
below-none lines [] line below behind = refl
below-none lines (number ∷ numbers) line below behind =
    let both = and_parts (nat_lt number lines) (are_below lines numbers) below in
    or_from (line == number) (J_has_line numbers line)
    (false_from_ne_true (line == number) (λ e. absurd (omega (arith, eqb-true line number e, ltb-true number lines both.0, behind))))
    (below-none lines numbers line both.1 behind)

-- a line of a record that is below is one of the image
pub below-one : (lines : ℕ) (numbers : List ℕ) (line : ℕ) → are_below lines numbers ≡ true → has_line numbers line ≡ true → line < lines
below-one lines numbers line below has =
    elim (cases_lt line lines) [
      | inl inside ↦ inside
      | inr behind ↦ absurd (true≢false (sym has ∙ sym (same-lines numbers line) ∙ below-none lines numbers line below behind))
    ]

-- records have no line behind the image
pub records-beyond : (lines : ℕ) (records : List Record) (word : ℕ) → AreRecords lines records → 8 * lines ≤ word → is_recorded records (word / 8) ≡ false
records-beyond lines [] word are behind = refl
records-beyond lines (r ∷ records) word are behind =
    or_from (J_has_line r.numbers (word / 8)) (is_recorded records (word / 8))
    (below-none lines r.numbers (word / 8) are.0.below (omega (arith, behind))) (records-beyond lines records word are.1 behind)

journal-beyond' : (lines : ℕ) (records : List Record) (words : List ℕ) (word : ℕ) → IsJournal lines words records → 8 * lines ≤ word
    → is_recorded records (word / 8) ≡ false
journal-beyond' lines [] words word is behind = refl
journal-beyond' lines (r ∷ records) words word is behind =
    let below : are_below lines r.numbers ≡ true = ap (λ (x : Record). are_below lines x.numbers) is.1 ∙ (passed lines words is.0).below in
    or_from (J_has_line r.numbers (word / 8)) (is_recorded records (word / 8))
    (below-none lines r.numbers (word / 8) below (omega (arith, behind)))
    (journal-beyond' lines records (later words) word is.2 behind)

pub journal-beyond : (lines : ℕ) (words : List ℕ) (records : List Record) (word : ℕ) → IsJournal lines words records → 8 * lines ≤ word
    → is_recorded records (word / 8) ≡ false
journal-beyond lines words records word is behind = journal-beyond' lines records words word is behind

-- ---- lists of records

pub AreRecords-append : (lines : ℕ) (a b : List Record) → AreRecords lines a → AreRecords lines b → AreRecords lines (a ++ b)
AreRecords-append lines [] b are are' = are'
AreRecords-append lines (r ∷ a) b are are' = (are.0, AreRecords-append lines a b are.1 are')

pub AreRecords-take : (lines n : ℕ) (a : List Record) → AreRecords lines a → AreRecords lines (take n a)
AreRecords-take lines zero a are = tt
AreRecords-take lines (suc n) [] are = tt
AreRecords-take lines (suc n) (r ∷ a) are = (are.0, AreRecords-take lines n a are.1)

length-lines_of : (image : ℕ → ℕ) (numbers : List ℕ) → length (lines_of image numbers) ≡ 8 * length numbers
length-lines_of image [] = refl
length-lines_of image (number ∷ numbers) =
    omega (arith, length-append (line_of image number) (lines_of image numbers), length-lines_of image numbers)

pub below-all : (lines : ℕ) (numbers : List ℕ) → ((line : ℕ) → has_line numbers line ≡ true → line < lines) → are_below lines numbers ≡ true
below-all lines [] each = refl
below-all lines (number ∷ numbers) each =
    and_from (nat_lt number lines) (are_below lines numbers)
    (lt-ltb number lines (each number (or_left (number == number) (has_line numbers number) (eq-eqb number number refl))))
    (below-all lines numbers (λ line has. each line (or_right (line == number) (has_line numbers line) has)))

-- the record of lines of an image
pub record-of-lines : (lines : ℕ) (image : ℕ → ℕ) (numbers : List ℕ) → 0 < length numbers → ((line : ℕ) → has_line numbers line ≡ true → line < lines)
    → IsRecord lines (record_of image numbers)
record-of-lines lines image numbers some each =
    record { some = some; below = below-all lines numbers each; eight = length-lines_of image numbers }

pub length-sealed-of : (image : ℕ → ℕ) (numbers : List ℕ) → length (sealed (record_of image numbers)) ≡ 2 + 9 * length numbers
length-sealed-of image numbers = omega (arith, length-append numbers (lines_of image numbers), length-lines_of image numbers)

line_of-same : (a b : ℕ → ℕ) (number : ℕ) → ((word : ℕ) → a word ≡ b word) → line_of a number ≡ line_of b number
line_of-same a b number same =
    rw (
      same (8 * number),
      same (8 * number + 1),
      same (8 * number + 2),
      same (8 * number + 3),
      same (8 * number + 4),
      same (8 * number + 5),
      same (8 * number + 6),
      same (8 * number + 7),
    ) refl

lines_of-same : (a b : ℕ → ℕ) (numbers : List ℕ) → ((word : ℕ) → a word ≡ b word) → lines_of a numbers ≡ lines_of b numbers
lines_of-same a b [] same = refl
lines_of-same a b (number ∷ numbers) same =
    ap (λ (l : List ℕ). l ++ lines_of a numbers) (line_of-same a b number same) ∙ ap (λ (l : List ℕ). line_of b number ++ l) (lines_of-same a b numbers same)

pub record_of-same : (a b : ℕ → ℕ) (numbers : List ℕ) → ((word : ℕ) → a word ≡ b word) → record_of a numbers ≡ record_of b numbers
record_of-same a b numbers same = ap (λ (l : List ℕ). record { numbers = numbers; words = l }) (lines_of-same a b numbers same)

pub some-of : (xs : List ℕ) → (xs ≡ [] → ⊥) → 0 < length xs
some-of [] some = absurd (some refl)
some-of (x ∷ xs) some = omega arith

pub none-of : (xs : List ℕ) → length xs ≡ 0 → xs ≡ []
none-of [] none = refl
none-of (x ∷ xs) none = absurd (omega (arith, none))
