-- What records make of an image.
use Rattle.std.proofs.Common.{◌≡◌, ℕ, zero, suc, ◌+◌, ◌*◌, ◌/◌, ◌%◌, ◌<◌, Bool, true, false, cond, ◌||◌, ◌==◌, List, [], ◌∷◌, ◌++◌, length, take, drop, get_or, refl, inl, inr, sym, ap, ◌∙◌, arith, append_assoc}
use Rattle.std.proofs.lemmas.List.{take_more, drop_more, get_or-take}
use Rattle.std.proofs.lemmas.Bool.{cases_Bool, cond-true, cond-false, or_from, eqb-true}
use Rattle.journal.specs.Record.{Record, line_of, lines_of}
use Rattle.journal.specs.Replay.{with_line, with_lines, replayed, has_line, is_recorded}
use Rattle.journal.specs.Laws.{BringsItsLines, DoesNotMatter}
use Rattle.std.proofs.Math.Bool.{or_assoc}

-- ---- one word after lines, by what it was before

with_line-at : (number : ℕ) (words : List ℕ) (a b : ℕ → ℕ) (word : ℕ) → ((word / 8 == number) ≡ false → a word ≡ b word)
    → with_line number words a word ≡ with_line number words b word
with_line-at number words a b word same =
    elim (cases_Bool (word / 8 == number)) [
      | inl is ↦ cond-true (word / 8 == number) (get_or words (word % 8) 0) (a word) is ∙ sym (cond-true (word / 8 == number) (get_or words (word % 8) 0) (b word) is)
      | inr is ↦
          cond-false (word / 8 == number) (get_or words (word % 8) 0) (a word) is ∙ same is
          ∙ sym (cond-false (word / 8 == number) (get_or words (word % 8) 0) (b word) is)
    ]

pub with_lines-at : (numbers words : List ℕ) (a b : ℕ → ℕ) (word : ℕ) → (has_line numbers (word / 8) ≡ false → a word ≡ b word)
    → with_lines numbers words a word ≡ with_lines numbers words b word
with_lines-at [] words a b word same = same refl
with_lines-at (number ∷ numbers) words a b word same =
    with_lines-at numbers (drop 8 words) (with_line number words a) (with_line number words b) word
    (λ none. with_line-at number words a b word (λ other. same (or_from (word / 8 == number) (has_line numbers (word / 8)) other none)))

pub replayed-at : (records : List Record) (a b : ℕ → ℕ) (word : ℕ) → (is_recorded records (word / 8) ≡ false → a word ≡ b word)
    → replayed records a word ≡ replayed records b word
replayed-at [] a b word same = same refl
replayed-at (r ∷ records) a b word same =
    replayed-at records (with_lines r.numbers r.words a) (with_lines r.numbers r.words b) word
    (λ none. with_lines-at r.numbers r.words a b word (λ other. same (or_from (has_line r.numbers (word / 8)) (is_recorded records (word / 8)) other none)))

pub does-not-matter : DoesNotMatter
does-not-matter records image other same word = replayed-at records other image word (same word)

-- ---- more records

pub replayed-append : (records more : List Record) (image : ℕ → ℕ) → replayed (records ++ more) image ≡ replayed more (replayed records image)
replayed-append [] more image = refl
replayed-append (r ∷ records) more image = replayed-append records more (with_lines r.numbers r.words image)

-- a line of some records is one of them and more
pub is_recorded-append : (records more : List Record) (line : ℕ) → is_recorded (records ++ more) line ≡ (is_recorded records line || is_recorded more line)
is_recorded-append [] more line = refl
is_recorded-append (r ∷ records) more line =
    ap (λ (b : Bool). has_line r.numbers line || b) (is_recorded-append records more line)
    ∙ sym (or_assoc (has_line r.numbers line) (is_recorded records line) (is_recorded more line))

-- ---- the record of lines of an image

word-of-line : (image : ℕ → ℕ) (number : ℕ) (more : List ℕ) (k : ℕ) → k < 8 → get_or (line_of image number ++ more) k 0 ≡ image (8 * number + k)
word-of-line image number more zero few = ap image (omega arith)
word-of-line image number more (suc zero) few = refl
word-of-line image number more (suc (suc zero)) few = refl
word-of-line image number more (suc (suc (suc zero))) few = refl
word-of-line image number more (suc (suc (suc (suc zero)))) few = refl
word-of-line image number more (suc (suc (suc (suc (suc zero))))) few = refl
word-of-line image number more (suc (suc (suc (suc (suc (suc zero)))))) few = refl
word-of-line image number more (suc (suc (suc (suc (suc (suc (suc zero))))))) few = refl
word-of-line image number more (suc (suc (suc (suc (suc (suc (suc (suc k)))))))) few = absurd (omega (arith, few))

word-in-line : (image : ℕ → ℕ) (more : List ℕ) (number word : ℕ) → word / 8 ≡ number → get_or (line_of image number ++ more) (word % 8) 0 ≡ image word
word-in-line image more number word e =
    let same : 8 * number + word % 8 ≡ word = omega (arith, e) in
    word-of-line image number more (word % 8) (omega arith) ∙ ap image same

joined : (here there : Bool) (x y z : ℕ) → (here ≡ true → z ≡ x) → cond there x (cond here z y) ≡ cond (here || there) x y
joined true true x y z is = refl
joined true false x y z is = is refl
joined false true x y z is = refl
joined false false x y z is = refl

pub brings-its-lines : BringsItsLines
brings-its-lines image other [] word = refl
brings-its-lines image other (number ∷ numbers) word =
    brings-its-lines image (with_line number (line_of image number ++ lines_of image numbers) other) numbers word
    ∙ joined (word / 8 == number) (has_line numbers (word / 8)) (image word) (other word)
    (get_or (line_of image number ++ lines_of image numbers) (word % 8) 0)
    (λ here. word-in-line image (lines_of image numbers) number word (eqb-true (word / 8) number here))

-- ---- line by line

lines_of-append : (image : ℕ → ℕ) (numbers : List ℕ) (number : ℕ) → lines_of image (numbers ++ number ∷ []) ≡ lines_of image numbers ++ line_of image number
lines_of-append image [] number = refl
lines_of-append image (n ∷ numbers) number =
    ap (λ (l : List ℕ). line_of image n ++ l) (lines_of-append image numbers number)
    ∙ sym (append_assoc (line_of image n) (lines_of image numbers) (line_of image number))

pub lines_of-more : (image : ℕ → ℕ) (numbers : List ℕ) (i : ℕ) → i < length numbers
    → lines_of image (take i numbers) ++ line_of image (get_or numbers i 0) ≡ lines_of image (take (i + 1) numbers)
lines_of-more image numbers i there =
    sym (lines_of-append image (take i numbers) (get_or numbers i 0)) ∙ ap (lines_of image) (sym (take_more numbers i 0 there))

with_line-take : (number : ℕ) (words : List ℕ) (image : ℕ → ℕ) (word : ℕ) → with_line number (take 8 words) image word ≡ with_line number words image word
with_line-take number words image word =
    let few : word % 8 < 8 = omega arith in
    ap (λ (x : ℕ). cond (word / 8 == number) x (image word)) (get_or-take 8 words (word % 8) 0 few)

-- lines of which the first was brought
pub with_lines-more : (numbers rest front later : List ℕ) (i : ℕ) (image new : ℕ → ℕ) → i < length numbers → front ≡ take 8 rest → later ≡ drop 8 rest
    → ((word : ℕ) → new word ≡ with_line (get_or numbers i 0) front image word)
    → (word : ℕ) → with_lines (drop (i + 1) numbers) later new word ≡ with_lines (drop i numbers) rest image word
with_lines-more numbers rest front later i image new there e e' brought word =
    let number = get_or numbers i 0 in
    ap (λ (l : List ℕ). with_lines (drop (i + 1) numbers) l new word) e'
    ∙ with_lines-at (drop (i + 1) numbers) (drop 8 rest) new (with_line number rest image) word
    (λ none. brought word ∙ ap (λ (l : List ℕ). with_line number l image word) e ∙ with_line-take number rest image word)
    ∙ ap (λ (ns : List ℕ). with_lines ns rest image word) (sym (drop_more numbers i 0 there))

-- records of which the last was brought
pub replayed-more : (done : List Record) (r : Record) (first image new : ℕ → ℕ)
    → ((word : ℕ) → image word ≡ replayed done first word) → ((word : ℕ) → new word ≡ with_lines r.numbers r.words image word)
    → (word : ℕ) → new word ≡ replayed (done ++ r ∷ []) first word
replayed-more done r first image new known brought word =
    brought word ∙ with_lines-at r.numbers r.words image (replayed done first) word (λ none. known word)
    ∙ sym (ap (λ (f : ℕ → ℕ). f word) (replayed-append done (r ∷ []) first))
