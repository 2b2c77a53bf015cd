-- The runs that copy a version, one step at a time.
use Rattle.std.proofs.Common.{◌≡◌, ℕ, zero, suc, ◌+◌, ◌*◌, ◌<◌, ◌≤◌, List, [], ◌∷◌, ◌⊎◌, inl, inr, length, take, get_or, sym, ap, subst, ◌∙◌, arith}
use Rattle.pmem.specs.Device.{State, Word}
use Rattle.pmem.specs.Crash.{image_of}
use Rattle.pmem.specs.Runs.{Runs, IsStored, IsOutside, flushes, lines_from, pairs_from, stores}
use Rattle.pmem.proofs.Chaining.{Runs-flushes}
use Rattle.pmem.proofs.Staging.{get_or-pairs_from, length-pairs_from, newest-stores, pairs_from-outside, written-outside}
use Rattle.model.specs.Group.{AreApart}
use Rattle.model.specs.Image.{Image, entry_line, entry_word, words_from}
use Rattle.model.proofs.ReadEntryLemmas.{length-words_from}
use Rattle.heap_layout.proofs.LayoutRuns.{Runs-more_flushes, Runs-more_stores}
use Rattle.wbl_migrate.specs.Ended.{IsCopyable, copy_lines, copy_pairs, entry_copy, extent_copy, words_after_begin}

-- ---- consecutive words

pub get_or-words_from : (image : Image) (first count i : ℕ) → i < count → get_or (words_from image first count) i 0 ≡ image (first + i)
get_or-words_from image first zero i below = absurd (omega (arith, below))
get_or-words_from image first (suc count) zero below = let e : first ≡ first + 0 = omega arith in ap image e
get_or-words_from image first (suc count) (suc i) below =
    let e : (first + 1) + i ≡ first + suc i = omega arith in
    get_or-words_from image (first + 1) count i (omega (arith, below)) ∙ ap image e

IsStored-take : (pairs : List (ℕ × ℕ)) (n word x : ℕ) → IsStored (take n pairs) word x → IsStored pairs word x
IsStored-take [] zero word x stored = stored
IsStored-take [] (suc n) word x stored = stored
IsStored-take (pair ∷ pairs) zero word x stored = absurd stored
IsStored-take (pair ∷ pairs) (suc n) word x (inl here) = inl here
IsStored-take (pair ∷ pairs) (suc n) word x (inr later) = inr (IsStored-take pairs n word x later)

-- what loads return where a run of stores stores nothing
pub stores_keep : {a b : State} (pairs : List (ℕ × ℕ)) (word : ℕ) → IsOutside pairs word → Runs a b (stores pairs a.words)
    → image_of b.words word ≡ image_of a.words word
stores_keep {a} {b} pairs word out run =
    ap (λ (words : ℕ → Word). image_of words word) run.words ∙ newest-stores pairs a.words word ∙ written-outside pairs (image_of a.words) word out

-- ---- an extent

pub extent_copy-outside : (image : Image) (line to_line count word : ℕ) → (word < 8 * to_line) ⊎ (8 * (to_line + count) ≤ word)
    → IsOutside (extent_copy image line to_line count) word
extent_copy-outside image line to_line count word side =
    pairs_from-outside (8 * to_line) (words_from image (8 * line) (8 * count)) word
    (elim side [ inl low ↦ inl low | inr high ↦ inr (omega (arith, high, length-words_from image (8 * line) (8 * count))) ])

pub length-extent_copy : (image : Image) (line to_line count : ℕ) → length (extent_copy image line to_line count) ≡ 8 * count
length-extent_copy image line to_line count =
    length-pairs_from (8 * to_line) (words_from image (8 * line) (8 * count)) ∙ length-words_from image (8 * line) (8 * count)

-- what the loop stores next is what stood there before it
pub copied_pair : {a b : State} (line to_line count i x : ℕ) → i < 8 * count → AreApart to_line count line count
    → Runs a b (stores (take i (extent_copy (image_of a.words) line to_line count)) a.words) → x ≡ image_of b.words (8 * line + i)
    → (8 * to_line + i, x) ≡ get_or (extent_copy (image_of a.words) line to_line count) i (0, 0)
copied_pair {a} {b} line to_line count i x below apart run is =
    let image : Image = image_of a.words in
    let pairs : List (ℕ × ℕ) = extent_copy image line to_line count in
    let out : IsOutside (take i pairs) (8 * line + i) =
    λ y stored.
    extent_copy-outside image line to_line count (8 * line + i)
    (elim apart [ inl before ↦ inr (omega (arith, before)) | inr behind ↦ inl (omega (arith, behind, below)) ]) y
    (IsStored-take pairs i (8 * line + i) y stored) in
    let value : x ≡ get_or (words_from image (8 * line) (8 * count)) i 0 =
    is ∙ stores_keep (take i pairs) (8 * line + i) out run ∙ sym (get_or-words_from image (8 * line) (8 * count) i below) in
    ap (λ (y : ℕ). (8 * to_line + i, y)) value
    ∙ sym (get_or-pairs_from (8 * to_line) (words_from image (8 * line) (8 * count)) i (omega (arith, below, length-words_from image (8 * line) (8 * count))))

-- ---- an entry

pub loaded : (a : State) {x word at : ℕ} → x ≡ image_of a.words word → word ≡ at → x ≡ image_of a.words at
loaded a is same = is ∙ ap (image_of a.words) same

pub entry_copied : {a b : State} (from to to_line first : ℕ) (words : List ℕ) → first ≡ entry_word to 1
    → words ≡ words_after_begin (image_of a.words) from to_line → Runs a b (stores (pairs_from first words) a.words)
    → Runs a b (stores (entry_copy (image_of a.words) from to to_line) a.words)
entry_copied {a} {b} from to to_line first words is_first is_words run =
    subst (λ (ws : List ℕ). Runs a b (stores (pairs_from (entry_word to 1) ws) a.words)) is_words
    (subst (λ (n : ℕ). Runs a b (stores (pairs_from n words) a.words)) is_first run)

-- ---- both

-- the words of the entry are the same where the extent is copied already
same_entry_copy : (base image : Image) (from to to_line : ℕ) → ((k : ℕ) → k < 8 → image (entry_word from k) ≡ base (entry_word from k))
    → entry_copy image from to to_line ≡ entry_copy base from to to_line
same_entry_copy base image from to to_line same =
    let at1 = same 1 (omega arith) in
    let at2 = same 2 (omega arith) in
    let at4 = same 4 (omega arith) in
    let at5 = same 5 (omega arith) in
    let at6 = same 6 (omega arith) in
    let at7 = same 7 (omega arith) in
    let words : words_after_begin image from to_line ≡ words_after_begin base from to_line = cc in
    ap (pairs_from (entry_word to 1)) words

pub copy_runs : {a b c d e : State} (from to to_line line count : ℕ) → IsCopyable a.lines (image_of a.words) from to to_line
    → line ≡ image_of a.words (entry_word from 3) → count ≡ image_of a.words (entry_word from 4)
    → Runs a b (stores (extent_copy (image_of a.words) line to_line count) a.words)
    → Runs b c (stores (entry_copy (image_of b.words) from to to_line) b.words)
    → Runs c d (flushes (lines_from to_line count) c.words) → Runs d e (flushes (entry_line to ∷ []) d.words)
    → Runs a e (flushes (copy_lines (image_of a.words) from to to_line) (stores (copy_pairs (image_of a.words) from to to_line) a.words))
copy_runs {a} {b} {c} {d} {e} from to to_line line count may is_line is_count first second third fourth =
    let image : Image = image_of a.words in
    let kept : (k : ℕ) → k < 8 → image_of b.words (entry_word from k) ≡ image (entry_word from k) =
    λ k below.
    stores_keep (extent_copy image line to_line count) (entry_word from k)
    (extent_copy-outside image line to_line count (entry_word from k) (inl (omega (arith, below, may.from_within, may.above)))) first in
    let entry : Runs b c (stores (entry_copy image from to to_line) b.words) =
    subst (λ (pairs : List (ℕ × ℕ)). Runs b c (stores pairs b.words)) (same_entry_copy image (image_of b.words) from to to_line kept) second in
    let at : ℕ = image (entry_word from 3) in
    let many : ℕ = image (entry_word from 4) in
    let extent : Runs a b (stores (extent_copy image at to_line many) a.words) =
    subst (λ (n : ℕ). Runs a b (stores (extent_copy image n to_line many) a.words)) is_line
    (subst (λ (n : ℕ). Runs a b (stores (extent_copy image line to_line n) a.words)) is_count first) in
    let lines : Runs c d (flushes (lines_from to_line many) c.words) =
    subst (λ (n : ℕ). Runs c d (flushes (lines_from to_line n) c.words)) is_count third in
    Runs-flushes (copy_lines image from to to_line) (Runs-more_stores (extent_copy image at to_line many) (entry_copy image from to to_line) extent entry)
    (Runs-more_flushes (lines_from to_line many) (entry_line to ∷ []) lines fourth)
