-- What formatting writes, word by word.
use Rattle.std.proofs.Common.{◌≡◌, ◌⊎◌, ℕ, zero, suc, ◌+◌, ◌-◌, ◌*◌, ◌<◌, ◌≤◌, List, [], ◌∷◌, ◌++◌, inl, inr, length, get_or, refl, sym, ap, ◌∙◌, arith}
use Rattle.std.specs.Prelude.{replicate}
use Rattle.pmem.specs.Runs.{pairs_from, IsStored, IsOutside, written}
use Rattle.pmem.proofs.Staging.{IsStored-append, IsStored-pairs_from, pairs_from-outside, written-append, written-outside, written-pairs_from}
use Rattle.model.specs.declared.record.Record.{Record}
use Rattle.model.specs.Layout.{first_word, root_word, slot_lines}
use Rattle.model.specs.Image.{Image, entry_word, entries_of_lines, record_words, slot_line}
use Rattle.model.proofs.LayoutLemmas.{entries_fit, root_in, slot_at}
use Rattle.wbl_engine.specs.Formatting.{superblock_words, words_behind_magic, new_pairs}
use Rattle.model.proofs.RecordLemmas.{length-record_words}

abbrev pub zeros : ℕ → List ℕ
zeros n = replicate n 0

pub length-zeros : (n : ℕ) → length (zeros n) ≡ n
length-zeros zero = refl
length-zeros (suc n) = ap suc (length-zeros n)

pub get_or-zeros : (n i : ℕ) → get_or (zeros n) i 0 ≡ 0
get_or-zeros zero i = refl
get_or-zeros (suc n) zero = refl
get_or-zeros (suc n) (suc i) = get_or-zeros n i

-- ---- runs of words, one after another

-- a word that the last run leaves alone
beside_run : (a : List (ℕ × ℕ)) (first : ℕ) (values : List ℕ) (base : Image) (word : ℕ) → (word < first) ⊎ (first + length values ≤ word)
    → written (a ++ pairs_from first values) base word ≡ written a base word
beside_run a first values base word side =
    ap (λ (f : ℕ → ℕ). f word) (written-append a (pairs_from first values) base)
    ∙ written-outside (pairs_from first values) (written a base) word (pairs_from-outside first values word side)

in_run : (a : List (ℕ × ℕ)) (first : ℕ) (values : List ℕ) (base : Image) (i : ℕ) → i < length values
    → written (a ++ pairs_from first values) base (first + i) ≡ get_or values i 0
in_run a first values base i below =
    ap (λ (f : ℕ → ℕ). f (first + i)) (written-append a (pairs_from first values) base) ∙ written-pairs_from first values (written a base) i below

run_low : (a : List (ℕ × ℕ)) (first : ℕ) (values : List ℕ) (word x : ℕ) → 1 ≤ first → (IsStored a word x → 1 ≤ word)
    → IsStored (a ++ pairs_from first values) word x → 1 ≤ word
run_low a first values word x some low stored =
    elim (IsStored-append a (pairs_from first values) word x stored) [
      | inl early ↦ low early
      | inr there ↦ omega (arith, some, (IsStored-pairs_from first values word x there).0)
    ]

-- a word of the directory is beside a slot
beside_slot : (slot size end i k count : ℕ) → count ≡ 8 * size → (slot + size ≤ 8) ⊎ (8 + end ≤ slot) → i < end → k < 8
    → (entry_word i k < 8 * slot) ⊎ (8 * slot + count ≤ entry_word i k)
beside_slot slot size end i k count e (inl before) within below = inr (omega (arith, e, before))
beside_slot slot size end i k count e (inr behind) within below = inl (omega (arith, behind, within, below))

module _ (lines : ℕ) (first : Record) where
  -- where the record begins, and its words
  abbrev slot : ℕ
  slot = first_word (slot_line first.layout lines first.number)

  abbrev body : List ℕ
  body = record_words first

  -- the runs but for the last ones
  abbrev one_run : List (ℕ × ℕ)
  one_run = pairs_from 1 (zeros (words_behind_magic lines))

  abbrev two_runs : List (ℕ × ℕ)
  two_runs = one_run ++ pairs_from 1 (superblock_words first.layout lines)

  abbrev three_runs : List (ℕ × ℕ)
  three_runs = two_runs ++ pairs_from slot body

  -- the record is behind the superblock
  slot_behind : 8 ≤ slot
  slot_behind = omega (arith, (slot_at first.layout lines first.number).behind)

  -- word 0 is not among them
  pub magic_outside : IsOutside (new_pairs lines first) 0
  unfolding new_pairs
  magic_outside x stored =
      let some : 1 ≤ 0 =
      run_low three_runs (root_word first.layout) (first.number ∷ []) 0 x (omega (arith, (root_in first.layout).behind))
      (run_low two_runs slot body 0 x (omega (arith, slot_behind))
      (run_low one_run 1 (superblock_words first.layout lines) 0 x (omega arith)
      (λ early. (IsStored-pairs_from 1 (zeros (words_behind_magic lines)) 0 x early).0)))
      stored in
      omega (arith, some)

  -- the superblock
  pub new_super : (base : Image) (k : ℕ) → k < 3 → written (new_pairs lines first) base (1 + k) ≡ get_or (superblock_words first.layout lines) k 0
  unfolding new_pairs
  new_super base k below =
      beside_run three_runs (root_word first.layout) (first.number ∷ []) base (1 + k) (inl (omega (arith, below, (root_in first.layout).behind)))
      ∙ beside_run two_runs slot body base (1 + k) (inl (omega (arith, below, slot_behind)))
      ∙ in_run one_run 1 (superblock_words first.layout lines) base k (omega (arith, below))

  -- the root
  pub new_root : (base : Image) → written (new_pairs lines first) base (root_word first.layout) ≡ first.number
  unfolding new_pairs
  new_root base =
      let at : root_word first.layout + 0 ≡ root_word first.layout = omega arith in
      ap (written (new_pairs lines first) base) (sym at) ∙ in_run three_runs (root_word first.layout) (first.number ∷ []) base 0 (omega arith)

  -- the record
  pub new_body : (base : Image) (k : ℕ) → k < first_word (slot_lines first.layout)
      → written (new_pairs lines first) base (slot + k) ≡ get_or body k 0
  unfolding new_pairs
  new_body base k below =
      beside_run three_runs (root_word first.layout) (first.number ∷ []) base (slot + k)
      (inr (omega (arith, slot_behind, (root_in first.layout).within)))
      ∙ in_run two_runs slot body base k (omega (arith, below, length-record_words first))

  -- the directory
  pub new_entry : (base : Image) (i k : ℕ) → i < entries_of_lines first.layout lines → k < 8
      → written (new_pairs lines first) base (entry_word i k) ≡ 0
  unfolding new_pairs
  new_entry base i k within below =
      let n : ℕ = words_behind_magic lines in
      let j : ℕ = entry_word i k - 1 in
      let at : 1 + j ≡ entry_word i k = omega arith in
      beside_run three_runs (root_word first.layout) (first.number ∷ []) base (entry_word i k) (inr (omega (arith, (root_in first.layout).within)))
      ∙ beside_run two_runs slot body base (entry_word i k)
      (beside_slot (slot_line first.layout lines first.number) (slot_lines first.layout) (entries_of_lines first.layout lines) i k (length body)
      (length-record_words first) (slot_at first.layout lines first.number).apart within below)
      ∙ beside_run one_run 1 (superblock_words first.layout lines) base (entry_word i k) (inr (omega arith))
      ∙ ap (written one_run base) (sym at)
      ∙ written-pairs_from 1 (zeros n) base j (omega (arith, length-zeros n, entries_fit first.layout lines, within, below, at)) ∙ get_or-zeros n j
