-- What writes to a file bring to it.
use Rattle.std.proofs.Common.{◌≡◌, ◌⊎◌, ℕ, zero, suc, ◌+◌, ◌*◌, ◌/◌, ◌-◌, ◌^◌, ◌<◌, ◌≤◌, Bool, true, false, ◌&&◌, ◌==◌, nat_le, nat_lt, List, ◌∷◌, ◌++◌, length, take, drop, replicate, get_or, refl, inl, inr, sym, subst, ap, ◌∙◌, arith}
use Rattle.std.proofs.lemmas.Bool.{or_cases, or_left, or_right, and_parts, and_from, cond-true, cond-false, leb-true, ltb-true, le-leb, lt-ltb, cases_lt, false_from_ne_true, true≢false}
use Rattle.std.proofs.lemmas.List.{get_or-drop, get_or-take, length-take, length-replicate}
use Rattle.std.proofs.Math.Bool.{or-false}
use Rattle.std.specs.Int.{w64, to_le_bytes}
use Rattle.pmem_file.specs.Byte.{bytes_of, words_in}
use Rattle.pmem_file.specs.Call.{Call, Wrote, has_failed, reaches, brought, written, may_hold}
use Rattle.pmem_file.specs.Written.{MayWrite, Writes, is_among, from, blank}
use Rattle.pmem_file.proofs.BytesLemmas.{words_in-bytes_of}
use Rattle.pmem_file.proofs.WordsLemmas.{get_or-zeros}

-- it wrote nothing but these values to these words
pub record Touches (touched : ℕ → Bool) (value : ℕ → ℕ) (old new : List Call) : Type 0 where
  pub others : (read : List ℕ) (word : ℕ) → touched word ≡ false → written read new word ≡ written read old word
  pub within : MayWrite touched value old new

pub Touches-none : (touched : ℕ → Bool) (value : ℕ → ℕ) (calls : List Call) → Touches touched value calls calls
Touches-none touched value calls =
    record {
      others = λ read word e. refl;
      within = λ read word x may. or_left (may_hold read calls word x) (touched word && (x == value word)) may;
    }

pub Touches-wrote : (offset : ℕ) (bytes : List ℕ) (done : Bool) (calls : List Call)
    → Touches (reaches offset bytes) (brought offset bytes) calls (Wrote offset bytes done ∷ calls)
Touches-wrote offset bytes done calls =
    record {
      others = λ read word e. cond-false (reaches offset bytes word) (brought offset bytes word) (written read calls word) e;
      within = λ read word x may.
          elim (or_cases (reaches offset bytes word && (x == brought offset bytes word)) (may_hold read calls word x) may) [
            | inl here ↦ or_right (may_hold read calls word x) (reaches offset bytes word && (x == brought offset bytes word)) here
            | inr before ↦ or_left (may_hold read calls word x) (reaches offset bytes word && (x == brought offset bytes word)) before
          ];
    }

-- one after another, where the second has no other words and brings them no other values
pub Touches-then : (t t' : ℕ → Bool) (v v' : ℕ → ℕ) (old between new : List Call) → ((word : ℕ) → t' word ≡ true → (t word ≡ true) × (v' word ≡ v word))
    → Touches t v old between → Touches t' v' between new → Touches t v old new
Touches-then t t' v v' old between new within first second =
    record {
      others = λ read word e.
          second.others read word (false_from_ne_true (t' word) (λ h. true≢false (sym (within word h).0 ∙ e))) ∙ first.others read word e;
      within = λ read word x may.
          elim (or_cases (may_hold read between word x) (t' word && (x == v' word)) (second.within read word x may)) [
            | inl before ↦ first.within read word x before
            | inr new ↦
                let both = and_parts (t' word) (x == v' word) new in
                let here = within word both.0 in
                or_right (may_hold read old word x) (t word && (x == v word))
                (and_from (t word) (x == v word) here.0 (subst (λ (y : ℕ). (x == y) ≡ true) here.1 both.1))
          ];
    }

-- ---- words one behind the other

pub among-parts : (first count word : ℕ) → is_among first count word ≡ true → (first ≤ word) × (word < first + count)
among-parts first count word e =
    let both = and_parts (nat_le first word) (nat_lt word (first + count)) e in
    (leb-true first word both.0, ltb-true word (first + count) both.1)

pub among-from : (first count word : ℕ) → first ≤ word → word < first + count → is_among first count word ≡ true
among-from first count word low high =
    and_from (nat_le first word) (nat_lt word (first + count)) (le-leb first word low) (lt-ltb word (first + count) high)

pub not-among : (first count word : ℕ) → (word < first) ⊎ (first + count ≤ word) → is_among first count word ≡ false
not-among first count word out =
    false_from_ne_true (is_among first count word)
    (λ e.
    let in_range = among-parts first count word e in
    elim out [
      | inl below ↦ absurd (omega (arith, below, in_range.0))
      | inr above ↦ absurd (omega (arith, above, in_range.1))
    ])

place : (at : ℕ) → 8 * at / 8 ≡ at
place at = omega arith

-- each word fits 64 bits
abbrev pub Fit : List ℕ → Type 0
Fit words = (k : ℕ) → get_or words k 0 < 2 ^ 64

block-reaches : (at : ℕ) (block : List ℕ) (word : ℕ) → Fit block → reaches (8 * at) (bytes_of block) word ≡ is_among at (length block) word
block-reaches at block word fit =
    ap (λ (n : ℕ). nat_le n word && nat_lt word (n + length (words_in (bytes_of block)))) (place at)
    ∙ ap (λ (xs : List ℕ). nat_le at word && nat_lt word (at + length xs)) (words_in-bytes_of block fit)

block-brought : (at : ℕ) (block : List ℕ) (word : ℕ) → Fit block → brought (8 * at) (bytes_of block) word ≡ from at block word
block-brought at block word fit =
    ap (λ (n : ℕ). get_or (words_in (bytes_of block)) (word - n) 0) (place at)
    ∙ ap (λ (xs : List ℕ). get_or xs (word - at) 0) (words_in-bytes_of block fit)

-- The loop that writes such words: those below `at` were written
pub record Going (first count : ℕ) (value : ℕ → ℕ) (old : List Call) (at : ℕ) (calls : List Call) : Type 0 where
  pub touches : Touches (is_among first count) value old calls
  pub last : (read : List ℕ) (word : ℕ) → is_among first (at - first) word ≡ true → written read calls word ≡ value word
  pub low : first ≤ at
  pub high : at ≤ first + count
  pub unfailed : has_failed calls ≡ has_failed old

pub Going-start : (first count : ℕ) (value : ℕ → ℕ) (old : List Call) → Going first count value old first old
Going-start first count value old =
    record {
      touches = Touches-none (is_among first count) value old;
      last = λ read word e. absurd (let both = among-parts first (first - first) word e in omega (arith, both.0, both.1));
      low = omega arith;
      high = omega arith;
      unfailed = refl;
    }

-- a block has these values, and is among the words
abbrev pub IsBlock : ℕ → ℕ → (ℕ → ℕ) → ℕ → List ℕ → Type 0
IsBlock first count value at block =
    (at + length block ≤ first + count) × ((word : ℕ) → is_among at (length block) word ≡ true → from at block word ≡ value word)

pub Going-touches : (first count : ℕ) (value : ℕ → ℕ) (old : List Call) (at : ℕ) (calls : List Call) (block : List ℕ) (done : Bool) → Fit block
    → IsBlock first count value at block → Going first count value old at calls
    → Touches (is_among first count) value old (Wrote (8 * at) (bytes_of block) done ∷ calls)
Going-touches first count value old at calls block done fit is going =
    Touches-then (is_among first count) (reaches (8 * at) (bytes_of block)) value (brought (8 * at) (bytes_of block)) old calls _
    (λ word e.
    let here : is_among at (length block) word ≡ true = sym (block-reaches at block word fit) ∙ e in
    let both = among-parts at (length block) word here in (
      among-from first count word (omega (arith, both.0, going.low)) (omega (arith, both.1, is.0)),
      block-brought at block word fit ∙ is.1 word here,
    ))
    going.touches (Touches-wrote (8 * at) (bytes_of block) done calls)

pub Going-wrote : (first count : ℕ) (value : ℕ → ℕ) (old : List Call) (at : ℕ) (calls : List Call) (block : List ℕ) → Fit block
    → IsBlock first count value at block → Going first count value old at calls
    → Going first count value old (at + length block) (Wrote (8 * at) (bytes_of block) true ∷ calls)
Going-wrote first count value old at calls block fit is going =
    record {
      touches = Going-touches first count value old at calls block true fit is going;
      last = λ read word e.
          let both = among-parts first (at + length block - first) word e in
          elim (cases_lt word at) [
            | inl before ↦
                let other : reaches (8 * at) (bytes_of block) word ≡ false = block-reaches at block word fit ∙ not-among at (length block) word (inl before) in
                cond-false (reaches (8 * at) (bytes_of block) word) (brought (8 * at) (bytes_of block) word) (written read calls word) other
                ∙ going.last read word (among-from first (at - first) word both.0 (omega (arith, before, going.low)))
            | inr now ↦
                let here : is_among at (length block) word ≡ true = among-from at (length block) word now (omega (arith, both.1, going.low)) in
                cond-true (reaches (8 * at) (bytes_of block) word) (brought (8 * at) (bytes_of block) word) (written read calls word)
                (block-reaches at block word fit ∙ here)
                ∙ block-brought at block word fit ∙ is.1 word here
          ];
      low = omega (arith, going.low);
      high = is.0;
      unfailed = or-false (has_failed calls) ∙ going.unfailed;
    }

pub Going-end : (first count : ℕ) (value : ℕ → ℕ) (old : List Call) (at : ℕ) (calls : List Call) → at ≡ first + count → Going first count value old at calls
    → Writes (is_among first count) value old calls
Going-end first count value old at calls end going =
    record {
      last = λ read word e.
          let size : at - first ≡ count = omega (arith, end) in
          going.last read word (subst (λ (n : ℕ). is_among first n word ≡ true) (sym size) e);
      others = going.touches.others;
      within = going.touches.within;
    }

-- a block of these words
pub block-of : (first : ℕ) (words block rest : List ℕ) (at n : ℕ) → first ≤ at → at + length rest ≡ first + length words → rest ≡ drop (at - first) words
    → block ≡ take n rest → IsBlock first (length words) (from first words) at block
block-of first words block rest at n low all is part =
    let size : length block ≤ length rest = omega (arith, ap length part, length-take n rest) in (
      omega (arith, size, all),
      λ word e.
          let both = among-parts at (length block) word e in
          let few : word - at < n = omega (arith, both.0, both.1, ap length part, length-take n rest) in
          let index : at - first + (word - at) ≡ word - first = omega (arith, low, both.0) in
          ap (λ (xs : List ℕ). get_or xs (word - at) 0) part
          ∙ get_or-take n rest (word - at) 0 few
          ∙ ap (λ (xs : List ℕ). get_or xs (word - at) 0) is
          ∙ get_or-drop (at - first) words (word - at) 0
          ∙ ap (λ (k : ℕ). get_or words k 0) index,
    )

-- ---- zeros

bytes-zero : (n : ℕ) → bytes_of (replicate n 0) ≡ replicate (8 * n) 0
bytes-zero zero = refl
bytes-zero (suc n) =
    let more : 8 * suc n ≡ suc (suc (suc (suc (suc (suc (suc (suc (8 * n)))))))) = omega arith in
    ap (λ (bytes : List ℕ). to_le_bytes w64 0 ++ bytes) (bytes-zero n) ∙ sym (ap (λ (k : ℕ). replicate k 0) more)

-- the bytes of zeros are those of so many words
pub zeros-are : (bytes : List ℕ) (n : ℕ) → bytes ≡ replicate (8 * n) 0 → bytes ≡ bytes_of (replicate n 0)
zeros-are bytes n is = is ∙ sym (bytes-zero n)

pub zeros-fit : (n : ℕ) → Fit (replicate n 0)
zeros-fit n k = rw (get_or-zeros n k) (omega arith)

pub zeros-block : (first count at n : ℕ) → at + n ≤ first + count → IsBlock first count blank at (replicate n 0)
zeros-block first count at n room = (omega (arith, room, length-replicate {A = ℕ} n 0), λ word e. get_or-zeros n (word - at))
