-- Words of which one bit changes.
use Rattle.std.proofs.Common.{◌≡◌, ◌≢◌, ℕ, ◌+◌, ◌*◌, ◌/◌, ◌%◌, ◌^◌, ◌<◌, ◌≤◌, Bool, true, false, not, nat_eq, if◌then◌else◌, IsTrue, List, length, get_or, set, bit_and, bit_or, w64, refl, sym, ap, ◌∙◌, inl, inr, arith, length-set, get_or-set_same, get_or-set_other, eq-eqb}
use Rattle.std.specs.Int.{bit_at, bit_not, trailing_zeros}
use Rattle.std.proofs.lemmas.Bool.{cases_eq, cases_lt}
use Rattle.std.proofs.lemmas.Bool.Decides.{nat_tests}
use Rattle.std.proofs.lemmas.List.{get_or_past, get_or_read}
use Rattle.std.proofs.lemmas.Nat.Bits.{bit_at-zero, bit_at-trailing_zeros, bit_at_set_same, bit_at_set_other, bit_at_clear_same, bit_at_clear_other}
use Rattle.extent_heap.specs.Bits.{has_bit, Assigns, IsFirstWord, IsFirstBit, IsSummary}

chosen : (i number : ℕ) (mark has old : Bool) → (i ≡ number → has ≡ mark) → (i ≢ number → has ≡ old) → has ≡ (if nat_eq i number then mark else old)
chosen i number mark has old here there = elim (cases_eq i number) [
  | inl same ↦ grind (arith, nat_tests, here same, same)
  | inr apart ↦ grind (arith, nat_tests, there apart, apart)
]

marked : (bit : ℕ) (mark : Bool) → bit ≡ (if mark then 1 else 0) → nat_eq bit 1 ≡ mark
marked bit true is = eq-eqb bit 1 is
marked bit false is = rw is refl

module _ (words : List ℕ) (number word : ℕ) (within : number / 64 < length words) where
  same_word : get_or (set words (number / 64) word) (number / 64) 0 ≡ word
  same_word = get_or-set_same words (number / 64) word 0 within

  -- a word that keeps its other bits keeps the mark of each other number
  kept_mark : ((i : ℕ) → i < 64 → i ≢ number % 64 → bit_at word i ≡ bit_at (get_or words (number / 64) 0) i) → (i : ℕ) → i ≢ number
      → has_bit (set words (number / 64) word) i ≡ has_bit words i
  kept_mark kept i differs = elim (cases_eq (i / 64) (number / 64)) [
    | inl same ↦ rw (same, same_word) (ap (λ n. nat_eq n 1) (kept (i % 64) (omega arith) (λ index. differs (omega arith))))
    | inr apart ↦ ap (λ n. nat_eq (bit_at n (i % 64)) 1) (get_or-set_other words (number / 64) (i / 64) word 0 apart)
  ]

  assigns : (mark : Bool) → bit_at word (number % 64) ≡ (if mark then 1 else 0) → ((i : ℕ) → i < 64 → i ≢ number % 64 → bit_at word i ≡ bit_at (get_or words (number / 64) 0) i)
      → Assigns words number mark (set words (number / 64) word) (not (nat_eq word 0))
  assigns mark is kept = record {
    size = length-set words (number / 64) word;
    bits = λ i. chosen i number mark (has_bit (set words (number / 64) word) i) (has_bit words i)
        (λ same. rw (same, same_word) (marked (bit_at word (number % 64)) mark is))
        (kept_mark kept i);
    others = λ k apart. get_or-set_other words (number / 64) k word 0 apart;
    some = ap (λ n. not (nat_eq n 0)) (sym same_word);
  }

module _ (words : List ℕ) (number old word : ℕ) (mark : Bool) (within : number / 64 < length words) (read : old ≡ get_or words (number / 64) old) where
  was : old ≡ get_or words (number / 64) 0
  was = get_or_read words (number / 64) old within read 0

  pub assigns_mark : IsTrue mark → word ≡ bit_or old (1 * 2 ^ (number % 64) % 2 ^ 64) → Assigns words number mark (set words (number / 64) word) (not (nat_eq word 0))
  assigns_mark is word_is = assigns words number word within mark
      (rw (word_is, is) (bit_at_set_same w64 old (number % 64) (omega arith)))
      (λ i below differs. rw (word_is, ← was) (bit_at_set_other w64 old (number % 64) (omega arith) i differs))

  pub assigns_none : mark ≡ false → word ≡ bit_and old (bit_not w64 (1 * 2 ^ (number % 64) % 2 ^ 64)) → Assigns words number mark (set words (number / 64) word) (not (nat_eq word 0))
  assigns_none is word_is = assigns words number word within mark
      (rw (word_is, is) (bit_at_clear_same w64 old (number % 64) (omega arith)))
      (λ i below differs. rw (word_is, ← was) (bit_at_clear_other w64 old (number % 64) (omega arith) i below differs))

-- ---- the lowest

-- a word that is 0 marks nothing
none_in : (words : List ℕ) (i : ℕ) → get_or words (i / 64) 0 ≡ 0 → has_bit words i ≡ false
none_in words i is = rw (is, bit_at-zero (i % 64)) refl

unmarked : (bit : ℕ) → bit ≡ 0 → nat_eq bit 1 ≡ false
unmarked bit is = rw is refl

-- a word that is not 0 is one of them
pub word_within : (words : List ℕ) (k : ℕ) → IsFirstWord words k → k < length words
word_within words k first = elim (cases_lt k (length words)) [ inl below ↦ below | inr past ↦ absurd (let is = get_or_past words k 0 past in omega (arith, first.some)) ]

module _ (words : List ℕ) (k word : ℕ) (first : IsFirstWord words k) (read : word ≡ get_or words k word) (fits : word < 2 ^ 64) where
  value : word ≡ get_or words k 0
  value = get_or_read words k word (word_within words k first) read 0

  pub first_of_word : IsFirstBit words (k * 64 + trailing_zeros w64 word)
  first_of_word =
      let lowest = bit_at-trailing_zeros w64 word (omega (arith, value, first.some)) fits in
      let at : (k * 64 + trailing_zeros w64 word) / 64 ≡ k = omega (arith, lowest.0) in
      let index : (k * 64 + trailing_zeros w64 word) % 64 ≡ trailing_zeros w64 word = omega (arith, lowest.0) in
      record {
        is = rw (at, index, ← value) (eq-eqb (bit_at word (trailing_zeros w64 word)) 1 lowest.1);
        before = λ j below. elim (cases_lt j (k * 64)) [
          | inl lower ↦ none_in words j (first.before (j / 64) (omega arith))
          | inr here ↦
              let own : j / 64 ≡ k = omega (arith, lowest.0) in
              rw (own, ← value) (unmarked (bit_at word (j % 64)) (lowest.2 (j % 64) (omega arith)))
        ];
      }

  pub first_fits : 64 * length words ≤ 2 ^ 64 → k * 64 + trailing_zeros w64 word < 2 ^ 64
  first_fits small = omega (arith, (bit_at-trailing_zeros w64 word (omega (arith, value, first.some)) fits).0, word_within words k first)

-- ---- marks over words

some_word : (word : ℕ) → IsTrue (not (nat_eq word 0)) → 0 < word
some_word word is = grind (arith, nat_tests)

no_word : (word : ℕ) → not (nat_eq word 0) ≡ false → word ≡ 0
no_word word is = grind (arith, nat_tests)

-- the first number that is marked above is that of the first word
pub first_below : (words above : List ℕ) (i : ℕ) → IsSummary words above → IsFirstBit above i → IsFirstWord words i
first_below words above i summary first = record {
  some = some_word (get_or words i 0) (sym (summary i) ∙ first.is);
  before = λ j below. no_word (get_or words j 0) (sym (summary j) ∙ first.before j below);
}

-- where nothing is marked above, nothing is marked
pub none_below : (words above : List ℕ) → IsSummary words above → ((k : ℕ) → get_or above k 0 ≡ 0) → (k : ℕ) → get_or words k 0 ≡ 0
none_below words above summary none k = no_word (get_or words k 0) (sym (summary k) ∙ none_in above k (none (k / 64)))

pub no_bit : (words : List ℕ) → ((k : ℕ) → get_or words k 0 ≡ 0) → (i : ℕ) → has_bit words i ≡ false
no_bit words none i = none_in words i (none (i / 64))

-- a change of a number, and of the mark over its word
pub summary_assigned : (words above new new_above : List ℕ) (number : ℕ) (mark some other : Bool) → IsSummary words above → Assigns words number mark new some
    → Assigns above (number / 64) some new_above other → IsSummary new new_above
summary_assigned words above new new_above number mark some other summary below over k = elim (cases_eq k (number / 64)) [
  | inl same ↦ grind (arith, nat_tests, over.bits k, below.some, same)
  | inr apart ↦ over.bits k ∙ grind (arith, nat_tests, summary k, below.others k apart, apart)
]
