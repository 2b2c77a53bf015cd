-- Which entries are free, and how many, where one changes.
use Rattle.std.proofs.Common.{◌≡◌, ◌≢◌, ℕ, zero, suc, ◌+◌, ◌-◌, ◌*◌, ◌/◌, ◌^◌, ◌<◌, ◌≤◌, Bool, true, false, not, nat_eq, nat_lt, if◌then◌else◌, IsTrue, List, [], ◌∷◌, length, get_or, set, replicate, refl, sym, ap, subst, ◌∙◌, inl, inr, true≢false, arith, length-set, get_or-set_same, get_or-set_other}
use Rattle.std.proofs.lemmas.Bool.{cases_eq, cases_lt, false_from_ne_true}
use Rattle.std.proofs.lemmas.Bool.Decides.{nat_tests}
use Rattle.std.proofs.lemmas.List.{get_or_past, get_or-replicate, length-replicate, ext_get_or}
use Rattle.std.proofs.lemmas.List.FromFn.{length-map-range_with_len, get_or-map-range_with_len}
use Rattle.extent_heap.specs.Bits.{has_bit, flags, Assigns, IsFirstWord, IsFirstBit}
use Rattle.extent_heap.specs.Entries.{is_free, count_free, IsLowest}
use Rattle.extent_heap.specs.EntrySet.{IsEntrySet}
use Rattle.extent_heap.proofs.BitsLemmas.{no_bit, none_below, summary_assigned, first_below}

-- only entries below the end are free
pub free_below : (entries : List Bool) (i : ℕ) → IsTrue (is_free entries i) → i < length entries
free_below entries i free = elim (cases_lt i (length entries)) [ inl below ↦ below | inr past ↦ absurd (true≢false (sym free ∙ get_or_past entries i false past)) ]

-- ---- an entry changes

pub free_set : (entries : List Bool) (entry : ℕ) (free : Bool) (i : ℕ) → entry < length entries → is_free (set entries entry free) i ≡ (if nat_eq i entry then free else is_free entries i)
free_set entries entry free i within = elim (cases_eq i entry) [
  | inl same ↦ rw same (grind (arith, nat_tests, get_or-set_same entries entry free false within))
  | inr apart ↦ grind (arith, nat_tests, get_or-set_other entries entry i free false apart, apart)
]

pub count_freed : (entries : List Bool) (entry : ℕ) → entry < length entries → is_free entries entry ≡ false → count_free (set entries entry true) ≡ count_free entries + 1
count_freed [] entry within was = absurd (omega arith)
count_freed (x ∷ xs) zero within was = grind arith
count_freed (x ∷ xs) (suc entry) within was = omega (arith, count_freed xs entry (omega arith) was)

pub count_taken : (entries : List Bool) (entry : ℕ) → entry < length entries → IsTrue (is_free entries entry) → count_free (set entries entry false) + 1 ≡ count_free entries
count_taken [] entry within was = absurd (omega arith)
count_taken (x ∷ xs) zero within was = grind arith
count_taken (x ∷ xs) (suc entry) within was = omega (arith, count_taken xs entry (omega arith) was)

pub count_bound : (entries : List Bool) → count_free entries ≤ length entries
count_bound [] = omega arith
count_bound (true ∷ xs) = omega (arith, count_bound xs)
count_bound (false ∷ xs) = omega (arith, count_bound xs)

-- ---- none and all

zero_or_none : (size k : ℕ) → get_or {A = ℕ} (replicate size 0) k 0 ≡ 0
zero_or_none size k = elim (cases_lt k size) [ inl below ↦ get_or-replicate size k 0 0 below | inr past ↦ get_or_past (replicate size 0) k 0 (let size_is : length (replicate size 0) ≡ size = length-replicate {A = ℕ} size 0 in omega arith) ]

count_none : (n : ℕ) → count_free (replicate n false) ≡ 0
count_none zero = refl
count_none (suc n) = omega (arith, count_none n)

-- ---- the marks as a list

pub flags_size : (words : List ℕ) (end : ℕ) → length (flags words end) ≡ end
flags_size words end = length-map-range_with_len (has_bit words) 0 end

module _ (words : List ℕ) (end : ℕ) (within : (i : ℕ) → IsTrue (has_bit words i) → i < end) where
  pub flags_are : (i : ℕ) → is_free (flags words end) i ≡ has_bit words i
  flags_are i = elim (cases_lt i end) [
    | inl below ↦ get_or-map-range_with_len (has_bit words) 0 end i i false below (omega arith)
    | inr past ↦ get_or_past (flags words end) i false (omega (arith, flags_size words end)) ∙ sym (false_from_ne_true (has_bit words i) (λ is. absurd (let lt = within i is in omega arith)))
  ]

  pub flags_lowest : (i : ℕ) → IsFirstBit words i → IsLowest (flags words end) i
  flags_lowest i first = record { is = flags_are i ∙ first.is; before = λ j below. flags_are j ∙ first.before j below }

  pub flags_none : ((k : ℕ) → get_or words k 0 ≡ 0) → (i : ℕ) → is_free (flags words end) i ≡ false
  flags_none none i = flags_are i ∙ no_bit words none i

-- an assigned number, as a change of the list
pub flags_assigned : (words new : List ℕ) (end number : ℕ) (mark some : Bool) → number < end → Assigns words number mark new some → flags new end ≡ set (flags words end) number mark
flags_assigned words new end number mark some within assigns =
    let size = flags_size words end in
    let entries = flags words end in
    ext_get_or false (flags new end) (set entries number mark) (flags_size new end ∙ sym (length-set entries number mark ∙ size))
    (λ i below.
    let lt : i < end = omega (arith, flags_size new end) in
    get_or-map-range_with_len (has_bit new) 0 end i i false lt (omega arith)
    ∙ assigns.bits i
    ∙ ap (λ b. if nat_eq i number then mark else b) (sym (get_or-map-range_with_len (has_bit words) 0 end i i false lt (omega arith)))
    ∙ sym (free_set entries number mark i (omega arith)))

still : (i number : ℕ) (mark new old : Bool) → new ≡ (if nat_eq i number then mark else old) → i ≢ number → IsTrue new → IsTrue old
still i number mark new old bit apart is = grind (arith, nat_tests)

-- ---- the set

counted : (entries : List Bool) (free number : ℕ) (mark : Bool) → number < length entries → is_free entries number ≡ not mark → free ≡ count_free entries
    → (if mark then free + 1 else free - 1) ≡ count_free (set entries number mark)
counted entries free number true within was is = omega (arith, count_freed entries number within was, is)
counted entries free number false within was is = omega (arith, count_taken entries number within was, is)

module _ (end : ℕ) (entries words blocks : List ℕ) (free : ℕ) (is_set : IsEntrySet end entries words blocks free) (now : List Bool) (view : flags entries end ≡ now) (number : ℕ) (mark : Bool)
    (within : number < length now) (changes : is_free now number ≡ not mark) where
  below : number < end
  below = let same = ap length view in omega (arith, same, flags_size entries end, within)

  was : is_free (flags entries end) number ≡ not mark
  was = ap (λ l. is_free l number) view ∙ changes

  pub has_word : number / 64 < length entries
  has_word = let is = is_set.entries_size in omega (arith, below, is)

  pub has_block : number / 64 / 64 < length words
  has_block = let is = is_set.words_size in omega (arith, below, is)

  pub has_top : number / 4096 / 64 < length blocks
  has_top = let is = is_set.blocks_size in omega (arith, below, is)

  count_is : (if mark then free + 1 else free - 1) ≡ count_free (set (flags entries end) number mark)
  count_is = counted (flags entries end) free number mark (let size = flags_size entries end in omega (arith, below, size)) was is_set.count

  pub count_fits : IsTrue mark → free + 1 < 2 ^ 64
  count_fits is =
      let small = is_set.small in
      let size = flags_size entries end in
      let freed = count_freed (flags entries end) number (omega (arith, below, size)) (rw is at was) in
      let bound = count_bound (set (flags entries end) number true) in
      let size' = length-set (flags entries end) number true in
      let count = is_set.count in
      omega (arith, count, freed, bound, size, size', small)

  pub count_some : mark ≡ false → 1 ≤ free
  count_some is =
      let taken = count_taken (flags entries end) number (let size = flags_size entries end in omega (arith, below, size)) (rw is at was) in
      let count = is_set.count in
      omega (arith, taken, count)

  module _ (new_entries new_words new_blocks : List ℕ) (new_free : ℕ) (some any top : Bool)
      (first : Assigns entries number mark new_entries some) (second : Assigns words (number / 64) some new_words any) (third : Assigns blocks (number / 4096) any new_blocks top) where
    pub set_assigned : new_free ≡ (if mark then free + 1 else free - 1) → IsEntrySet end new_entries new_words new_blocks new_free
    set_assigned count =
        let place : number / 64 / 64 ≡ number / 4096 = omega arith in
        record {
          small = is_set.small;
          within = λ i is. elim (cases_eq i number) [ inl same ↦ subst (λ n. n < end) (sym same) below | inr apart ↦ is_set.within i (still i number mark (has_bit new_entries i) (has_bit entries i) (first.bits i) apart is) ];
          words_follow = summary_assigned entries words new_entries new_words number mark some any is_set.words_follow first second;
          blocks_follow = summary_assigned words blocks new_words new_blocks (number / 64) some any top is_set.blocks_follow second (subst (λ n. Assigns blocks n any new_blocks top) (sym place) third);
          entries_size = first.size ∙ is_set.entries_size;
          words_size = second.size ∙ is_set.words_size;
          blocks_size = third.size ∙ is_set.blocks_size;
          count = count ∙ count_is ∙ ap count_free (sym (flags_assigned entries new_entries end number mark some below first));
        }

    pub view_assigned : flags new_entries end ≡ set now number mark
    view_assigned = flags_assigned entries new_entries end number mark some below first ∙ ap (λ l. set l number mark) view

-- the lowest entry, in three steps
module _ (end : ℕ) (entries words blocks : List ℕ) (free : ℕ) (is_set : IsEntrySet end entries words blocks free) where
  pub none_in_set : ((k : ℕ) → get_or blocks k 0 ≡ 0) → (i : ℕ) → is_free (flags entries end) i ≡ false
  none_in_set none = flags_none entries end is_set.within (none_below entries words is_set.words_follow (none_below words blocks is_set.blocks_follow none))

  pub first_block : (block : ℕ) → IsFirstBit blocks block → IsFirstWord words block
  first_block block first = first_below words blocks block is_set.blocks_follow first

  pub first_entries : (word : ℕ) → IsFirstBit words word → IsFirstWord entries word
  first_entries word first = first_below entries words word is_set.words_follow first

  pub words_fit : 64 * length entries ≤ 2 ^ 64
  words_fit =
      let size = is_set.entries_size in
      let small = is_set.small in
      omega (arith, size, small)

  pub lowest_in_set : (entry : ℕ) → IsFirstBit entries entry → IsLowest (flags entries end) entry
  lowest_in_set entry first = flags_lowest entries end is_set.within entry first

-- ---- new sets

no_mark : (size i : ℕ) → has_bit (replicate size 0) i ≡ false
no_mark size i = no_bit (replicate size 0) (zero_or_none size) i

none_free : (end size : ℕ) → flags (replicate size 0) end ≡ replicate end false
none_free end size =
    let size_is = flags_size (replicate size 0) end in
    ext_get_or false (flags (replicate size 0) end) (replicate end false) (size_is ∙ sym (length-replicate end false))
    (λ i below.
    let lt : i < end = omega (arith, size_is, below) in
    get_or-map-range_with_len (has_bit (replicate size 0)) 0 end i i false lt (omega arith) ∙ no_mark size i ∙ sym (get_or-replicate end i false false lt))

pub none_are_free : (end : ℕ) (entries : List ℕ) → entries ≡ replicate (end / 64 + 1) 0 → flags entries end ≡ replicate end false
none_are_free end entries is = ap (λ l. flags l end) is ∙ none_free end (end / 64 + 1)

fresh_set : (end : ℕ) → end < 2 ^ 64 → IsEntrySet end (replicate (end / 64 + 1) 0) (replicate (end / 4096 + 1) 0) (replicate (end / 262144 + 1) 0) 0
fresh_set end small = record {
  small = small;
  within = λ i is. absurd (true≢false (sym is ∙ no_mark (end / 64 + 1) i));
  words_follow = λ k. no_mark (end / 4096 + 1) k ∙ sym (ap (λ n. not (nat_eq n 0)) (zero_or_none (end / 64 + 1) k));
  blocks_follow = λ k. no_mark (end / 262144 + 1) k ∙ sym (ap (λ n. not (nat_eq n 0)) (zero_or_none (end / 4096 + 1) k));
  entries_size = length-replicate {A = ℕ} (end / 64 + 1) 0;
  words_size = length-replicate {A = ℕ} (end / 4096 + 1) 0;
  blocks_size = length-replicate {A = ℕ} (end / 262144 + 1) 0;
  count = sym (ap count_free (none_free end (end / 64 + 1)) ∙ count_none end);
}

pub empty_set : (end : ℕ) → end < 2 ^ 64 → (entries words blocks : List ℕ) → entries ≡ replicate (end / 64 + 1) 0 → words ≡ replicate (end / 4096 + 1) 0 → blocks ≡ replicate (end / 262144 + 1) 0
    → IsEntrySet end entries words blocks 0
empty_set end small entries words blocks entries_are words_are blocks_are =
    subst (λ (l : List ℕ). IsEntrySet end l words blocks 0) (sym entries_are)
    (subst (λ (l : List ℕ). IsEntrySet end (replicate (end / 64 + 1) 0) l blocks 0) (sym words_are)
    (subst (λ (l : List ℕ). IsEntrySet end (replicate (end / 64 + 1) 0) (replicate (end / 4096 + 1) 0) l 0) (sym blocks_are) (fresh_set end small)))

-- all entries, one after the other
abbrev pub AreFreeBelow : ℕ → ℕ → List Bool → Type 0
AreFreeBelow end n entries = (length entries ≡ end) × ((i : ℕ) → is_free entries i ≡ nat_lt i n)

pub all_free : (end : ℕ) (entries : List Bool) → AreFreeBelow end end entries → entries ≡ replicate end true
all_free end entries are =
    ext_get_or false entries (replicate end true) (are.0 ∙ sym (length-replicate end true))
    (λ i below. let lt : i < end = omega (arith, are.0) in are.1 i ∙ grind (arith, nat_tests, get_or-replicate end i true false lt, lt))
