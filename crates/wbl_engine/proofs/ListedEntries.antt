-- The entries below a number that pass a test, in rising order.
use Rattle.std.proofs.Common.{◌≡◌, ℕ, zero, suc, ◌+◌, ◌<◌, Bool, true, false, not, cond, ◌&&◌, ◌||◌, ◌==◌, List, [], ◌∷◌, ◌++◌, map, refl, sym, ap, subst, ◌∙◌, arith}
use Rattle.std.specs.Prelude.{nat_eq, nat_lt}
use Rattle.std.specs.List.{AllByRecursion, IsDistinct}
use Rattle.std.proofs.Math.Bool.{and-true, or-false}
use Rattle.std.proofs.lemmas.Bool.{and_right, eqb-true, le-ltb, ne_eqb}
use Rattle.std.proofs.lemmas.Bool.Decides.{nat_tests}
use Rattle.std.proofs.lemmas.List.{append-nil, map-append}
use Rattle.std.proofs.lemmas.List.Folds.{list_any-append}
use Rattle.kv_types.specs.declared.place.EntryNo.{EntryNo}
use Rattle.heap_layout.specs.Versions.{gapped_below, is_gapped}
use Rattle.model.specs.declared.record.Gap.{Gap}
use Rattle.model.specs.declared.record.Record.{Record}
use Rattle.model.specs.Image.{Image, counts, entry_word, is_in_gap}
use Rattle.wbl_engine.specs.Erasing.{stamped_at, stamped_below}
use Rattle.wbl_engine.specs.Freeing.{is_listed}
use Rattle.wbl_engine.specs.Reopening.{is_full, is_left, left_at, left_below}

-- the entry with this number, where it is listed
abbrev one_if : Bool → ℕ → List EntryNo
one_if b n = cond b (record { 0 = n } ∷ []) []

abbrev passing : (ℕ → Bool) → ℕ → List EntryNo
passing test zero = []
passing test (suc n) = passing test n ++ one_if (test n) n

-- ---- which are listed

one_listed : (i n : ℕ) (b : Bool) → is_listed i (one_if b n) ≡ (nat_eq i n && b)
one_listed i n true = or-false (nat_eq i n) ∙ sym (and-true (nat_eq i n))
one_listed i n false = sym (and_right (nat_eq i n) false refl)

either_bit : (a b x y : Bool) → (b ≡ true → y ≡ x) → ((a && x) || (b && y)) ≡ ((a || b) && x)
either_bit true b true y same = refl
either_bit true true false y same = same refl
either_bit true false false y same = refl
either_bit false true x y same = same refl
either_bit false false x y same = refl

below_next : (i n : ℕ) → (nat_lt i n || nat_eq i n) ≡ nat_lt i (suc n)
below_next i n = grind (arith, nat_tests)

listed_passing : (test : ℕ → Bool) (n i : ℕ) → is_listed i (passing test n) ≡ (nat_lt i n && test i)
listed_passing test zero i = ap (λ (b : Bool). b && test i) (sym (le-ltb i 0 (omega arith)))
listed_passing test (suc n) i =
    list_any-append (λ (entry : EntryNo). nat_eq i entry.0) (passing test n) (one_if (test n) n)
    ∙ ap (λ (b : Bool). b || is_listed i (one_if (test n) n)) (listed_passing test n i)
    ∙ ap (λ (b : Bool). (nat_lt i n && test i) || b) (one_listed i n (test n))
    ∙ either_bit (nat_lt i n) (nat_eq i n) (test i) (test n) (λ same. ap test (sym (eqb-true i n same)))
    ∙ ap (λ (b : Bool). b && test i) (below_next i n)

-- ---- each is listed once

abbrev numbers : List EntryNo → List ℕ
numbers entries = map (λ (entry : EntryNo). entry.0) entries

-- no entry is listed twice, and each is below this number
record Rises (n : ℕ) (entries : List EntryNo) : Type 0 where
  below : AllByRecursion (λ m. m < n) (numbers entries)
  once : IsDistinct nat_eq (numbers entries)

all_below_next : (n : ℕ) (ms : List ℕ) → AllByRecursion (λ m. m < n) ms → AllByRecursion (λ m. m < suc n) ms
all_below_next n [] low = tt
all_below_next n (m ∷ ms) low = (omega (arith, low.0), all_below_next n ms low.1)

all_with_last : (P : ℕ → Type 0) (ms : List ℕ) (n : ℕ) → AllByRecursion P ms → P n → AllByRecursion P (ms ++ n ∷ [])
all_with_last P [] n h last = (last, tt)
all_with_last P (m ∷ ms) n h last = (h.0, all_with_last P ms n h.1 last)

distinct_with_last : (ms : List ℕ) (n : ℕ) → AllByRecursion (λ m. m < n) ms → IsDistinct nat_eq ms → IsDistinct nat_eq (ms ++ n ∷ [])
unfolding IsDistinct
distinct_with_last [] n low distinct = (tt, tt)
distinct_with_last (m ∷ ms) n low distinct = (
  all_with_last (λ k. nat_eq m k ≡ false) ms n distinct.0 (ne_eqb m n (λ same. omega (arith, low.0, same))),
  distinct_with_last ms n low.1 distinct.1,
)

rises_next : (n : ℕ) (b : Bool) (entries : List EntryNo) → Rises n entries → Rises (suc n) (entries ++ one_if b n)
rises_next n true entries rises =
    let are = map-append (λ (entry : EntryNo). entry.0) entries (one_if true n) in
    record {
      below = subst (AllByRecursion (λ m. m < suc n)) (sym are)
          (all_with_last (λ m. m < suc n) (numbers entries) n (all_below_next n (numbers entries) rises.below) (omega arith));
      once = subst (IsDistinct nat_eq) (sym are) (distinct_with_last (numbers entries) n rises.below rises.once);
    }
rises_next n false entries rises =
    subst (Rises (suc n)) (sym (append-nil entries)) (record { below = all_below_next n (numbers entries) rises.below; once = rises.once })

passing_rises : (test : ℕ → Bool) (n : ℕ) → Rises n (passing test n)
unfolding IsDistinct
passing_rises test zero = record { below = tt; once = tt }
passing_rises test (suc n) = rises_next n (test n) (passing test n) (passing_rises test n)

-- ---- the entries with a stamp in a gap

stamped_passing : (gap : Gap) (image : Image) (k n : ℕ) → stamped_below gap image k n ≡ passing (λ i. is_in_gap (image (entry_word i k)) gap) n
stamped_passing gap image k zero = refl
stamped_passing gap image k (suc n) = ap (λ (entries : List EntryNo). entries ++ stamped_at gap image k n) (stamped_passing gap image k n)

pub listed_stamped : (gap : Gap) (image : Image) (k n i : ℕ)
    → is_listed i (stamped_below gap image k n) ≡ (nat_lt i n && is_in_gap (image (entry_word i k)) gap)
listed_stamped gap image k n i =
    ap (is_listed i) (stamped_passing gap image k n) ∙ listed_passing (λ j. is_in_gap (image (entry_word j k)) gap) n i

pub stamped_once : (gap : Gap) (image : Image) (k n : ℕ) → IsDistinct nat_eq (numbers (stamped_below gap image k n))
stamped_once gap image k n =
    subst (λ (entries : List EntryNo). IsDistinct nat_eq (numbers entries)) (sym (stamped_passing gap image k n))
    (passing_rises (λ i. is_in_gap (image (entry_word i k)) gap) n).once

-- ---- the entries that a reopening leaves neither free nor with a version

left_passing : (r : Record) (image : Image) (n : ℕ) → left_below r image n ≡ passing (λ i. is_left r (image (entry_word i 0))) n
left_passing r image zero = refl
left_passing r image (suc n) = ap (λ (entries : List EntryNo). entries ++ left_at r image n) (left_passing r image n)

pub listed_left : (r : Record) (image : Image) (n i : ℕ) → is_listed i (left_below r image n) ≡ (nat_lt i n && is_left r (image (entry_word i 0)))
listed_left r image n i = ap (is_listed i) (left_passing r image n) ∙ listed_passing (λ j. is_left r (image (entry_word j 0))) n i

and_more : (a b f x : Bool) → f ≡ false → (a && b) ≡ (a && (b && not (f && x)))
and_more a b f x none = ap (λ (c : Bool). a && c) (sym (and-true b)) ∙ sym (ap (λ (g : Bool). a && (b && not (g && x))) none)

-- where no gap is cleared, those are all that were begun and do not count
pub left_gapped : (r : Record) (image : Image) (n : ℕ) → is_full r ≡ false → gapped_below r image n ≡ left_below r image n
left_gapped r image zero roomy = refl
left_gapped r image (suc n) roomy =
    let begin : ℕ = image (entry_word n 0) in
    let same : is_gapped r image n ≡ is_left r begin = and_more (not (begin == 0)) (not (counts r begin)) (is_full r) _ roomy in
    ap (λ (entries : List EntryNo). entries ++ one_if (is_gapped r image n) n) (left_gapped r image n roomy)
    ∙ ap (λ (b : Bool). left_below r image n ++ one_if b n) same

-- one entry more
pub left_more : (r : Record) (image : Image) (i begin : ℕ) (left : Bool) (old new : List EntryNo) → old ≡ left_below r image i
    → begin ≡ image (entry_word i 0) → left ≡ is_left r begin → new ≡ old ++ cond left (record { 0 = i } ∷ []) [] → new ≡ left_below r image (i + 1)
left_more r image i begin left old new before read tested added =
    let same : i + 1 ≡ suc i = omega arith in
    added ∙ ap (λ (entries : List EntryNo). entries ++ one_if left i) before
    ∙ ap (λ (b : Bool). left_below r image i ++ one_if b i) (tested ∙ ap (is_left r) read) ∙ sym (ap (left_below r image) same)
