-- The lists of versions, as the reopened image has them.
use Rattle.std.proofs.Common.{◌≡◌, ℕ, zero, suc, ◌<◌, ◌≤◌, Bool, true, false, not, cond, ◌&&◌, ◌||◌, ◌==◌, IsTrue, inl, inr, List, [], ◌∷◌, ◌++◌, refl, sym, ap, ◌∙◌, arith}
use Rattle.std.specs.Prelude.{nat_lt}
use Rattle.std.proofs.Math.Bool.{and-true, or-false}
use Rattle.std.proofs.lemmas.Bool.{and_right, both_ways, cases_Bool, cond-true, cond-false, le-ltb, lt-ltb}
use Rattle.kv_types.specs.declared.place.EntryNo.{EntryNo}
use Rattle.heap_layout.specs.declared.entry.Entry.{Entry}
use Rattle.heap_layout.specs.Versions.{counted_at, counted_below, counted_entry, gapped_at, gapped_below, is_counted, is_gapped}
use Rattle.pmem.specs.Device.{State}
use Rattle.pmem.specs.Crash.{image_of}
use Rattle.model.specs.declared.record.Record.{Record}
use Rattle.model.specs.Image.{counts, entries_of_lines, entry_word}
use Rattle.wbl_engine.specs.AtRest.{contents_of}
use Rattle.wbl_engine.specs.Reopening.{IsShown, is_cleared, is_left, left_at, left_below, reopened, with_room}
use Rattle.wbl_engine.proofs.ReopenedContents.{IsReopenedOver, begin_is, over_entries, over_erased, over_low}
use Rattle.wbl_engine.proofs.RoomLemmas.{cleared_uncounted}
use Rattle.wbl_engine.proofs.VersionLemmas.{record_in-same}

-- ---- one entry

-- a stamp that counts is not cleared
same_stamp : {r : Record} {d c : State} → IsReopenedOver r d c → (i k : ℕ) → i < entries_of_lines r.layout d.lines → k < 2
    → counts r (image_of d.words (entry_word i k)) ≡ true → image_of c.words (entry_word i k) ≡ image_of d.words (entry_word i k)
same_stamp {r} {d} {c} over i k within low counted =
    over.cleared.stamps i k within low
    ∙ elim (cases_Bool (is_cleared r (image_of d.words (entry_word i k)))) [
      | inl cleared ↦
          absurd (both_ways (counts r (image_of d.words (entry_word i k))) (cleared_uncounted r over.undamaged.current.lawful (image_of d.words (entry_word i k)) cleared) counted)
      | inr kept ↦ cond-false (is_cleared r (image_of d.words (entry_word i k))) _ _ kept
    ]

-- and the end of an entry is read as it was
same_end : {r : Record} {d c : State} → IsReopenedOver r d c → (i : ℕ) → i < entries_of_lines r.layout d.lines
    → IsTrue (counts r (image_of d.words (entry_word i 0)))
    → cond (counts (reopened r) (image_of c.words (entry_word i 1))) (image_of c.words (entry_word i 1)) 0
    ≡ cond (counts r (image_of d.words (entry_word i 1))) (image_of d.words (entry_word i 1)) 0
same_end {r} {d} {c} over i within begun =
    let alike = (over_erased over).ended i within begun in
    elim (cases_Bool (counts r (image_of d.words (entry_word i 1)))) [
      | inl ended ↦
          cond-true (counts (reopened r) (image_of c.words (entry_word i 1))) _ _ (alike ∙ ended)
          ∙ same_stamp over i 1 within (omega arith) ended
          ∙ sym (cond-true (counts r (image_of d.words (entry_word i 1))) _ _ ended)
      | inr live ↦
          cond-false (counts (reopened r) (image_of c.words (entry_word i 1))) _ _ (alike ∙ live)
          ∙ sym (cond-false (counts r (image_of d.words (entry_word i 1))) _ _ live)
    ]

same_counted : {r : Record} {d c : State} → IsReopenedOver r d c → (i : ℕ) → i < entries_of_lines r.layout d.lines
    → is_counted r (image_of d.words) i ≡ true → counted_entry (reopened r) (image_of c.words) i ≡ counted_entry r (image_of d.words) i
same_counted {r} {d} {c} over i within begun =
    let same = (over_erased over).entry i within begun in
    let begin = same_stamp over i 0 within (omega arith) begun in
    let end = same_end over i within begun in
    let position = same.words 2 (omega arith) (omega arith) in
    let first = same.words 3 (omega arith) (omega arith) in
    let count = same.words 4 (omega arith) (omega arith) in
    let held = record_in-same (image_of d.words) (image_of c.words) i same in
    cc

counted_same : {r : Record} {d c : State} → IsReopenedOver r d c → (i : ℕ) → i < entries_of_lines r.layout d.lines
    → counted_at (reopened r) (image_of c.words) i ≡ counted_at r (image_of d.words) i
counted_same {r} {d} {c} over i within =
    let alike = (over_erased over).begun i within in
    elim (cases_Bool (is_counted r (image_of d.words) i)) [
      | inl begun ↦
          cond-true (is_counted (reopened r) (image_of c.words) i) _ _ (alike ∙ begun)
          ∙ ap (λ (entry : Entry). (record { 0 = i }, entry) ∷ []) (same_counted over i within begun)
          ∙ sym (cond-true (is_counted r (image_of d.words) i) _ _ begun)
      | inr free ↦
          cond-false (is_counted (reopened r) (image_of c.words) i) _ _ (alike ∙ free)
          ∙ sym (cond-false (is_counted r (image_of d.words) i) _ _ free)
    ]

gapped_bit : (begin : ℕ) (counted cleared : Bool)
    → (not (cond cleared 0 begin == 0) && not counted) ≡ (not (begin == 0) && (not counted && not cleared))
gapped_bit begin counted true = sym (and_right (not (begin == 0)) (not counted && false) (and_right (not counted) false refl))
gapped_bit begin counted false = ap (λ (b : Bool). not (begin == 0) && b) (sym (and-true (not counted)))

gapped_same : {r : Record} {d c : State} → IsReopenedOver r d c → (i : ℕ) → i < entries_of_lines r.layout d.lines
    → gapped_at (reopened r) (image_of c.words) i ≡ left_at r (image_of d.words) i
gapped_same {r} {d} {c} over i within =
    let same : is_gapped (reopened r) (image_of c.words) i ≡ is_left r (image_of d.words (entry_word i 0)) =
    ap (λ (counted : Bool). not (image_of c.words (entry_word i 0) == 0) && not counted) ((over_erased over).begun i within)
    ∙ ap (λ (word : ℕ). not (word == 0) && not (counts r (image_of d.words (entry_word i 0)))) (begin_is over i within)
    ∙ gapped_bit (image_of d.words (entry_word i 0)) (counts r (image_of d.words (entry_word i 0))) (is_cleared r (image_of d.words (entry_word i 0))) in
    ap (λ (gapped : Bool). cond gapped (record { 0 = i } ∷ []) []) same

-- ---- all of them

counted_as : {r : Record} {d c : State} → IsReopenedOver r d c → (n : ℕ) → n ≤ entries_of_lines r.layout d.lines
    → counted_below r (image_of d.words) n ≡ counted_below (reopened r) (image_of c.words) n
counted_as over zero within = refl
counted_as {r} {d} {c} over (suc n) within =
    ap (λ (entries : List (EntryNo × Entry)). entries ++ counted_at r (image_of d.words) n) (counted_as over n (omega (arith, within)))
    ∙ sym (ap (λ (entries : List (EntryNo × Entry)). counted_below (reopened r) (image_of c.words) n ++ entries)
    (counted_same over n (omega (arith, within))))

gapped_as : {r : Record} {d c : State} → IsReopenedOver r d c → (n : ℕ) → n ≤ entries_of_lines r.layout d.lines
    → left_below r (image_of d.words) n ≡ gapped_below (reopened r) (image_of c.words) n
gapped_as over zero within = refl
gapped_as {r} {d} {c} over (suc n) within =
    ap (λ (entries : List EntryNo). entries ++ left_at r (image_of d.words) n) (gapped_as over n (omega (arith, within)))
    ∙ sym (ap (λ (entries : List EntryNo). gapped_below (reopened r) (image_of c.words) n ++ entries) (gapped_same over n (omega (arith, within))))

-- an entry of the reopened image is free where its begin is 0, since no begin is above the last stamp
free_is : {r : Record} {d c : State} → IsReopenedOver r d c → (i : ℕ) → i < entries_of_lines (reopened r).layout c.lines
    → (contents_of (reopened r) c).is_free i ≡ (image_of c.words (entry_word i 0) == 0)
free_is {r} {d} {c} over i within =
    let begin : ℕ = image_of c.words (entry_word i 0) in
    let low = over_low over i 0 within (omega arith) in
    ap (λ (b : Bool). b && (begin == 0 || nat_lt (with_room r).cd begin)) (lt-ltb i (entries_of_lines (reopened r).layout c.lines) within)
    ∙ ap (λ (b : Bool). begin == 0 || b) (le-ltb (with_room r).cd begin (omega (arith, low))) ∙ or-false (begin == 0)

pub shows : {r : Record} {d c : State} (counted : List (EntryNo × Entry)) (gapped : List EntryNo) → IsReopenedOver r d c
    → counted ≡ counted_below r (image_of d.words) (entries_of_lines r.layout d.lines)
    → gapped ≡ left_below r (image_of d.words) (entries_of_lines r.layout d.lines)
    → IsShown (contents_of (reopened r) c) counted gapped (image_of c.words)
shows {r} {d} {c} counted gapped over counts gaps =
    record {
      undamaged = over.readable.undamaged;
      counted = counts ∙ counted_as over (entries_of_lines r.layout d.lines) (omega arith)
          ∙ ap (counted_below (reopened r) (image_of c.words)) (sym (over_entries over));
      gapped = gaps ∙ gapped_as over (entries_of_lines r.layout d.lines) (omega arith)
          ∙ ap (gapped_below (reopened r) (image_of c.words)) (sym (over_entries over));
      is_free = free_is over;
    }
