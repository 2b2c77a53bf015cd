-- A record with room for one more gap, and what is read under it.
use Rattle.std.proofs.Common.{◌≡◌, ℕ, ◌+◌, ◌<◌, ◌≤◌, Bool, true, false, not, cond, ◌&&◌, ◌==◌, IsTrue, ◌⊎◌, inl, inr, length, drop, refl, sym, ap, subst, ◌∙◌, arith}
use Rattle.std.proofs.lemmas.Bool.{and_parts, cases_Bool, cases_lt, cond-true, cond-false, eqb-true, eqb-false}
use Rattle.std.proofs.lemmas.List.{length-drop}
use Rattle.pmem.specs.Device.{State}
use Rattle.pmem.specs.Crash.{image_of}
use Rattle.pmem.specs.Runs.{LeavesOnly}
use Rattle.model.specs.declared.image.TheConstants.{COUNTER_LIMIT, STAMP_WINDOW}
use Rattle.model.specs.declared.layout.Layout.{Layout}
use Rattle.model.specs.declared.record.Record.{Record}
use Rattle.model.specs.Layout.{max_gaps}
use Rattle.model.specs.Image.{Image, entry_word, counts, is_in_gap}
use Rattle.model.proofs.LayoutLemmas.{some_gaps}
use Rattle.wbl_record.specs.Current.{IsLawful}
use Rattle.wbl_engine.specs.Freeing.{record_after_clearing}
use Rattle.wbl_engine.specs.Lawful.{IsUndamaged}
use Rattle.wbl_engine.specs.Erasing.{oldest_gap}
use Rattle.wbl_engine.specs.Reopening.{AreCleared, ExhaustsReopening, IsBesideRecords, IsReadable, StaysReadable, is_cleared, is_full, with_room}
use Rattle.wbl_engine.proofs.ClearingLemmas.{without_alike}
use Rattle.wbl_engine.proofs.Erased.{IsErased, erased_under, nothing, undamaged_sound}
use Rattle.wbl_engine.proofs.ErasedGap.{cleared_erased, cleared_later}
use Rattle.wbl_engine.proofs.GapLemmas.{in_oldest, oldest}
use Rattle.wbl_engine.proofs.Readable.{IsLater, IsLater-same, moments_then}

-- the record is full and loses its oldest gap, or it stays
pub room_cases : (r : Record) → ((is_full r ≡ true) × (with_room r ≡ record_after_clearing r)) ⊎ ((is_full r ≡ false) × (with_room r ≡ r))
room_cases r =
    elim (cases_Bool (is_full r)) [
      | inl full ↦ inl (full, cond-true (is_full r) (record_after_clearing r) r full)
      | inr roomy ↦ inr (roomy, cond-false (is_full r) (record_after_clearing r) r roomy)
    ]

pub room_layout : (r : Record) → (with_room r).layout ≡ r.layout
room_layout r = elim (room_cases r) [ inl full ↦ ap (λ (q : Record). q.layout) full.1 | inr roomy ↦ ap (λ (q : Record). q.layout) roomy.1 ]

pub room_role : (r : Record) → (with_room r).role ≡ r.role
room_role r = elim (room_cases r) [ inl full ↦ ap (λ (q : Record). q.role) full.1 | inr roomy ↦ ap (λ (q : Record). q.role) roomy.1 ]

-- a word beside the records stays beside them
pub beside_room : (r roomy : Record) (lines lines' word : ℕ) → roomy ≡ with_room r → lines' ≡ lines → IsBesideRecords r.layout lines word
    → IsBesideRecords roomy.layout lines' word
beside_room r roomy lines lines' word is same beside =
    subst (λ (n : ℕ). IsBesideRecords roomy.layout n word) (sym same)
    (subst (λ (layout : Layout). IsBesideRecords layout lines word) (sym (ap (λ (q : Record). q.layout) is ∙ room_layout r)) beside)

pub full_some : (r : Record) → is_full r ≡ true → 0 < length r.gaps.items
full_some r full = let e = eqb-true (length r.gaps.items) (max_gaps r.layout) full in omega (arith, e, some_gaps r.layout)

-- no counter of the reopened record reaches its limit
pub record HasLimits (r : Record) : Type 0 where
  pub room : length (with_room r).gaps.items < max_gaps (with_room r).layout
  pub limit : (with_room r).cd + 1 + STAMP_WINDOW < COUNTER_LIMIT
  pub number : (with_room r).number + 1 < COUNTER_LIMIT
  pub cleared_number : r.number + 1 < COUNTER_LIMIT

pub has_limits : (r : Record) → IsLawful r → (ExhaustsReopening r → ⊥) → HasLimits r
has_limits r lawful limits =
    let limit : (with_room r).cd + 1 + STAMP_WINDOW < COUNTER_LIMIT =
    below ((with_room r).cd + 1 + STAMP_WINDOW) COUNTER_LIMIT (λ reached. limits (inl reached)) in
    let number : (with_room r).number + 1 < COUNTER_LIMIT = below ((with_room r).number + 1) COUNTER_LIMIT (λ reached. limits (inr reached)) in
    elim (room_cases r) [
      | inl full ↦
          let e = eqb-true (length r.gaps.items) (max_gaps r.layout) full.0 in
          let most = ap max_gaps (room_layout r) in
          let count : (with_room r).number ≡ r.number + 1 = ap (λ (q : Record). q.number) full.1 in
          let gaps : length (with_room r).gaps.items ≡ length (drop 1 r.gaps.items) = ap (λ (q : Record). length q.gaps.items) full.1 in
          record {
            room = omega (arith, gaps, e, length-drop 1 r.gaps.items, most, some_gaps r.layout);
            limit = limit;
            number = number;
            cleared_number = omega (arith, count, number);
          }
      | inr roomy ↦
          let count : (with_room r).number ≡ r.number = ap (λ (q : Record). q.number) roomy.1 in
          let gaps : length (with_room r).gaps.items ≡ length r.gaps.items = ap (λ (q : Record). length q.gaps.items) roomy.1 in
          let less = fewer (length r.gaps.items) (max_gaps r.layout) lawful.few roomy.0 in
          let most = ap max_gaps (room_layout r) in
          record { room = omega (arith, gaps, less, most); limit = limit; number = number; cleared_number = omega (arith, count, number) }
    ]
  where
    below : (a b : ℕ) → (b ≤ a → ⊥) → a < b
    below a b not = elim (cases_lt a b) [ inl less ↦ less | inr reached ↦ absurd (not reached) ]

    fewer : (n most : ℕ) → n ≤ most → (n == most) ≡ false → n < most
    fewer n most le other = elim (cases_lt n most) [ inl less ↦ less | inr reached ↦ absurd (eqb-false n most other (omega (arith, le, reached))) ]

pub room_limit : (r : Record) → (with_room r).cd ≡ r.cd
room_limit r = elim (room_cases r) [ inl full ↦ ap (λ (q : Record). q.cd) full.1 | inr roomy ↦ ap (λ (q : Record). q.cd) roomy.1 ]

-- ---- what is read once the stamps are cleared

-- a stamp that is cleared did not count
pub cleared_uncounted : (r : Record) → IsLawful r → (stamp : ℕ) → IsTrue (is_cleared r stamp) → counts r stamp ≡ false
cleared_uncounted r lawful stamp is =
    let parts = and_parts (is_full r) (is_in_gap stamp (oldest_gap r)) is in
    in_oldest r (oldest_gap r) stamp (oldest r lawful (full_some r parts.0)) parts.1

pub room_later : (r : Record) → IsLater r (with_room r)
room_later r =
    elim (room_cases r) [
      | inl full ↦ subst (IsLater r) (sym full.1) (cleared_later r)
      | inr roomy ↦ subst (IsLater r) (sym roomy.1) (IsLater-same r)
    ]

pub room_erased : {lines : ℕ} {r : Record} {base image : Image} → IsUndamaged lines r base → AreCleared r.layout lines (is_cleared r) base image
    → IsErased r (with_room r) lines nothing base image
room_erased {lines} {r} {base} {image} whole cleared =
    let erased : IsErased r r lines nothing base image =
    cleared_erased (is_cleared r) cleared refl (undamaged_sound whole) (cleared_uncounted r whole.current.lawful) in
    elim (room_cases r) [
      | inl full ↦
          subst (λ (q : Record). IsErased r q lines nothing base image) (sym full.1)
          (erased_under (record_after_clearing r) refl erased
          (without_alike r lines base image whole.current.lawful (full_some r full.0)
          (λ i k within low.
          cleared.stamps i k within low
          ∙ ap (λ (b : Bool). cond (b && is_in_gap (base (entry_word i k)) (oldest_gap r)) 0 (base (entry_word i k))) full.0)))
      | inr roomy ↦ subst (λ (q : Record). IsErased r q lines nothing base image) (sym roomy.1) erased
    ]

pub reopened_moments : {r : Record} {d b c : State} (roomy : Record) → roomy ≡ with_room r → IsReadable r d
    → AreCleared r.layout d.lines (is_cleared r) (image_of d.words) (image_of b.words) → b.lines ≡ d.lines
    → LeavesOnly d b (StaysReadable d.lines r (image_of d.words)) → LeavesOnly b c (StaysReadable b.lines roomy (image_of b.words))
    → LeavesOnly d c (StaysReadable d.lines r (image_of d.words))
reopened_moments {r} {d} {b} {c} roomy is readable cleared same first second =
    moments_then readable.undamaged (room_erased readable.undamaged cleared) (room_later r) same first
    (subst (λ (q : Record). LeavesOnly b c (StaysReadable b.lines q (image_of b.words))) is second)
