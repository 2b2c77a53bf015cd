-- What an engine holds once its image is reopened.
use Rattle.std.proofs.Common.{◌≡◌, ℕ, ◌+◌, ◌<◌, ◌≤◌, Bool, true, false, not, cond, ◌&&◌, ◌||◌, ◌==◌, Option, Some, None, List, refl, sym, ap, subst, ◌∙◌, arith}
use Rattle.std.specs.Prelude.{nat_lt, is_none}
use Rattle.std.proofs.lemmas.Bool.{le-ltb, or_right}
use Rattle.kv_types.specs.declared.place.EntryNo.{EntryNo}
use Rattle.heap_layout.specs.declared.entry.Entry.{Entry}
use Rattle.heap_layout.specs.Versions.{counted_below}
use Rattle.pmem.specs.Device.{State}
use Rattle.pmem.specs.Crash.{image_of}
use Rattle.model.specs.declared.record.Record.{Record}
use Rattle.model.specs.declared.record.Role.{Role}
use Rattle.model.specs.Image.{Version, entry_word, entries_of_lines, counts, version_at, version_in}
use Rattle.model.specs.declared.layout.Layout.{Layout}
use Rattle.wbl_engine.specs.AtRest.{contents_of}
use Rattle.wbl_engine.specs.Freeing.{is_listed}
use Rattle.wbl_engine.specs.Lawful.{IsUndamaged}
use Rattle.wbl_engine.specs.Reopening.{AreCleared, ExhaustsReopening, IsReadable, Reopens, is_cleared, left_below, reopened, with_room}
use Rattle.wbl_engine.proofs.Erased.{AreBelow, IsErased, erased_free, erased_under, erased_versions, nothing, undamaged_below, undamaged_sound, versions-beyond, versions-within}
use Rattle.wbl_engine.proofs.ErasedGap.{cleared_below}
use Rattle.wbl_engine.proofs.ListedEntries.{listed_left}
use Rattle.wbl_engine.proofs.Reopened.{counts-open}
use Rattle.wbl_engine.proofs.RoomLemmas.{room_erased, room_layout, room_limit}

-- the record was written over an undamaged image
pub record IsReopenedOver (r : Record) (d c : State) : Type 0 where
  pub undamaged : IsUndamaged d.lines r (image_of d.words)
  pub readable : IsReadable (reopened r) c
  pub cleared : AreCleared r.layout d.lines (is_cleared r) (image_of d.words) (image_of c.words)
  pub lines_are : c.lines ≡ d.lines

pub reopened_over : {r : Record} (d c : State) → IsUndamaged d.lines r (image_of d.words) → IsReadable (reopened r) c
    → AreCleared r.layout d.lines (is_cleared r) (image_of d.words) (image_of c.words) → c.lines ≡ d.lines → IsReopenedOver r d c
reopened_over d c undamaged readable cleared same = record { undamaged = undamaged; readable = readable; cleared = cleared; lines_are = same }

pub over_erased : {r : Record} {d c : State} → IsReopenedOver r d c → IsErased r (reopened r) d.lines nothing (image_of d.words) (image_of c.words)
over_erased {r} {d} {c} over =
    erased_under (reopened r) refl (room_erased over.undamaged over.cleared)
    (λ i k now low.
    let within = subst (λ (layout : Layout). i < entries_of_lines layout d.lines) (room_layout r) now in
    counts-open (with_room r) (image_of c.words (entry_word i k))
    (omega (arith, room_limit r, cleared_below (is_cleared r) over.cleared (undamaged_below over.undamaged) i k within low)))

-- the directory has as many entries as before
pub over_entries : {r : Record} {d c : State} → IsReopenedOver r d c → entries_of_lines (reopened r).layout c.lines ≡ entries_of_lines r.layout d.lines
over_entries {r} {d} {c} over = ap (λ (layout : Layout). entries_of_lines layout c.lines) (room_layout r) ∙ ap (entries_of_lines r.layout) over.lines_are

-- each stamp is at most the last one of the reopened record
pub over_low : {r : Record} {d c : State} → IsReopenedOver r d c → AreBelow (reopened r).layout c.lines (image_of c.words) ((reopened r).cp + 1)
over_low {r} {d} {c} over i k within low =
    let at = cleared_below (is_cleared r) over.cleared (undamaged_below over.undamaged) i k (omega (arith, within, over_entries over)) low in
    omega (arith, room_limit r, at)

-- ---- its contents

free_bit : (begin cp : ℕ) (cleared : Bool) → cond cleared 0 begin ≤ cp
    → (cond cleared 0 begin == 0 || nat_lt cp (cond cleared 0 begin)) ≡ (begin == 0 || cleared)
free_bit begin cp true low = sym (or_right (begin == 0) true refl)
free_bit begin cp false low = ap (λ (b : Bool). begin == 0 || b) (le-ltb cp begin low)

left_bit : (zero counted cleared : Bool) (version : Version)
    → (not zero && (not counted && not cleared)) ≡ (not (zero || cleared) && is_none (cond counted (Some version) None))
left_bit true true true version = refl
left_bit true true false version = refl
left_bit true false true version = refl
left_bit true false false version = refl
left_bit false true true version = refl
left_bit false true false version = refl
left_bit false false true version = refl
left_bit false false false version = refl

-- the begin of an entry that the reopening leaves, or clears
pub begin_is : {r : Record} {d c : State} → IsReopenedOver r d c → (i : ℕ) → i < entries_of_lines r.layout d.lines
    → image_of c.words (entry_word i 0) ≡ cond (is_cleared r (image_of d.words (entry_word i 0))) 0 (image_of d.words (entry_word i 0))
begin_is over i within = over.cleared.stamps i 0 within (omega arith)

versions_are : {r : Record} {d c : State} → IsReopenedOver r d c → (i : ℕ)
    → (contents_of (reopened r) c).versions i ≡ cond (nat_lt i (entries_of_lines r.layout d.lines)) (version_at r (image_of d.words) i) None
versions_are {r} {d} {c} over =
    erased_versions c (contents_of r d).versions (undamaged_sound over.undamaged) (over_erased over) over.lines_are
    (λ i within. sym (versions-within r d i within)) (versions-beyond r d)

free_are : {r : Record} {d c : State} → IsReopenedOver r d c → (i : ℕ)
    → (contents_of (reopened r) c).is_free i
    ≡ (nat_lt i (entries_of_lines r.layout d.lines)
    && (image_of d.words (entry_word i 0) == 0 || is_cleared r (image_of d.words (entry_word i 0))))
free_are {r} {d} {c} over i =
    let free : Bool = image_of d.words (entry_word i 0) == 0 || is_cleared r (image_of d.words (entry_word i 0)) in
    let count : entries_of_lines (reopened r).layout d.lines ≡ entries_of_lines r.layout d.lines =
    ap (λ (layout : Layout). entries_of_lines layout d.lines) (room_layout r) in
    erased_free (reopened r) c i free over.lines_are
    (λ now.
    let is = begin_is over i (omega (arith, now, count)) in
    let low = over_low over i 0 (omega (arith, now, count, over_entries over)) (omega arith) in
    ap (λ (begin : ℕ). begin == 0 || nat_lt (with_room r).cd begin) is
    ∙ free_bit (image_of d.words (entry_word i 0)) (with_room r).cd (is_cleared r (image_of d.words (entry_word i 0))) (omega (arith, is, low)))
    ∙ ap (λ (n : ℕ). nat_lt i n && free) count

gapped_are : {r : Record} {d c : State} (gapped : List EntryNo) → IsReopenedOver r d c
    → gapped ≡ left_below r (image_of d.words) (entries_of_lines r.layout d.lines) → (i : ℕ)
    → is_listed i gapped
    ≡ (nat_lt i (entries_of_lines r.layout d.lines) && (not ((contents_of (reopened r) c).is_free i) && is_none ((contents_of (reopened r) c).versions i)))
gapped_are {r} {d} {c} gapped over are i =
    let begin : ℕ = image_of d.words (entry_word i 0) in
    let inside : Bool = nat_lt i (entries_of_lines r.layout d.lines) in
    ap (is_listed i) are ∙ listed_left r (image_of d.words) (entries_of_lines r.layout d.lines) i
    ∙ within (nat_lt i (entries_of_lines r.layout d.lines)) (image_of d.words (entry_word i 0) == 0) (counts r (image_of d.words (entry_word i 0)))
    (is_cleared r (image_of d.words (entry_word i 0))) (version_in r (image_of d.words) i)
    ∙ sym (ap (λ (b : Bool). nat_lt i (entries_of_lines r.layout d.lines) && (not b && is_none ((contents_of (reopened r) c).versions i))) (free_are over i)
    ∙ ap (λ (v : Option Version). nat_lt i (entries_of_lines r.layout d.lines) && (not (nat_lt i (entries_of_lines r.layout d.lines)
    && (image_of d.words (entry_word i 0) == 0 || is_cleared r (image_of d.words (entry_word i 0)))) && is_none v)) (versions_are over i))
  where
    within : (inside zero counted cleared : Bool) (version : Version)
        → (inside && (not zero && (not counted && not cleared)))
        ≡ (inside && (not (inside && (zero || cleared)) && is_none (cond inside (cond counted (Some version) None) None)))
    within true zero counted cleared version = left_bit zero counted cleared version
    within false zero counted cleared version = refl

pub reopens : {r : Record} {d c : State} (role : Role) (counted : List (EntryNo × Entry)) (gapped : List EntryNo) → IsReopenedOver r d c → r.role ≡ role
    → (ExhaustsReopening r → ⊥) → counted ≡ counted_below r (image_of d.words) (entries_of_lines r.layout d.lines)
    → gapped ≡ left_below r (image_of d.words) (entries_of_lines r.layout d.lines)
    → Reopens d.lines (image_of d.words) role (contents_of (reopened r) c) counted gapped
reopens {r} {d} {c} role counted gapped over is fits counts gaps =
    record {
      before = r;
      undamaged = over.undamaged;
      role_is = is;
      fits = fits;
      current = refl;
      lines_are = over.lines_are;
      versions = versions_are over;
      is_free = free_are over;
      counted = counts;
      left = gaps;
      gapped = gapped_are gapped over gaps;
    }
