-- The oldest gap is cleared, at every crash.
use Rattle.std.proofs.Common.{◌≡◌, ℕ, zero, suc, ◌+◌, ◌<◌, ◌≤◌, Bool, false, cond, ◌&&◌, ◌⊎◌, IsTrue, inl, inr, List, map, None, Some, length, refl, sym, ap, subst, ◌∙◌, arith}
use Rattle.std.specs.List.{IsDistinct}
use Rattle.std.specs.Prelude.{nat_eq, nat_lt}
use Rattle.std.proofs.lemmas.Bool.{and_parts, and_right, both_ways, cases_Bool, cond-true, cond-false, lt-ltb, ltb-true, or_left}
use Rattle.kv_types.specs.declared.place.EntryNo.{EntryNo}
use Rattle.pmem.specs.Device.{State, Only}
use Rattle.pmem.specs.Crash.{IsImage, image_of}
use Rattle.pmem.specs.Runs.{LeavesOnly, Staged, IsPartlyStored, written}
use Rattle.pmem.proofs.Leaving.{LeavesOnly-then, LeavesOnly-weaken, none_leaves}
use Rattle.model.specs.declared.image.TheConstants.{MIN_LINES}
use Rattle.model.specs.declared.record.Record.{Record}
use Rattle.model.specs.Image.{Image, counts, entry_word, entries_of_lines, is_in_gap, version_in}
use Rattle.model.proofs.RecordLemmas.{HasRecord-lines}
use Rattle.model.proofs.LayoutLemmas.{entries_fit}
use Rattle.wbl_record.specs.Current.{IsLawful}
use Rattle.wbl_record.specs.Record.{IsRecorded, IsRecordWord, IsSucceeded, IsEitherRecord}
use Rattle.wbl_engine.specs.AtRest.{IsQuiet, IsAtRest, Matters, contents_of}
use Rattle.wbl_engine.specs.Contents.{Keeps}
use Rattle.wbl_engine.specs.Erasing.{erase_pairs, erase_lines, oldest_gap, stamped_below}
use Rattle.wbl_engine.specs.Freeing.{Clears, KeepsVersions, cleared_contents, is_listed, record_after_clearing}
use Rattle.wbl_engine.specs.Stage.{AreWithin}
use Rattle.wbl_engine.proofs.Erased.{quiet_below, quiet_sound, AreBelow, CountAlike, IsErased, directory_matters, erased_keeps, erased_rest, erased_under, erased_versions, matters_beside, nothing, versions-beyond, versions-within, whole_below}
use Rattle.wbl_engine.proofs.ErasedStamps.{AreGone, IsErasing, erase_behind, erase_line, erased_below, erased_over, is_erased_at, made_free, within_from, written_stamp}
use Rattle.wbl_engine.proofs.GapLemmas.{IsOldest, in_oldest, inside_not_free, not_in_oldest, oldest, zero_outside}
use Rattle.wbl_engine.proofs.ListedEntries.{listed_stamped, stamped_once}
use Rattle.wbl_engine.proofs.Storing.{AgreesOn, beside_at, beside_next, partly_over, partly_recorded, recorded_only, staged_only, staged_recorded, written_over}

-- ---- the stamps of the gap

-- the entries with a begin, or an end, in the oldest gap
pub record AreStamped (r : Record) (d : State) (begins ends : List EntryNo) : Type 0 where
  pub lawful : IsLawful r
  pub some : 0 < length r.gaps.items
  pub begins_are : begins ≡ stamped_below (oldest_gap r) (image_of d.words) 0 (entries_of_lines r.layout d.lines)
  pub ends_are : ends ≡ stamped_below (oldest_gap r) (image_of d.words) 1 (entries_of_lines r.layout d.lines)

module _ {r : Record} {d : State} {begins ends : List EntryNo} (are : AreStamped r d begins ends) where
  first_gap : IsOldest r (oldest_gap r)
  first_gap = oldest r are.lawful are.some

  stamped_is : (i k : ℕ) → k < 2
      → is_erased_at begins ends i k ≡ (nat_lt i (entries_of_lines r.layout d.lines) && is_in_gap (image_of d.words (entry_word i k)) (oldest_gap r))
  stamped_is i zero low = ap (is_listed i) are.begins_are ∙ listed_stamped (oldest_gap r) (image_of d.words) 0 (entries_of_lines r.layout d.lines) i
  stamped_is i (suc zero) low = ap (is_listed i) are.ends_are ∙ listed_stamped (oldest_gap r) (image_of d.words) 1 (entries_of_lines r.layout d.lines) i
  stamped_is i (suc (suc k)) low = absurd (omega (arith, low))

  stamped_where : (i k : ℕ) → k < 2 → IsTrue (is_erased_at begins ends i k)
      → (i < entries_of_lines r.layout d.lines) × IsTrue (is_in_gap (image_of d.words (entry_word i k)) (oldest_gap r))
  stamped_where i k low listed =
      let parts = and_parts (nat_lt i (entries_of_lines r.layout d.lines)) (is_in_gap (image_of d.words (entry_word i k)) (oldest_gap r))
      (sym (stamped_is i k low) ∙ listed) in
      (ltb-true i (entries_of_lines r.layout d.lines) parts.0, parts.1)

  pub gap_erasing : IsErasing r d.lines (image_of d.words) begins ends
  gap_erasing =
      record {
        within = λ i k low listed. (stamped_where i k low listed).0;
        uncounted = λ i listed.
            in_oldest r (oldest_gap r) (image_of d.words (entry_word i 1)) first_gap (stamped_where i 1 (omega arith) listed).1;
      }

  pub nothing_gone : (image : Image) → AreGone r d.lines (image_of d.words) begins nothing image
  nothing_gone image =
      record {
        zero_is = λ i within is. absurd (both_ways false refl is);
        erased = λ i listed zeroed left.
            in_oldest r (oldest_gap r) (image_of d.words (entry_word i 0)) first_gap (stamped_where i 0 (omega arith) listed).1;
      }

  pub stamped_lines : MIN_LINES ≤ d.lines → AreWithin d.lines begins × AreWithin d.lines ends
  stamped_lines many = (
    within_from d begins (λ i listed. omega (arith, (stamped_where i 0 (omega arith) listed).0, many, entries_fit r.layout d.lines)),
    within_from d ends (λ i listed. omega (arith, (stamped_where i 1 (omega arith) listed).0, many, entries_fit r.layout d.lines)),
  )

  -- each stamp of the gap is 0, once it is erased
  pub gap_stamp : (i k : ℕ) → i < entries_of_lines r.layout d.lines → k < 2
      → written (erase_pairs begins ends) (image_of d.words) (entry_word i k)
      ≡ cond (is_in_gap (image_of d.words (entry_word i k)) (oldest_gap r)) 0 (image_of d.words (entry_word i k))
  gap_stamp i k within low =
      written_stamp begins ends (image_of d.words) i k low
      ∙ ap (λ (b : Bool). cond b 0 (image_of d.words (entry_word i k)))
      (stamped_is i k low
      ∙ ap (λ (b : Bool). b && is_in_gap (image_of d.words (entry_word i k)) (oldest_gap r)) (lt-ltb i (entries_of_lines r.layout d.lines) within))

-- where no stamp of the gap is left, the others count alike without it
pub without_alike : (r : Record) (lines : ℕ) (base image : Image) → IsLawful r → 0 < length r.gaps.items
    → ((i k : ℕ) → i < entries_of_lines r.layout lines → k < 2
    → image (entry_word i k) ≡ cond (is_in_gap (base (entry_word i k)) (oldest_gap r)) 0 (base (entry_word i k)))
    → CountAlike lines image r (record_after_clearing r)
without_alike r lines base image lawful some erased i k within low =
    not_in_oldest r (oldest_gap r) (image (entry_word i k)) first
    (ap (λ (x : ℕ). is_in_gap x (oldest_gap r)) (erased i k within low) ∙ outside (base (entry_word i k)))
  where
    first : IsOldest r (oldest_gap r)
    first = oldest r lawful some

    outside : (stamp : ℕ) → is_in_gap (cond (is_in_gap stamp (oldest_gap r)) 0 stamp) (oldest_gap r) ≡ false
    outside stamp =
        elim (cases_Bool (is_in_gap stamp (oldest_gap r))) [
          | inl is ↦ ap (λ (x : ℕ). is_in_gap x (oldest_gap r)) (cond-true (is_in_gap stamp (oldest_gap r)) 0 stamp is) ∙ zero_outside r (oldest_gap r) first
          | inr out ↦ ap (λ (x : ℕ). is_in_gap x (oldest_gap r)) (cond-false (is_in_gap stamp (oldest_gap r)) 0 stamp out) ∙ out
        ]

-- ---- an engine at rest whose oldest gap is being cleared

pub record IsClearing (r : Record) (d : State) (begins ends : List EntryNo) : Type 0 where
  pub rest : IsQuiet r d
  pub stamped : AreStamped r d begins ends

pub clearing : {r : Record} {d : State} {begins ends listed_begins listed_ends : List EntryNo} → IsQuiet r d → 0 < length r.gaps.items
    → begins ≡ listed_begins → ends ≡ listed_ends
    → listed_begins ≡ stamped_below (oldest_gap r) (image_of d.words) 0 (entries_of_lines r.layout d.lines)
    → listed_ends ≡ stamped_below (oldest_gap r) (image_of d.words) 1 (entries_of_lines r.layout d.lines) → IsClearing r d begins ends
clearing rest some is_begins is_ends begins_are ends_are =
    record {
      rest = rest;
      stamped = record { lawful = rest.lawful; some = some; begins_are = is_begins ∙ begins_are; ends_are = is_ends ∙ ends_are };
    }

abbrev pub IsClearedOrNot : Record → State → Image → Type 0
IsClearedOrNot r d image = Keeps (contents_of r d) image ⊎ Keeps (cleared_contents (contents_of r d)) image

-- wherever the map depends, the image has what was stored
abbrev pub AreErased : Record → State → List EntryNo → List EntryNo → Image → Type 0
AreErased r d begins ends image = AgreesOn (Matters r d.lines (image_of d.words)) (written (erase_pairs begins ends) (image_of d.words)) image

module _ {r : Record} {d : State} {begins ends : List EntryNo} (begun : IsClearing r d begins ends) where
  -- Nothing is lost, under the old record
  cleared_old : (image : Image) → AreErased r d begins ends image → IsErased r r d.lines nothing (image_of d.words) image
  cleared_old image made =
      erased_over (quiet_sound begun.rest) (gap_erasing begun.stamped) nothing image
      (written_over (Matters r d.lines (image_of d.words)) (image_of d.words) image (erase_pairs begins ends) made) (nothing_gone begun.stamped image)

  -- and under the one without the gap.
  cleared_new : (image : Image) → AreErased r d begins ends image → IsErased r (record_after_clearing r) d.lines nothing (image_of d.words) image
  cleared_new image made =
      erased_under (record_after_clearing r) refl (cleared_old image made)
      (without_alike r d.lines (image_of d.words) image begun.rest.lawful begun.stamped.some
      (λ i k within low.
      made (entry_word i k) (directory_matters r d.lines (image_of d.words) i k within (omega (arith, low))) ∙ gap_stamp begun.stamped i k within low))

  cleared_below : {top : ℕ} (image : Image) → AreErased r d begins ends image → AreBelow r.layout d.lines (image_of d.words) top
      → AreBelow r.layout d.lines image top
  cleared_below image made below =
      erased_below (quiet_sound begun.rest) (gap_erasing begun.stamped) image
      (written_over (Matters r d.lines (image_of d.words)) (image_of d.words) image (erase_pairs begins ends) made) below

  -- ---- the contents afterwards

  -- an entry that was begun in the gap was not free, and held no version
  begun_in_gap : (i : ℕ) → IsTrue (is_listed i begins) → ((contents_of r d).is_free i ≡ false) × ((contents_of r d).versions i ≡ None)
  begun_in_gap i listed =
      let begin : ℕ = image_of d.words (entry_word i 0) in
      let at = stamped_where begun.stamped i 0 (omega arith) listed in
      let first = first_gap begun.stamped in (
        and_right (nat_lt i (entries_of_lines r.layout d.lines)) _ (inside_not_free r (oldest_gap r) begin first at.1),
        versions-within r d i at.0 ∙ cond-false (counts r begin) (Some (version_in r (image_of d.words) i)) None (in_oldest r (oldest_gap r) begin first at.1),
      )

  pub clears : (c : State) → c.lines ≡ d.lines → AreErased r d begins ends (image_of c.words)
      → Clears (contents_of r d) begins (contents_of (record_after_clearing r) c)
  clears c lines made =
      record {
        current = refl;
        lines_are = lines;
        versions = erased_versions c (contents_of r d).versions (quiet_sound begun.rest) (cleared_new (image_of c.words) made) lines
            (λ i within. sym (versions-within r d i within)) (versions-beyond r d);
        is_free = made_free d c (gap_erasing begun.stamped) made lines;
        within = λ i listed. (stamped_where begun.stamped i 0 (omega arith) listed).0;
        were_not_free = λ i listed. (begun_in_gap i listed).0;
        held_none = λ i listed. (begun_in_gap i listed).1;
        once = subst (λ (l : List EntryNo). IsDistinct nat_eq (map (λ (entry : EntryNo). entry.0) l)) (sym begun.stamped.begins_are)
            (stamped_once (oldest_gap r) (image_of d.words) 0 (entries_of_lines r.layout d.lines));
      }

  pub keeps_versions : (c : State) → c.lines ≡ d.lines → AreErased r d begins ends (image_of c.words) → KeepsVersions (contents_of r d) (contents_of r c)
  keeps_versions c lines made =
      record {
        current = refl;
        lines_are = lines;
        versions = erased_versions c (contents_of r d).versions (quiet_sound begun.rest) (cleared_old (image_of c.words) made) lines
            (λ i within. sym (versions-within r d i within)) (versions-beyond r d);
        is_free = λ i free.
            made_free d c (gap_erasing begun.stamped) made lines i ∙ or_left ((contents_of r d).is_free i) (is_listed i begins) free;
      }

  -- ---- at each crash

  pub erase_moments : {b : State} → LeavesOnly d b (IsPartlyStored (erase_pairs begins ends) d.words) → LeavesOnly d b (IsClearedOrNot r d)
  erase_moments moments =
      LeavesOnly-weaken (IsClearedOrNot r d)
      (λ image partly.
      let over = partly_over (Matters r d.lines (image_of d.words)) d image (erase_pairs begins ends) begun.rest.certain partly in
      let sound = quiet_sound begun.rest in
      inl (erased_keeps (contents_of r d) sound (erased_over sound (gap_erasing begun.stamped) nothing image over (nothing_gone begun.stamped image))
      (omega arith) (erased_below sound (gap_erasing begun.stamped) image over (quiet_below begun.rest)) (λ i within. sym (versions-within r d i within))
      (partly_recorded d image (erase_pairs begins ends) begun.rest.many (erase_behind (gap_erasing begun.stamped)) begun.rest.recorded partly)))
      moments

-- what is written beside the words on which the map depends leaves it
pub recorded_erased : {r : Record} {d b : State} {begins ends : List EntryNo} (c : State) (next : Record) → next.layout ≡ r.layout → IsClearing r d begins ends
    → Staged d b (erase_pairs begins ends) (erase_lines begins ends)
    → ((word : ℕ) → (IsRecordWord next.layout b.lines next.number word → ⊥) → image_of c.words word ≡ image_of b.words word)
    → AreErased r d begins ends (image_of c.words)
recorded_erased {r} {d} c next is begun staged newest word matters =
    newest word (beside_next next is staged.stays.lines begun.rest.many word (matters_beside (quiet_sound begun.rest) word matters))
    ∙ staged.newest word

module _ {r : Record} {d b : State} {begins ends : List EntryNo} (begun : IsClearing r d begins ends) (lawful : IsLawful (record_after_clearing r))
    (staged : Staged d b (erase_pairs begins ends) (erase_lines begins ends)) where
  matters_out : (word : ℕ) → Matters r d.lines (image_of d.words) word → IsRecordWord r.layout b.lines (r.number + 1) word → ⊥
  matters_out word matters =
      beside_at r.layout (r.number + 1) word staged.stays.lines begun.rest.many (matters_beside (quiet_sound begun.rest) word matters)

  staged_certain : (word : ℕ) → Matters r d.lines (image_of d.words) word → Only (b.words word) (image_of b.words word)
  staged_certain word matters = staged_only (erase_line begins ends) staged word (λ out. begun.rest.certain word matters)

  pub cleared_rest : {c : State} → IsAtRest r d → IsRecorded b c (record_after_clearing r) → IsAtRest (record_after_clearing r) c
  cleared_rest {c} rest recorded =
      let made = recorded_erased c (record_after_clearing r) refl begun staged recorded.newest in
      erased_rest begun.rest.many begun.rest.few (quiet_sound begun.rest) (cleared_new begun (image_of c.words) made) lawful (omega arith)
      (cleared_below begun (image_of c.words) made (whole_below rest.whole)) (recorded.stays.lines ∙ staged.stays.lines) recorded.durable
      (λ word matters. recorded_only recorded word (matters_out word matters) (staged_certain word matters))

  clear_either : (image : Image) → IsEitherRecord b r (record_after_clearing r) image → IsClearedOrNot r d image
  clear_either image recorded =
      let made : AreErased r d begins ends image =
      λ word matters. (staged_certain word matters).only (image word) (recorded.elsewhere word (matters_out word matters)) ∙ staged.newest word in
      let sound = quiet_sound begun.rest in
      let below = cleared_below begun image made (quiet_below begun.rest) in
      elim recorded.either [
        | inl old ↦
            inl (erased_keeps (contents_of r d) sound (cleared_old begun image made) (omega arith) below (λ i within. sym (versions-within r d i within))
            (HasRecord-lines staged.stays.lines old))
        | inr new ↦
            inr (erased_keeps (cleared_contents (contents_of r d)) sound (cleared_new begun image made) (omega arith) below
            (λ i within. sym (versions-within r d i within)) (HasRecord-lines staged.stays.lines new))
      ]

  pub clear_moments : {c : State} → ((current : Record) → IsSucceeded b current (record_after_clearing r)
      → LeavesOnly b c (IsEitherRecord b current (record_after_clearing r))) → LeavesOnly d c (IsClearedOrNot r d)
  clear_moments moments =
      LeavesOnly-then (erase_moments begun staged.moments)
      (LeavesOnly-weaken (IsClearedOrNot r d) clear_either
      (moments r (record {
        layout = refl;
        number = refl;
        durable = staged_recorded begun.rest.many (erase_behind (gap_erasing begun.stamped)) staged begun.rest.recorded;
      })))

-- where nothing was stored
pub clear_none : {r : Record} {d : State} → ((image : Image) → IsImage d.words image → Keeps (contents_of r d) image)
    → LeavesOnly d d (IsClearedOrNot r d)
clear_none {r} {d} keeps = none_leaves d (IsClearedOrNot r d) (λ image is. inl (keeps image is))
