-- A reopening clears the oldest gap: its stamps are erased, and then the record is written without it.
use Rattle.std.proofs.Common.{◌≡◌, ℕ, ◌<◌, ◌≤◌, Bool, true, false, cond, IsTrue, inl, inr, List, length, refl, sym, ap, subst, ◌∙◌, arith}
use Rattle.kv_types.specs.declared.place.EntryNo.{EntryNo}
use Rattle.pmem.specs.Device.{State}
use Rattle.pmem.specs.Crash.{image_of}
use Rattle.pmem.specs.Runs.{LeavesOnly, Staged, IsPartlyStored}
use Rattle.pmem.proofs.Leaving.{LeavesOnly-weaken}
use Rattle.model.specs.declared.layout.Layout.{Layout}
use Rattle.model.specs.declared.record.Gap.{Gap}
use Rattle.model.specs.declared.record.Record.{Record}
use Rattle.model.specs.Image.{Image, entry_word, entries_of_lines, counts, is_in_gap}
use Rattle.model.proofs.LayoutLemmas.{entries_fit}
use Rattle.wbl_record.specs.Current.{IsLawful}
use Rattle.wbl_record.specs.Record.{IsRecorded, IsSucceeded, IsEitherRecord}
use Rattle.wbl_engine.specs.AtRest.{Matters}
use Rattle.wbl_engine.specs.Erasing.{erase_pairs, erase_lines, stamped_below, oldest_gap}
use Rattle.wbl_engine.specs.Freeing.{record_after_clearing}
use Rattle.wbl_engine.specs.Reopening.{AreCleared, IsBesideRecords, IsReadable, StaysReadable}
use Rattle.wbl_engine.proofs.ClearingLemmas.{AreStamped, gap_erasing, gap_stamp, nothing_gone, without_alike}
use Rattle.wbl_engine.proofs.Erased.{AreBelow, CountAlike, IsErased, IsSound, nothing, undamaged_below, undamaged_sound}
use Rattle.wbl_engine.proofs.ErasedStamps.{erase_behind, erase_line, erased_below, erased_over, written_other}
use Rattle.wbl_engine.proofs.GapLemmas.{in_oldest, oldest}
use Rattle.wbl_engine.proofs.Readable.{IsLater, IsLater-same, either_stays, erased_readable, erased_stays, moments_then, readable_certain, recorded_readable}
use Rattle.wbl_engine.proofs.Storing.{AgreesOn, IsBehind, beside_next, partly_over, partly_recorded, staged_only, staged_recorded, written_over}
use Rattle.wbl_engine.proofs.VersionLemmas.{same_entry}

-- ---- the stamps are erased

pub are_stamped : {r : Record} {d : State} {gap : Gap} {begins ends listed_begins listed_ends : List EntryNo} → IsReadable r d → 0 < length r.gaps.items
    → gap ≡ oldest_gap r → listed_begins ≡ stamped_below gap (image_of d.words) 0 (entries_of_lines r.layout d.lines)
    → listed_ends ≡ stamped_below gap (image_of d.words) 1 (entries_of_lines r.layout d.lines) → begins ≡ listed_begins → ends ≡ listed_ends
    → AreStamped r d begins ends
are_stamped {r} {d} readable some is begins_are ends_are is_begins is_ends =
    record {
      lawful = readable.undamaged.current.lawful;
      some = some;
      begins_are = is_begins ∙ begins_are ∙ ap (λ (g : Gap). stamped_below g (image_of d.words) 0 (entries_of_lines r.layout d.lines)) is;
      ends_are = is_ends ∙ ends_are ∙ ap (λ (g : Gap). stamped_below g (image_of d.words) 1 (entries_of_lines r.layout d.lines)) is;
    }

-- word 1 is neither in the directory nor in the extents
superblock_kept : (layout : Layout) (lines : ℕ) → IsBehind layout lines 1 → ⊥
superblock_kept layout lines (inl directory) = omega (arith, directory.0)
superblock_kept layout lines (inr extents) = omega (arith, extents)

module _ {r : Record} {d b : State} {begins ends : List EntryNo} (readable : IsReadable r d) (are : AreStamped r d begins ends) where
  pub gap_moments : LeavesOnly d b (IsPartlyStored (erase_pairs begins ends) d.words) → LeavesOnly d b (StaysReadable d.lines r (image_of d.words))
  gap_moments moments =
      LeavesOnly-weaken (StaysReadable d.lines r (image_of d.words))
      (λ image partly.
      let over = partly_over (Matters r d.lines (image_of d.words)) d image (erase_pairs begins ends) (readable_certain readable) partly in
      let sound = undamaged_sound readable.undamaged in
      erased_stays readable.undamaged (erased_over sound (gap_erasing are) nothing image over (nothing_gone are image)) (IsLater-same r)
      (erased_below sound (gap_erasing are) image over (undamaged_below readable.undamaged))
      (record {
        version_is = (readable.certain 1 (inl (omega arith))).only (image 1)
            (elim (partly 1) [ inl may ↦ may | inr stored ↦ absurd (superblock_kept r.layout d.lines (erase_behind (gap_erasing are) 1 (image 1) stored)) ])
            ∙ readable.undamaged.superblock.version;
        has_record = partly_recorded d image (erase_pairs begins ends) readable.many (erase_behind (gap_erasing are)) readable.recorded partly;
        lawful = readable.undamaged.current.lawful;
      }))
      moments

  pub gap_readable : Staged d b (erase_pairs begins ends) (erase_lines begins ends) → IsReadable r b
  gap_readable staged =
      let over =
      written_over (Matters r d.lines (image_of d.words)) (image_of d.words) (image_of b.words) (erase_pairs begins ends) (λ word matters. staged.newest word) in
      let sound = undamaged_sound readable.undamaged in
      erased_readable readable (erased_over sound (gap_erasing are) nothing (image_of b.words) over (nothing_gone are (image_of b.words))) (omega arith) refl
      (erased_below sound (gap_erasing are) (image_of b.words) over (undamaged_below readable.undamaged)) readable.undamaged.current.lawful
      staged.stays.lines (staged_recorded readable.many (erase_behind (gap_erasing are)) staged readable.recorded)
      (λ word beside. staged_only (erase_line begins ends) staged word (λ out. readable.certain word beside))

  pub gap_cleared : Staged d b (erase_pairs begins ends) (erase_lines begins ends)
      → AreCleared r.layout d.lines (λ stamp. is_in_gap stamp (oldest_gap r)) (image_of d.words) (image_of b.words)
  gap_cleared staged =
      let base : Image = image_of d.words in
      record {
        superblock = λ word low. staged.newest word ∙ written_other begins ends base word (λ i k below listed is. omega (arith, low, is));
        stamps = λ i k within low. staged.newest (entry_word i k) ∙ gap_stamp are i k within low;
        words = λ i k within low high.
            staged.newest (entry_word i k) ∙ written_other begins ends base (entry_word i k) (λ j m below listed is. omega (arith, low, high, below, is));
        extents = λ word high.
            staged.newest word
            ∙ written_other begins ends base word (λ i k below listed is.
            omega (arith, high, below, is, (gap_erasing are).within i k below listed, entries_fit r.layout d.lines));
      }

-- ---- what is read after stamps were cleared

module _ {layout : Layout} {lines : ℕ} {base image : Image} (test : ℕ → Bool) (cleared : AreCleared layout lines test base image) where
  pub cleared_erased : {r : Record} → r.layout ≡ layout → IsSound r lines base → ((stamp : ℕ) → IsTrue (test stamp) → counts r stamp ≡ false)
      → IsErased r r lines nothing base image
  cleared_erased {r} is sound uncounted =
      record {
        layout = refl;
        before = cleared.superblock;
        begun = λ i within. alike i 0 within (omega arith);
        ended = λ i within counted. alike i 1 within (omega arith);
        entry = λ i within counted.
            let entry = sound.entries i within counted in
            same_entry entry (λ k. cleared.words i k (there i within)) (λ word at. cleared.extents word (omega (arith, at.low, entry.above)));
      }
    where
      there : (i : ℕ) → i < entries_of_lines r.layout lines → i < entries_of_lines layout lines
      there i within = subst (λ (l : Layout). i < entries_of_lines l lines) is within

      same : (b : Bool) (stamp : ℕ) → (b ≡ true → counts r stamp ≡ false) → counts r (cond b 0 stamp) ≡ counts r stamp
      same true stamp none = sym (none refl)
      same false stamp none = refl

      alike : (i k : ℕ) → i < entries_of_lines r.layout lines → k < 2 → counts r (image (entry_word i k)) ≡ counts r (base (entry_word i k))
      alike i k within low =
          ap (counts r) (cleared.stamps i k (there i within) low) ∙ same (test (base (entry_word i k))) (base (entry_word i k))
          (uncounted (base (entry_word i k)))

  pub cleared_below : {top : ℕ} → AreBelow layout lines base top → AreBelow layout lines image top
  cleared_below below i k within low =
      let is = at_most (test (base (entry_word i k))) (base (entry_word i k)) in
      let was = below i k within low in
      omega (arith, cleared.stamps i k within low, is, was)
    where
      at_most : (b : Bool) (stamp : ℕ) → cond b 0 stamp ≤ stamp
      at_most true stamp = omega arith
      at_most false stamp = omega arith

  -- what is written beside the records leaves them cleared
  pub cleared_beside : {c : Image} → AgreesOn (IsBesideRecords layout lines) image c → AreCleared layout lines test base c
  cleared_beside same =
      record {
        superblock = λ word low. same word (inl low) ∙ cleared.superblock word low;
        stamps = λ i k within low. same (entry_word i k) (inr (inl (omega arith, omega (arith, within, low)))) ∙ cleared.stamps i k within low;
        words = λ i k within low high. same (entry_word i k) (inr (inl (omega arith, omega (arith, within, high)))) ∙ cleared.words i k within low high;
        extents = λ word low. same word (inr (inr low)) ∙ cleared.extents word low;
      }

-- ---- the record without the gap

-- the stamps of the oldest gap were erased, the image is readable as before, and the next record lacks the gap
pub record IsWithoutGap (r next : Record) (d b : State) : Type 0 where
  pub is : next ≡ record_after_clearing r
  pub lawful : IsLawful (record_after_clearing r)
  pub before : IsReadable r d
  pub some : 0 < length r.gaps.items
  pub readable : IsReadable r b
  pub cleared : AreCleared r.layout d.lines (λ stamp. is_in_gap stamp (oldest_gap r)) (image_of d.words) (image_of b.words)
  pub lines_are : b.lines ≡ d.lines

pub without_gap : {r next : Record} {d b : State} → next ≡ record_after_clearing r → IsLawful (record_after_clearing r) → IsReadable r d
    → 0 < length r.gaps.items → IsReadable r b
    → AreCleared r.layout d.lines (λ stamp. is_in_gap stamp (oldest_gap r)) (image_of d.words) (image_of b.words) → b.lines ≡ d.lines → IsWithoutGap r next d b
without_gap is lawful before some readable cleared same =
    record { is = is; lawful = lawful; before = before; some = some; readable = readable; cleared = cleared; lines_are = same }

pub cleared_later : (r : Record) → IsLater r (record_after_clearing r)
cleared_later r = record { layout = refl; position = refl; epoch = refl; role = refl; floor = refl; limit = omega arith }

module _ {r next : Record} {d b : State} (without : IsWithoutGap r next d b) where
  alike : CountAlike b.lines (image_of b.words) r (record_after_clearing r)
  alike =
      subst (λ (lines : ℕ). CountAlike lines (image_of b.words) r (record_after_clearing r)) (sym without.lines_are)
      (without_alike r d.lines (image_of d.words) (image_of b.words) without.before.undamaged.current.lawful without.some without.cleared.stamps)

  pub without_succeeded : IsSucceeded b r next
  without_succeeded = subst (λ (q : Record). IsSucceeded b r q) (sym without.is) (record { layout = refl; number = refl; durable = without.readable.recorded })

  pub without_readable : {c : State} → IsRecorded b c next → IsReadable (record_after_clearing r) c
  without_readable {c} recorded =
      recorded_readable without.readable (cleared_later r) without.lawful alike (subst (λ (q : Record). IsRecorded b c q) without.is recorded)

  pub without_cleared : {c : State} → IsRecorded b c next
      → AreCleared r.layout d.lines (λ stamp. is_in_gap stamp (oldest_gap r)) (image_of d.words) (image_of c.words)
  without_cleared recorded =
      cleared_beside (λ stamp. is_in_gap stamp (oldest_gap r)) without.cleared
      (λ word beside.
      recorded.newest word
      (beside_next next (ap (λ (q : Record). q.layout) without.is) without.lines_are without.before.many word beside))

  pub without_moments : {c : State} → LeavesOnly d b (StaysReadable d.lines r (image_of d.words)) → LeavesOnly b c (IsEitherRecord b r next)
      → LeavesOnly d c (StaysReadable d.lines r (image_of d.words))
  without_moments {c} first second =
      let first_gap = oldest r without.before.undamaged.current.lawful without.some in
      moments_then without.before.undamaged
      (cleared_erased (λ stamp. is_in_gap stamp (oldest_gap r)) without.cleared refl (undamaged_sound without.before.undamaged)
      (λ stamp is. in_oldest r (oldest_gap r) stamp first_gap is))
      (IsLater-same r) without.lines_are first
      (either_stays without.readable (cleared_later r) without.lawful alike (subst (λ (q : Record). LeavesOnly b c (IsEitherRecord b r q)) without.is second))
