-- The oldest gap is cleared while parts of a copy are staged: no stamp of the copy lies in it.
use Rattle.std.proofs.Common.{◌≡◌, ℕ, ◌+◌, ◌<◌, ◌≤◌, true, cond, List, Some, ◌⊎◌, inl, inr, refl, sym, ap, subst, ◌∙◌, arith}
use Rattle.std.specs.Prelude.{nat_le}
use Rattle.std.proofs.lemmas.Bool.{and_parts, cases_Bool, cases_lt, cond-false, cond-true, leb-true}
use Rattle.kv_types.specs.declared.place.EntryNo.{EntryNo}
use Rattle.pmem.specs.Device.{State}
use Rattle.pmem.specs.Crash.{image_of}
use Rattle.pmem.specs.Runs.{Staged, written}
use Rattle.model.specs.declared.record.Record.{Record}
use Rattle.model.specs.Image.{Version, counts, entries_of_lines, entry_word, is_in_gap}
use Rattle.model.proofs.LayoutLemmas.{entries_fit}
use Rattle.wbl_record.specs.Current.{IsLawful}
use Rattle.wbl_record.specs.Record.{IsRecorded, IsRecordWord}
use Rattle.wbl_engine.specs.AtRest.{Matters}
use Rattle.wbl_engine.specs.Copying.{AreHalf, IsHalf, staged_of, with_copy}
use Rattle.wbl_engine.specs.Erasing.{erase_lines, erase_pairs, oldest_gap}
use Rattle.wbl_engine.specs.Freeing.{record_after_clearing}
use Rattle.wbl_engine.specs.Reopening.{IsBesideRecords}
use Rattle.wbl_engine.proofs.ClearingLemmas.{AreStamped, gap_erasing, gap_stamp, without_alike}
use Rattle.wbl_engine.proofs.Erased.{HasSuperblock-same}
use Rattle.wbl_engine.proofs.ErasedStamps.{erase_line, written_other}
use Rattle.wbl_engine.proofs.GapLemmas.{oldest}
use Rattle.wbl_engine.proofs.HalfLemmas.{counted_staged, staged_at, staged_counted, unstaged_at, unstaged_beyond}
use Rattle.wbl_engine.proofs.Storing.{beside_at, beside_next, recorded_only, staged_only}
use Rattle.wbl_engine.proofs.VersionLemmas.{SameEntry, entry-same, same_entry, version_in_entry, version_in_entry-same}

module _ {r : Record} {d b c : State} {begins ends : List EntryNo} (half : IsHalf r d) (are : AreStamped r d begins ends) (lawful : IsLawful (record_after_clearing r))
    (staged : Staged d b (erase_pairs begins ends) (erase_lines begins ends)) (recorded : IsRecorded b c (record_after_clearing r)) where
  lines_are : c.lines ≡ d.lines
  lines_are = recorded.stays.lines ∙ staged.stays.lines

  -- beside the records the image is what was erased
  now : (word : ℕ) → IsBesideRecords r.layout d.lines word → image_of c.words word ≡ written (erase_pairs begins ends) (image_of d.words) word
  now word beside =
      recorded.newest word (beside_next (record_after_clearing r) refl staged.stays.lines half.many word beside) ∙ staged.newest word

  in_directory : (i k : ℕ) → i < entries_of_lines r.layout d.lines → k < 8 → IsBesideRecords r.layout d.lines (entry_word i k)
  in_directory i k within below = inr (inl (omega arith, omega (arith, within, below)))

  -- a stamp is what it was, or 0 where it lay in the gap
  stamp_now : (i k : ℕ) → i < entries_of_lines r.layout d.lines → k < 2
      → image_of c.words (entry_word i k) ≡ cond (is_in_gap (image_of d.words (entry_word i k)) (oldest_gap r)) 0 (image_of d.words (entry_word i k))
  stamp_now i k within low = now (entry_word i k) (in_directory i k within (omega (arith, low))) ∙ gap_stamp are i k within low

  stamp_cases : (i k : ℕ) → i < entries_of_lines r.layout d.lines → k < 2
      → (image_of c.words (entry_word i k) ≡ 0) ⊎ (image_of c.words (entry_word i k) ≡ image_of d.words (entry_word i k))
  stamp_cases i k within low =
      let was : ℕ = image_of d.words (entry_word i k) in
      elim (cases_Bool (is_in_gap was (oldest_gap r))) [
        | inl inside ↦ inl (stamp_now i k within low ∙ cond-true (is_in_gap was (oldest_gap r)) 0 was inside)
        | inr out ↦ inr (stamp_now i k within low ∙ cond-false (is_in_gap was (oldest_gap r)) 0 was out)
      ]

  -- another word is what it was
  word_now : (i k : ℕ) → i < entries_of_lines r.layout d.lines → 2 ≤ k → k < 8 → image_of c.words (entry_word i k) ≡ image_of d.words (entry_word i k)
  word_now i k within low below =
      now (entry_word i k) (in_directory i k within below)
      ∙ written_other begins ends (image_of d.words) (entry_word i k) (λ j m small listed is. omega (arith, is, small, low, below))

  -- the begin of what is staged stays
  begin_stays : (i : ℕ) → i < entries_of_lines r.layout d.lines → r.cp < image_of c.words (entry_word i 0)
      → image_of c.words (entry_word i 0) ≡ image_of d.words (entry_word i 0)
  begin_stays i within above =
      elim (stamp_cases i 0 within (omega arith)) [ inl zeroed ↦ absurd (omega (arith, zeroed, above)) | inr same ↦ same ]

  -- and so does all else of it
  entry_stays : (i : ℕ) → i < entries_of_lines r.layout d.lines → r.cp < image_of d.words (entry_word i 0) → SameEntry (image_of d.words) (image_of c.words) i
  entry_stays i within above =
      let entry = half.half.entries i within above in
      same_entry entry (λ k low below. word_now i k within low below)
      (λ word at.
      now word (inr (inr (omega (arith, at.low, entry.above))))
      ∙ written_other begins ends (image_of d.words) word
      (λ j k small listed is.
      omega (arith, is, small, at.low, entry.above, (gap_erasing are).within j k small listed, entries_fit r.layout d.lines)))

  -- the stamp of the copy is above the gap
  copy_stays : (i : ℕ) → i < entries_of_lines r.layout d.lines → r.cp < image_of d.words (entry_word i 0)
      → image_of c.words (entry_word i 0) ≡ image_of d.words (entry_word i 0)
  copy_stays i within above =
      let was : ℕ = image_of d.words (entry_word i 0) in
      elim (cases_Bool (is_in_gap was (oldest_gap r))) [
        | inl inside ↦
            let parts = and_parts (nat_le (oldest_gap r).first was) (nat_le was (oldest_gap r).last) inside in
            absurd (omega (arith, leb-true was (oldest_gap r).last parts.1, (oldest r half.lawful are.some).high, above))
        | inr out ↦ stamp_now i 0 within (omega arith) ∙ cond-false (is_in_gap was (oldest_gap r)) 0 was out
      ]

  -- no end of the copy is one
  end_stays : (i : ℕ) → i < entries_of_lines r.layout d.lines → r.cp < image_of d.words (entry_word i 0) → image_of c.words (entry_word i 1) ≡ 0
  end_stays i within above =
      elim (stamp_cases i 1 within (omega arith)) [ inl zeroed ↦ zeroed | inr same ↦ same ∙ half.half.live i within above ]

  half_now : AreHalf (record_after_clearing r) d.lines (image_of c.words)
  half_now =
      record {
        superblock = HasSuperblock-same r.layout d.lines (image_of d.words) (image_of c.words)
            (λ word low.
            now word (inl low)
            ∙ written_other begins ends (image_of d.words) word (λ i k small listed is. omega (arith, is, low)))
            half.half.superblock;
        begins = λ i within.
            elim (stamp_cases i 0 within (omega arith)) [ inl zeroed ↦ omega (arith, zeroed) | inr same ↦ omega (arith, same, half.half.begins i within) ];
        ends = λ i within.
            elim (stamp_cases i 1 within (omega arith)) [ inl zeroed ↦ omega (arith, zeroed) | inr same ↦ omega (arith, same, half.half.ends i within) ];
        uncounted = λ i within.
            without_alike r d.lines (image_of d.words) (image_of c.words) half.lawful are.some stamp_now i 0 within (omega arith)
            ∙ elim (stamp_cases i 0 within (omega arith)) [
              | inl zeroed ↦ ap (counts r) zeroed
              | inr same ↦ ap (counts r) same ∙ half.half.uncounted i within
            ];
        entries = λ i within above.
            let was : r.cp < image_of d.words (entry_word i 0) = omega (arith, above, begin_stays i within above) in
            entry-same d.lines (image_of d.words) (image_of c.words) i (entry_stays i within was) (half.half.entries i within was);
        live = λ i within above. end_stays i within (omega (arith, above, begin_stays i within above));
      }

  -- words on which what is staged depends are those on which it depended
  mattered : (word : ℕ) → Matters (with_copy (record_after_clearing r)) d.lines (image_of c.words) word → Matters (with_copy r) d.lines (image_of d.words) word
  mattered word (inl before) = inl before
  mattered word (inr (inl directory)) = inr (inl directory)
  mattered word (inr (inr (i, within, counted, at))) =
      let above : r.cp < image_of c.words (entry_word i 0) = counted_staged half_now i within counted in
      let was : r.cp < image_of d.words (entry_word i 0) = omega (arith, above, begin_stays i within above) in
      let first = word_now i 3 within (omega arith) (omega arith) in
      let count = word_now i 4 within (omega arith) (omega arith) in
      inr (inr (
        i,
        within,
        staged_counted half.half half.lawful i within was,
        record { low = omega (arith, at.low, first); high = omega (arith, at.high, first, count) },
      ))

  matters_out : (word : ℕ) → Matters (with_copy r) d.lines (image_of d.words) word → IsRecordWord r.layout b.lines (r.number + 1) word → ⊥
  matters_out word matters = beside_at r.layout (r.number + 1) word staged.stays.lines half.many (beside word matters)
    where
      beside : (word : ℕ) → Matters (with_copy r) d.lines (image_of d.words) word → IsBesideRecords r.layout d.lines word
      beside word (inl before) = inl before
      beside word (inr (inl directory)) = inr (inl directory)
      beside word (inr (inr (i, within, counted, at))) =
          inr (inr (omega (arith, at.low, (half.half.entries i within (counted_staged half.half i within counted)).above)))

  -- The copy is as far as it was, under the record without the gap.
  pub half_cleared : IsHalf (record_after_clearing r) c
  half_cleared =
      record {
        many = omega (arith, lines_are, half.many);
        few = omega (arith, lines_are, half.few);
        lawful = lawful;
        newcomer = half.newcomer;
        half = subst (λ (n : ℕ). AreHalf (record_after_clearing r) n (image_of c.words)) (sym lines_are) half_now;
        recorded = recorded.durable;
        certain = λ word matters.
            let was = mattered word (subst (λ (n : ℕ). Matters (with_copy (record_after_clearing r)) n (image_of c.words) word) lines_are matters) in
            recorded_only recorded word (matters_out word was)
            (staged_only (erase_line begins ends) staged word (λ out. half.certain word was));
      }

  pub staged_cleared : (i : ℕ) → staged_of true (record_after_clearing r) c i ≡ staged_of true r d i
  staged_cleared i =
      elim (cases_lt i (entries_of_lines r.layout d.lines)) [
        | inl within ↦
            elim (cases_lt r.cp (image_of d.words (entry_word i 0))) [
              | inl above ↦
                  staged_at (record_after_clearing r) c i (omega (arith, within, ap (entries_of_lines r.layout) lines_are))
                  (omega (arith, above, copy_stays i within above))
                  ∙ ap (λ (v : Version). Some v)
                  (version_in_entry-same (image_of d.words) (image_of c.words) i (counts (record_after_clearing r) (image_of c.words (entry_word i 1)))
                  (entry_stays i within above)
                  ∙ ap (version_in_entry (image_of d.words) i)
                  (ap (counts (record_after_clearing r)) (end_stays i within above) ∙ sym (ap (counts r) (half.half.live i within above))))
                  ∙ sym (staged_at r d i within above)
              | inr low ↦
                  unstaged_at (record_after_clearing r) c i
                  (elim (stamp_cases i 0 within (omega arith)) [ inl zeroed ↦ omega (arith, zeroed) | inr same ↦ omega (arith, same, low) ])
                  ∙ sym (unstaged_at r d i low)
            ]
        | inr beyond ↦
            unstaged_beyond (record_after_clearing r) c i (omega (arith, beyond, ap (entries_of_lines r.layout) lines_are)) ∙ sym (unstaged_beyond r d i beyond)
      ]
