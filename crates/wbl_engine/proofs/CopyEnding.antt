-- One record makes all that is staged count: at each crash the newcomer is there without a copy, or the standby with all of it.
use Rattle.std.proofs.Common.{◌≡◌, ℕ, ◌+◌, ◌<◌, true, false, ◌&&◌, ◌||◌, ◌==◌, ◌⊎◌, inl, inr, Some, refl, sym, ap, subst, ◌∙◌, arith}
use Rattle.std.specs.Prelude.{nat_lt, is_none}
use Rattle.std.proofs.Math.Bool.{and-true, and_assoc}
use Rattle.std.proofs.lemmas.Bool.{and_right, cases_Bool, cases_lt, cond-false, cond-true, le-ltb, ne_eqb, or_from}
use Rattle.pmem.specs.Device.{State}
use Rattle.pmem.specs.Crash.{image_of}
use Rattle.pmem.specs.Runs.{LeavesOnly}
use Rattle.pmem.proofs.Leaving.{LeavesOnly-weaken}
use Rattle.model.specs.declared.image.TheConstants.{COUNTER_LIMIT}
use Rattle.model.specs.declared.record.Record.{Record}
use Rattle.model.specs.Image.{Image, Version, counts, entries_of_lines, entry_word, version_at, version_in}
use Rattle.wbl_record.specs.Current.{IsLawful}
use Rattle.wbl_record.specs.Record.{IsEitherRecord, IsRecordFault, IsRecordWord, IsRecorded, IsSucceeded}
use Rattle.wbl_engine.specs.AtRest.{IsAtRest, Matters, contents_of}
use Rattle.wbl_engine.specs.Contents.{Keeps, Same}
use Rattle.wbl_engine.specs.Copying.{IsCopied, IsHalf, after_copy, copied_record, staged_of, with_copy}
use Rattle.wbl_engine.proofs.Erased.{IsSound, agrees_below, agrees_erased, erased_free, erased_keeps, erased_rest, erased_versions, matters_beside}
use Rattle.wbl_engine.proofs.HalfLemmas.{agrees_keeps, counted_staged, half_below, same_uncounted, staged_at, staged_counted, unstaged_at, unstaged_beyond}
use Rattle.wbl_engine.proofs.Storing.{AgreesOn, beside_next, beside_record, recorded_only}
use Rattle.wbl_engine.proofs.SuccessorLemmas.{lawful_later, standby_other}

-- ---- the record

pub copied_is_lawful : (r : Record) (position : ℕ) → IsLawful r → (copied_record r position).cd < COUNTER_LIMIT → position < COUNTER_LIMIT → r.number + 1 < COUNTER_LIMIT
    → IsLawful (copied_record r position)
copied_is_lawful r position lawful room below number =
    lawful_later r (copied_record r position) lawful (record { number = number; position = below; room = room; epoch = lawful.epoch }) refl refl (omega arith)
    (omega arith) refl refl (λ is. absurd (standby_other is))

-- ---- the contents

abbrev pub IsNewcomerOrStandby : Record → State → ℕ → Image → Type 0
IsNewcomerOrStandby r d position image = Keeps (contents_of r d) image ⊎ Keeps (after_copy (contents_of r d) (staged_of true r d) position) image

module _ {r : Record} {d : State} (half : IsHalf r d) (position : ℕ) (asked : IsCopied (contents_of r d) (staged_of true r d) position) where
  -- under the record that ends the copy, the device breaks no rule
  copy_sound : IsSound (copied_record r position) d.lines (image_of d.words)
  copy_sound =
      record {
        superblock = half.half.superblock;
        entries = λ i within counted. half.half.entries i within (counted_staged half.half i within counted);
        positions = λ i within counted. asked.made i (version_in r (image_of d.words) i) (staged_at r d i within (counted_staged half.half i within counted));
      }

  -- what counts under it is what is staged
  copy_versions : (i : ℕ) → i < entries_of_lines r.layout d.lines → version_at (copied_record r position) (image_of d.words) i ≡ staged_of true r d i
  copy_versions i within =
      elim (cases_lt r.cp (image_of d.words (entry_word i 0))) [
        | inl above ↦
            let end = half.half.live i within above in
            cond-true (counts (copied_record r position) (image_of d.words (entry_word i 0))) _ _ (staged_counted half.half half.lawful i within above)
            ∙ ap (λ (v : Version). Some v)
            (ap (λ (ended : _). record (version_in r (image_of d.words) i) { is_ended = ended })
            (ap (counts (copied_record r position)) end ∙ sym (ap (counts r) end)))
            ∙ sym (staged_at r d i within above)
        | inr low ↦
            let uncounted : counts (copied_record r position) (image_of d.words (entry_word i 0)) ≡ false =
            elim (cases_Bool (counts (with_copy r) (image_of d.words (entry_word i 0)))) [
              | inl counted ↦ absurd (omega (arith, counted_staged half.half i within counted, low))
              | inr none ↦ none
            ] in
            cond-false (counts (copied_record r position) (image_of d.words (entry_word i 0))) _ _ uncounted ∙ sym (unstaged_at r d i low)
      ]

  -- words on which it depends are in no record
  copy_out : (n word : ℕ) → Matters (with_copy r) d.lines (image_of d.words) word → IsRecordWord r.layout d.lines n word → ⊥
  copy_out n word matters = beside_record r.layout d.lines n word half.many (matters_beside copy_sound word matters)

  -- an entry is free if it was, and nothing was staged in it
  free_then : (begin now : ℕ) (i : ℕ) → i < entries_of_lines r.layout d.lines → begin ≡ image_of d.words (entry_word i 0) → now ≡ begin
      → (now == 0 || nat_lt (r.cp + 1) now) ≡ ((begin == 0 || nat_lt r.cp begin) && is_none (staged_of true r d i))
  free_then begin now i within is same =
      elim (cases_lt r.cp begin) [
        | inl above ↦
            or_from (now == 0) (nat_lt (r.cp + 1) now) (ne_eqb now 0 (λ zeroed. omega (arith, zeroed, same, above)))
            (le-ltb (r.cp + 1) now (omega (arith, same, is, half.half.begins i within)))
            ∙ sym (and_right (begin == 0 || nat_lt r.cp begin) (is_none (staged_of true r d i))
            (ap is_none (staged_at r d i within (omega (arith, is, above)))))
        | inr low ↦
            ap (λ (n : ℕ). n == 0 || nat_lt (r.cp + 1) n) same
            ∙ ap (λ (b : _). begin == 0 || b) (le-ltb (r.cp + 1) begin (omega (arith, low)) ∙ sym (le-ltb r.cp begin low))
            ∙ sym (and-true (begin == 0 || nat_lt r.cp begin))
            ∙ ap (λ (b : _). (begin == 0 || nat_lt r.cp begin) && b) (sym (ap is_none (unstaged_at r d i (omega (arith, is, low)))))
      ]

  -- ---- once it is written

  module _ {c : State} (next : Record) (is : next ≡ copied_record r position) where
    newest_at : IsRecorded d c next ⊎ IsRecordFault d c next → AgreesOn (Matters (with_copy r) d.lines (image_of d.words)) (image_of d.words) (image_of c.words)
    newest_at (inl recorded) word matters =
        recorded.newest word (beside_next next (ap (λ (q : Record). q.layout) is) refl half.many word (matters_beside copy_sound word matters))
    newest_at (inr fault) word matters =
        fault.newest word (beside_next next (ap (λ (q : Record). q.layout) is) refl half.many word (matters_beside copy_sound word matters))

    pub copied_rest : IsLawful next → IsRecorded d c next → IsAtRest next c
    copied_rest lawful recorded =
        let now : IsRecorded d c (copied_record r position) = subst (λ (q : Record). IsRecorded d c q) is recorded in
        let agrees = newest_at (inl recorded) in
        subst (λ (q : Record). IsAtRest q c) (sym is)
        (erased_rest half.many half.few copy_sound (agrees_erased copy_sound agrees) (subst IsLawful is lawful) (omega arith)
        (agrees_below (copied_record r position) d.lines agrees (half_below half.half)) now.stays.lines now.durable
        (λ word matters. recorded_only now word (copy_out (r.number + 1) word matters) (half.certain word matters)))

    pub copied_same : IsRecorded d c next → Same (after_copy (contents_of r d) (staged_of true r d) position) (contents_of next c)
    copied_same recorded =
        let agrees = newest_at (inl recorded) in
        subst (λ (q : Record). Same (after_copy (contents_of r d) (staged_of true r d) position) (contents_of q c)) (sym is)
        (record {
          current = refl;
          lines = recorded.stays.lines;
          versions = erased_versions c (staged_of true r d) copy_sound (agrees_erased copy_sound agrees) recorded.stays.lines copy_versions (unstaged_beyond r d);
          is_free = λ i.
              let was : ℕ = image_of d.words (entry_word i 0) in
              erased_free (copied_record r position) c i ((was == 0 || nat_lt r.cp was) && is_none (staged_of true r d i)) recorded.stays.lines
              (λ within.
              free_then was (image_of c.words (entry_word i 0)) i within refl
              (agrees (entry_word i 0) (inr (inl (omega arith, omega (arith, within))))))
              ∙ sym (and_assoc (nat_lt i (entries_of_lines r.layout d.lines)) (was == 0 || nat_lt r.cp was) (is_none (staged_of true r d i)));
        })

    -- where a fence failed
    pub copied_fault : IsRecordFault d c next → Same (contents_of r d) (contents_of r c)
    copied_fault fault =
        let agrees = newest_at (inr fault) in
        let at : (i : ℕ) → i < entries_of_lines r.layout d.lines → image_of c.words (entry_word i 0) ≡ image_of d.words (entry_word i 0) =
        λ i within. agrees (entry_word i 0) (inr (inl (omega arith, omega (arith, within)))) in
        same_uncounted r d c fault.stays.lines half.half.uncounted (λ i within. ap (counts r) (at i within) ∙ half.half.uncounted i within)
        (λ i within. ap (λ (begin : ℕ). begin == 0 || nat_lt r.cp begin) (at i within))

  -- ---- at each crash

  either_copied : (image : Image) → IsEitherRecord d r (copied_record r position) image → IsNewcomerOrStandby r d position image
  either_copied image recorded =
      let agrees : AgreesOn (Matters (with_copy r) d.lines (image_of d.words)) (image_of d.words) image =
      λ word matters. (half.certain word matters).only (image word) (recorded.elsewhere word (copy_out (r.number + 1) word matters)) in
      elim recorded.either [
        | inl old ↦ inl (agrees_keeps half image agrees old)
        | inr new ↦
            inr (erased_keeps (after_copy (contents_of r d) (staged_of true r d) position) copy_sound (agrees_erased copy_sound agrees) (omega arith)
            (λ i k within low.
            let at = agrees_below (copied_record r position) d.lines agrees (half_below half.half) i k within low in omega (arith, at))
            copy_versions new)
      ]

  pub copied_moments : {c : State} (next : Record) → next ≡ copied_record r position
      → ((current : Record) → IsSucceeded d current next → LeavesOnly d c (IsEitherRecord d current next)) → LeavesOnly d c (IsNewcomerOrStandby r d position)
  copied_moments {c} next is moments =
      LeavesOnly-weaken (IsNewcomerOrStandby r d position) either_copied
      (subst (λ (q : Record). LeavesOnly d c (IsEitherRecord d r q)) is
      (moments r (subst (λ (q : Record). IsSucceeded d r q) (sym is) (record { layout = refl; number = refl; durable = half.recorded }))))
