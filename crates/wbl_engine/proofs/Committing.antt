-- The two halves of a commit make one step, at every crash.
use Rattle.std.proofs.Common.{◌≡◌, ℕ, ◌+◌, ◌<◌, ◌≤◌, Bool, true, not, ◌&&◌, ◌||◌, ◌==◌, ◌⊎◌, inl, inr, List, length, get_or, refl, sym, ap, subst, ◌∙◌, arith}
use Rattle.std.specs.Prelude.{nat_lt}
use Rattle.std.specs.List.{AllByRecursion}
use Rattle.std.proofs.Math.Bool.{and-true, and_assoc}
use Rattle.std.proofs.lemmas.Bool.{and_right, cases_Bool, eq-eqb, le-ltb, lt-ltb, ne_eqb, or_from, or_left, or_right}
use Rattle.pmem.specs.Device.{State}
use Rattle.pmem.specs.Crash.{image_of}
use Rattle.pmem.specs.Runs.{LeavesOnly, Staged, StageFailed, IsPartlyStored, IsStored}
use Rattle.pmem.proofs.Leaving.{LeavesOnly-then, LeavesOnly-weaken}
use Rattle.pmem.proofs.Staging.{written-cases}
use Rattle.model.specs.declared.record.Record.{Record}
use Rattle.model.specs.declared.group.Part.{Part}
use Rattle.model.specs.Image.{Image, HasRecord, entry_word, entries_of_lines}
use Rattle.model.specs.Group.{Contents, is_put_at, parts_versions}
use Rattle.model.proofs.RecordLemmas.{HasRecord-lines}
use Rattle.heap_layout.specs.Put.{entry_words}
use Rattle.wbl_record.specs.Current.{IsLawful}
use Rattle.wbl_record.specs.Record.{IsRecorded, IsRecordFault, IsRecordWord, IsSucceeded, IsEitherRecord}
use Rattle.wbl_engine.specs.AtRest.{contents_of, IsAtRest, Matters}
use Rattle.wbl_engine.specs.Committing.{AreCommittable, after_parts, record_after}
use Rattle.wbl_engine.specs.Contents.{Keeps, Same}
use Rattle.wbl_engine.specs.Reopening.{IsBesideRecords}
use Rattle.wbl_engine.specs.Stage.{IsWritable, puts_of_parts, parts_lines}
use Rattle.wbl_engine.proofs.AfterStage.{after_below, after_fits, after_sound, kept_word, made_image, stage_certain}
use Rattle.wbl_engine.proofs.Covering.{IsStoredPut, parts_stored_put, entry_stored}
use Rattle.wbl_engine.proofs.Erased.{agrees_below, agrees_erased, erased_free, erased_keeps, erased_rest, erased_versions, matters_beside, versions-beyond, versions-within, whole_sound}
use Rattle.wbl_engine.proofs.PartEffects.{is_put_at-among}
use Rattle.wbl_engine.proofs.Staged.{IsCommitting, group_begin, group_behind, group_below, group_erased, group_pairs, stored_at}
use Rattle.wbl_engine.proofs.Storing.{AgreesOn, IsStoredOver, beside_at, beside_next, partly_over, partly_recorded, recorded_only, staged_recorded, written_over}

-- from the contracts of what is called
pub committing : {r : Record} {d : State} {parts : List Part} (next : Record) → IsAtRest r d → AreCommittable (contents_of r d) parts next.position
    → AllByRecursion IsWritable (puts_of_parts parts) → IsCommitting r d parts next.position next.epoch next.floor
committing next rest asked writable = record { rest = rest; asked = asked; writable = writable }

-- what a crash may leave at any moment of a commit
abbrev pub KeepsEither : Contents → Contents → Image → Type 0
KeepsEither old new image = Keeps old image ⊎ Keeps new image

abbrev pub IsBeforeOrAfter : Record → State → List Part → ℕ → ℕ → ℕ → Image → Type 0
IsBeforeOrAfter r d parts position epoch floor = KeepsEither (contents_of r d) (after_parts (contents_of r d) parts position epoch floor)

-- ---- which entries are free

free_stays : (cp old new top : ℕ) → (new ≡ old) ⊎ ((old ≡ 0) × (cp < new) × (new ≤ top)) → (new == 0 || nat_lt cp new) ≡ (old == 0 || nat_lt cp old)
free_stays cp old new top (inl same) = ap (λ (b : ℕ). b == 0 || nat_lt cp b) same
free_stays cp old new top (inr put) =
    or_right (new == 0) (nat_lt cp new) (lt-ltb cp new put.1) ∙ sym (or_left (old == 0) (nat_lt cp old) (eq-eqb old 0 put.0))

module _ {r : Record} {d : State} {parts : List Part} {position epoch floor : ℕ} (begun : IsCommitting r d parts position epoch floor) where
  -- the begin of a put counts under the next record alone
  put_begin : (i : ℕ) → i < entries_of_lines r.layout d.lines → is_put_at i (puts_of_parts parts) ≡ true → r.cp < made_image r d parts (entry_word i 0)
  put_begin i within put =
      let at = is_put_at-among i (puts_of_parts parts) put in
      let place : IsStoredPut (group_pairs r parts) at.0 = parts_stored_put (r.cp + 1) parts at.0 at.1 in
      elim (written-cases (group_pairs r parts) (image_of d.words) (entry_word i 0)) [
        | inl out ↦
            absurd (out.0 (get_or (entry_words place.stamp place.position at.0) 0 0)
            (subst (λ (n : ℕ). IsStored (group_pairs r parts) (entry_word n 0) (get_or (entry_words place.stamp place.position at.0) 0 0)) (sym at.2)
            (entry_stored (group_pairs r parts) at.0 place 0 (omega arith))))
        | inr stored ↦
            elim (stored_at begun i 0 (made_image r d parts (entry_word i 0)) within (omega arith) stored) [
              | inl there ↦ (there.begin refl).0
              | inr end ↦ absurd (omega (arith, end.only_end))
            ]
      ]

  free_after : (i now : ℕ) → i < entries_of_lines r.layout d.lines → now ≡ made_image r d parts (entry_word i 0)
      → (now == 0 || nat_lt (record_after r parts position epoch floor).cp now)
      ≡ ((image_of d.words (entry_word i 0) == 0 || nat_lt r.cp (image_of d.words (entry_word i 0))) && not (is_put_at i (puts_of_parts parts)))
  free_after i now within is =
      let was : ℕ = image_of d.words (entry_word i 0) in
      let put : Bool = is_put_at i (puts_of_parts parts) in
      elim (cases_Bool put) [
        | inl there ↦
            or_from (now == 0) (nat_lt (record_after r parts position epoch floor).cp now) (ne_eqb now 0 (λ e. omega (arith, e, is, put_begin i within there)))
            (le-ltb (record_after r parts position epoch floor).cp now (omega (arith, is, (after_fits begun).begins i within)))
            ∙ sym (and_right (was == 0 || nat_lt r.cp was) (not put) (ap not there))
        | inr none ↦
            ap (λ (b : ℕ). b == 0 || nat_lt (record_after r parts position epoch floor).cp b) (is ∙ kept_word begun i 0 within (omega arith) (omega arith) none)
            ∙ ap (λ (t : Bool). was == 0 || t)
            (le-ltb (record_after r parts position epoch floor).cp was (omega (arith, begun.rest.whole.begins i within)) ∙ sym (le-ltb r.cp was (begun.rest.whole.begins i within)))
            ∙ sym (and-true (was == 0 || nat_lt r.cp was)) ∙ ap (λ (b : Bool). (was == 0 || nat_lt r.cp was) && not b) (sym none)
      ]

  -- ---- the contents, of an image that agrees with what the parts made, but for the record

  commit_same : (c : State) → c.lines ≡ d.lines → AgreesOn (IsBesideRecords r.layout d.lines) (made_image r d parts) (image_of c.words)
      → Same (after_parts (contents_of r d) parts position epoch floor) (contents_of (record_after r parts position epoch floor) c)
  commit_same c lines agrees =
      record {
        current = refl;
        lines = lines;
        versions = erased_versions c (parts_versions (contents_of r d).versions parts) (after_sound begun)
            (agrees_erased (after_sound begun) (λ word matters. agrees word (matters_beside (after_sound begun) word matters))) lines (after_fits begun).same
            (after_fits begun).beyond;
        is_free = λ i.
            let was : ℕ = image_of d.words (entry_word i 0) in
            let put : Bool = is_put_at i (puts_of_parts parts) in
            erased_free (record_after r parts position epoch floor) c i ((was == 0 || nat_lt r.cp was) && not put) lines
            (λ within.
            free_after i (image_of c.words (entry_word i 0)) within (agrees (entry_word i 0) (inr (inl (omega arith, omega (arith, within))))))
            ∙ sym (and_assoc (nat_lt i (entries_of_lines r.layout d.lines)) (was == 0 || nat_lt r.cp was) (not put));
      }

  pub fault_same : (c : State) → c.lines ≡ d.lines → AgreesOn (IsBesideRecords r.layout d.lines) (made_image r d parts) (image_of c.words)
      → Same (contents_of r d) (contents_of r c)
  fault_same c lines agrees =
      let over : IsStoredOver (Matters r d.lines (image_of d.words)) (image_of d.words) (group_pairs r parts) (image_of c.words) =
      written_over (Matters r d.lines (image_of d.words)) (image_of d.words) (image_of c.words) (group_pairs r parts)
      (λ word matters. agrees word (matters_beside (whole_sound begun.rest.whole) word matters)) in
      record {
        current = refl;
        lines = lines;
        versions = erased_versions c (contents_of r d).versions (whole_sound begun.rest.whole) (group_erased begun (image_of c.words) over) lines
            (λ i within. sym (versions-within r d i within)) (versions-beyond r d);
        is_free = λ i.
            erased_free r c i (image_of d.words (entry_word i 0) == 0 || nat_lt r.cp (image_of d.words (entry_word i 0))) lines
            (λ within. free_stays r.cp (image_of d.words (entry_word i 0)) (image_of c.words (entry_word i 0)) (r.cp + length parts)
            (group_begin begun (image_of c.words) over i within));
      }

  -- where the first fence failed
  pub first_fault : {b : State} → StageFailed d b (group_pairs r parts) → Same (contents_of r d) (contents_of r b)
  first_fault {b} failed = fault_same b failed.stays.lines (λ word beside. failed.newest word)

  -- ---- at each crash

  old_keeps : (image : Image) → IsStoredOver (Matters r d.lines (image_of d.words)) (image_of d.words) (group_pairs r parts) image
      → HasRecord d.lines r image → Keeps (contents_of r d) image
  old_keeps image over recorded =
      erased_keeps (contents_of r d) (whole_sound begun.rest.whole) (group_erased begun image over) (omega arith)
      (λ i k within low.
      let at = group_below begun image over i k within low in omega (arith, at, begun.rest.lawful.limit, begun.asked.few))
      (λ i within. sym (versions-within r d i within)) recorded

  -- until the first fence
  pub stage_moments : {b : State} → LeavesOnly d b (IsPartlyStored (group_pairs r parts) d.words) → LeavesOnly d b (IsBeforeOrAfter r d parts position epoch floor)
  stage_moments moments =
      LeavesOnly-weaken (IsBeforeOrAfter r d parts position epoch floor)
      (λ image partly.
      inl (old_keeps image (partly_over (Matters r d.lines (image_of d.words)) d image (group_pairs r parts) begun.rest.certain partly)
      (partly_recorded d image (group_pairs r parts) begun.rest.many (group_behind begun) begun.rest.recorded partly)))
      moments

module _ {r : Record} {d b : State} {parts : List Part} {position epoch floor : ℕ} {next : Record} (begun : IsCommitting r d parts position epoch floor) (is : next ≡ record_after r parts position epoch floor)
    (staged : Staged d b (group_pairs r parts) (parts_lines parts)) where
  -- while the record is written, each crash leaves the old contents or the new ones
  pub either_keeps : (image : Image) → IsEitherRecord b r (record_after r parts position epoch floor) image → IsBeforeOrAfter r d parts position epoch floor image
  either_keeps image recorded =
      elim recorded.either [
        | inl old ↦
            inl (old_keeps begun image
            (written_over (Matters r d.lines (image_of d.words)) (image_of d.words) image (group_pairs r parts)
            (λ word matters.
            (stage_certain begun staged word (inl matters)).only (image word)
            (recorded.elsewhere word (beside_at r.layout (r.number + 1) word staged.stays.lines begun.rest.many
            (matters_beside (whole_sound begun.rest.whole) word matters)))
            ∙ staged.newest word))
            (HasRecord-lines staged.stays.lines old))
        | inr new ↦
            let sound = after_sound begun in
            let agrees : AgreesOn (Matters (record_after r parts position epoch floor) d.lines (made_image r d parts)) (made_image r d parts) image =
            λ word matters.
            (stage_certain begun staged word (inr matters)).only (image word)
            (recorded.elsewhere word (beside_at r.layout (r.number + 1) word staged.stays.lines begun.rest.many (matters_beside sound word matters)))
            ∙ staged.newest word in
            inr (erased_keeps (after_parts (contents_of r d) parts position epoch floor) sound (agrees_erased sound agrees) (omega arith)
            (λ i k within low. let at = agrees_below (record_after r parts position epoch floor) d.lines agrees (after_below begun) i k within low in omega (arith, at)) (after_fits begun).same
            (HasRecord-lines staged.stays.lines new))
      ]

  pub done_moments : {c : State} → ((current : Record) → IsSucceeded b current next → LeavesOnly b c (IsEitherRecord b current next))
      → LeavesOnly d c (IsBeforeOrAfter r d parts position epoch floor)
  done_moments {c} moments =
      LeavesOnly-then (stage_moments begun staged.moments)
      (LeavesOnly-weaken (IsBeforeOrAfter r d parts position epoch floor) either_keeps
      (subst (λ (q : Record). LeavesOnly b c (IsEitherRecord b r q)) is
      (moments r
      (subst (λ (q : Record). IsSucceeded b r q) (sym is)
      (record { layout = refl; number = refl; durable = staged_recorded begun.rest.many (group_behind begun) staged begun.rest.recorded })))))

  -- what loads return beside the records
  recorded_made : (c : State) → ((word : ℕ) → (IsRecordWord next.layout b.lines next.number word → ⊥) → image_of c.words word ≡ image_of b.words word)
      → AgreesOn (IsBesideRecords r.layout d.lines) (made_image r d parts) (image_of c.words)
  recorded_made c newest word beside =
      newest word (beside_next next (ap (λ (q : Record). q.layout) is) staged.stays.lines begun.rest.many word beside) ∙ staged.newest word

  -- where a later fence failed
  pub later_fault : {c : State} → IsRecordFault b c next → Same (contents_of r d) (contents_of r c)
  later_fault {c} fault = fault_same begun c (fault.stays.lines ∙ staged.stays.lines) (recorded_made c fault.newest)

  -- once all is done
  pub done_rest : {c : State} → IsLawful next → IsRecorded b c next → IsAtRest next c
  done_rest {c} lawful recorded =
      let sound = after_sound begun in
      let agrees : AgreesOn (Matters (record_after r parts position epoch floor) d.lines (made_image r d parts)) (made_image r d parts) (image_of c.words) =
      λ word matters. recorded_made c recorded.newest word (matters_beside sound word matters) in
      let now : IsRecorded b c (record_after r parts position epoch floor) = subst (λ (q : Record). IsRecorded b c q) is recorded in
      subst (λ (q : Record). IsAtRest q c) (sym is)
      (erased_rest begun.rest.many begun.rest.few sound (agrees_erased sound agrees) (subst IsLawful is lawful) (omega arith)
      (agrees_below (record_after r parts position epoch floor) d.lines agrees (after_below begun)) (recorded.stays.lines ∙ staged.stays.lines) now.durable
      (λ word matters.
      recorded_only now word (beside_at r.layout (r.number + 1) word staged.stays.lines begun.rest.many (matters_beside sound word matters))
      (stage_certain begun staged word (inr matters))))

  pub done_same : {c : State} → IsRecorded b c next → Same (after_parts (contents_of r d) parts position epoch floor) (contents_of next c)
  done_same {c} recorded =
      subst (λ (q : Record). Same (after_parts (contents_of r d) parts position epoch floor) (contents_of q c)) (sym is)
      (commit_same begun c (recorded.stays.lines ∙ staged.stays.lines) (recorded_made c recorded.newest))
