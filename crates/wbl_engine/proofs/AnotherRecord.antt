-- A record is written over an image at rest by which the same stamps count, and nothing else.
use Rattle.std.proofs.Common.{◌≡◌, ℕ, ◌+◌, ◌<◌, ◌||◌, ◌==◌, ◌⊎◌, inl, inr, refl, sym, ap, subst, arith}
use Rattle.std.specs.Prelude.{nat_lt}
use Rattle.pmem.specs.Device.{State}
use Rattle.pmem.specs.Crash.{image_of}
use Rattle.pmem.specs.Runs.{LeavesOnly}
use Rattle.pmem.proofs.Leaving.{LeavesOnly-weaken}
use Rattle.model.specs.declared.layout.Layout.{Layout}
use Rattle.model.specs.declared.record.Record.{Record}
use Rattle.model.specs.declared.record.Role.{Role}
use Rattle.model.specs.Image.{Image, HasRecord, entry_word, counts}
use Rattle.model.specs.Layout.{entries_of_lines}
use Rattle.wbl_record.specs.Current.{IsLawful}
use Rattle.wbl_record.specs.Record.{IsRecorded, IsRecordFault, IsRecordWord, IsSucceeded, IsEitherRecord}
use Rattle.wbl_engine.specs.AtRest.{IsAtRest, Matters, contents_of}
use Rattle.wbl_engine.specs.Contents.{Keeps, Same}
use Rattle.wbl_engine.specs.Raising.{under}
use Rattle.wbl_engine.proofs.Erased.{IsErased, IsSound, agrees_below, directory_matters, erased_free, erased_keeps, erased_rest, erased_versions, matters_beside, nothing, rest_below, versions-beyond, versions-within, whole_below, whole_sound}
use Rattle.wbl_engine.proofs.Readable.{agrees_under}
use Rattle.wbl_engine.proofs.Storing.{AgreesOn, beside_next, beside_record, recorded_only}

-- ---- the contents

-- the next record, of which the map does not depend
abbrev pub another : ℕ → Role → ℕ → Record → Record
another epoch role floor r = record r { number = r.number + 1; epoch = epoch; role = role; floor = floor }

-- a crash leaves the contents, under this record or that one
abbrev pub IsUnderEither : Record → Record → State → Image → Type 0
IsUnderEither r q d image = Keeps (contents_of r d) image ⊎ Keeps (under q (contents_of r d)) image

module _ {r : Record} {d : State} (rest : IsAtRest r d) where
  sound : IsSound r d.lines (image_of d.words)
  sound = whole_sound rest.whole

  -- words on which the map depends are in no record
  matters_out : (n word : ℕ) → Matters r d.lines (image_of d.words) word → IsRecordWord r.layout d.lines n word → ⊥
  matters_out n word matters = beside_record r.layout d.lines n word rest.many (matters_beside sound word matters)

  -- under a record by which the same stamps count, nothing is lost
  kept : (q : Record) (image : Image) → q.layout ≡ r.layout → ((stamp : ℕ) → counts q stamp ≡ counts r stamp)
      → AgreesOn (Matters r d.lines (image_of d.words)) (image_of d.words) image → IsErased r q d.lines nothing (image_of d.words) image
  kept q image layout same agrees = agrees_under q layout sound agrees (λ i k within low. same (image_of d.words (entry_word i k)))

  kept_versions : (q : Record) (c : State) → q.layout ≡ r.layout → ((stamp : ℕ) → counts q stamp ≡ counts r stamp) → c.lines ≡ d.lines
      → AgreesOn (Matters r d.lines (image_of d.words)) (image_of d.words) (image_of c.words) → (i : ℕ)
      → (contents_of q c).versions i ≡ (contents_of r d).versions i
  kept_versions q c layout same lines agrees =
      erased_versions c (contents_of r d).versions sound (kept q (image_of c.words) layout same agrees) lines (λ i within. sym (versions-within r d i within))
      (versions-beyond r d)

  -- an entry is free as before
  kept_free : (c : State) → c.lines ≡ d.lines → AgreesOn (Matters r d.lines (image_of d.words)) (image_of d.words) (image_of c.words) → (i : ℕ)
      → (contents_of r c).is_free i ≡ (contents_of r d).is_free i
  kept_free c lines agrees i =
      erased_free r c i (image_of d.words (entry_word i 0) == 0 || nat_lt r.cp (image_of d.words (entry_word i 0))) lines
      (λ within.
      ap (λ (begin : ℕ). begin == 0 || nat_lt r.cp begin)
      (agrees (entry_word i 0) (directory_matters r d.lines (image_of d.words) i 0 within (omega arith))))

  kept_keeps : (q : Record) (image : Image) → q.layout ≡ r.layout → ((stamp : ℕ) → counts q stamp ≡ counts r stamp) → q.cd ≡ r.cd → q.position ≡ r.position
      → AgreesOn (Matters r d.lines (image_of d.words)) (image_of d.words) image → HasRecord d.lines q image
      → Keeps (record (contents_of r d) { current = q }) image
  kept_keeps q image layout same limit position agrees recorded =
      erased_keeps (record (contents_of r d) { current = q }) sound (kept q image layout same agrees) (omega (arith, position))
      (λ i k now low.
      let within = subst (λ (l : Layout). i < entries_of_lines l d.lines) layout now in
      let at = agrees_below r d.lines agrees (rest_below rest) i k within low in omega (arith, at, limit))
      (λ i now. let within = subst (λ (l : Layout). i < entries_of_lines l d.lines) layout now in sym (versions-within r d i within)) recorded

  module _ (epoch : ℕ) (role : Role) (floor : ℕ) where
    abbrev other : Record
    other = another epoch role floor r

    -- nor in the next one, which has the same layout
    next_out : (next : Record) → next ≡ other → (word : ℕ) → Matters r d.lines (image_of d.words) word
        → IsRecordWord next.layout d.lines next.number word → ⊥
    next_out next is word matters = beside_next next (ap (λ (q : Record). q.layout) is) refl rest.many word (matters_beside sound word matters)

    -- ---- once it is written

    pub another_rest : {c : State} (next : Record) → next ≡ other → IsLawful next → IsRecorded d c next → IsAtRest next c
    another_rest {c} next is lawful recorded =
        let written : IsRecorded d c other = subst (λ (q : Record). IsRecorded d c q) is recorded in
        let agrees : AgreesOn (Matters r d.lines (image_of d.words)) (image_of d.words) (image_of c.words) =
        λ word matters. written.newest word (matters_out (r.number + 1) word matters) in
        subst (λ (q : Record). IsAtRest q c) (sym is)
        (erased_rest rest.many rest.few sound (kept other (image_of c.words) refl (λ stamp. refl) agrees) (subst IsLawful is lawful) (omega arith)
        (agrees_below r d.lines agrees (whole_below rest.whole)) written.stays.lines written.durable
        (λ word matters. recorded_only written word (matters_out (r.number + 1) word matters) (rest.certain word matters)))

    pub another_same : {c : State} (next : Record) → next ≡ other → IsRecorded d c next → Same (under other (contents_of r d)) (contents_of next c)
    another_same {c} next is recorded =
        let agrees : AgreesOn (Matters r d.lines (image_of d.words)) (image_of d.words) (image_of c.words) =
        λ word matters. recorded.newest word (next_out next is word matters) in
        subst (λ (q : Record). Same (under other (contents_of r d)) (contents_of q c)) (sym is)
        (record {
          current = refl;
          lines = recorded.stays.lines;
          versions = kept_versions other c refl (λ stamp. refl) recorded.stays.lines agrees;
          is_free = kept_free c recorded.stays.lines agrees;
        })

    -- where a fence failed
    pub another_fault : {c : State} (next : Record) → next ≡ other → IsRecordFault d c next → Same (contents_of r d) (contents_of r c)
    another_fault {c} next is fault =
        let agrees : AgreesOn (Matters r d.lines (image_of d.words)) (image_of d.words) (image_of c.words) =
        λ word matters. fault.newest word (next_out next is word matters) in
        record {
          current = refl;
          lines = fault.stays.lines;
          versions = kept_versions r c refl (λ stamp. refl) fault.stays.lines agrees;
          is_free = kept_free c fault.stays.lines agrees;
        }

    -- ---- at each crash

    either_another : (image : Image) → IsEitherRecord d r other image → IsUnderEither r other d image
    either_another image recorded =
        let agrees : AgreesOn (Matters r d.lines (image_of d.words)) (image_of d.words) image =
        λ word matters. (rest.certain word matters).only (image word) (recorded.elsewhere word (matters_out (r.number + 1) word matters)) in
        elim recorded.either [
          | inl old ↦ inl (kept_keeps r image refl (λ stamp. refl) refl refl agrees old)
          | inr new ↦ inr (kept_keeps other image refl (λ stamp. refl) refl refl agrees new)
        ]

    pub another_moments : {c : State} (next : Record) → next ≡ other
        → ((current : Record) → IsSucceeded d current next → LeavesOnly d c (IsEitherRecord d current next)) → LeavesOnly d c (IsUnderEither r other d)
    another_moments {c} next is moments =
        LeavesOnly-weaken (IsUnderEither r other d) either_another
        (subst (λ (q : Record). LeavesOnly d c (IsEitherRecord d r q)) is
        (moments r (subst (λ (q : Record). IsSucceeded d r q) (sym is) (record { layout = refl; number = refl; durable = rest.recorded }))))
