-- A part of a copy is staged: what it stores counts under no record yet, and is whole under the stamp of the copy.
use Rattle.std.proofs.Common.{◌≡◌, ℕ, zero, suc, ◌+◌, ◌<◌, true, false, ◌||◌, ◌==◌, List, [], inl, inr, Some, sym, ap, subst, ◌∙◌, arith}
use Rattle.std.specs.Prelude.{nat_lt}
use Rattle.std.proofs.lemmas.Bool.{cases_Bool, cases_lt, eq-eqb, lt-ltb, or_left, or_right}
use Rattle.pmem.specs.Device.{State}
use Rattle.pmem.specs.Crash.{image_of}
use Rattle.pmem.specs.Runs.{IsPartlyStored, LeavesOnly, Staged}
use Rattle.pmem.proofs.Leaving.{LeavesOnly-weaken}
use Rattle.model.specs.declared.group.Put.{Put}
use Rattle.model.specs.declared.record.Record.{Record}
use Rattle.model.specs.Image.{Image, counts, entries_of_lines, entry_word}
use Rattle.model.specs.Group.{HasItsLines, is_put_at, version_of_put, with_puts}
use Rattle.heap_layout.proofs.ReadBack.{HasPut}
use Rattle.wbl_engine.specs.AtRest.{Matters, contents_of}
use Rattle.wbl_engine.specs.Contents.{Keeps, Same}
use Rattle.wbl_engine.specs.Copying.{AreHalf, IsHalf, staged_of, with_copy}
use Rattle.wbl_engine.specs.Stage.{IsWritable, puts_lines, puts_pairs}
use Rattle.wbl_engine.proofs.CountLemmas.{counts-above}
use Rattle.wbl_engine.proofs.Covering.{puts_covered}
use Rattle.wbl_engine.proofs.Erased.{AreBelow, directory_matters}
use Rattle.wbl_engine.proofs.HalfLemmas.{image_keeps, same_uncounted, staged_at, unstaged_at, unstaged_beyond}
use Rattle.wbl_engine.proofs.PartEffects.{IsAmong, is_put_at-among}
use Rattle.wbl_engine.proofs.PutPairs.{among-all}
use Rattle.wbl_engine.proofs.ReadBack.{version_in_entry-put}
use Rattle.wbl_engine.proofs.Storing.{IsStoredOver, partly_over, partly_recorded, staged_only, staged_recorded}
use Rattle.wbl_engine.proofs.VersionLemmas.{SameEntry, version_in_entry, version_in_entry-same}
use Rattle.wbl_engine.proofs.CopyImages.{IsPart, behind, image_made, kept_word, made_half, mattered, placed_at, put_there, put_word, staged_stays, stored_stamp, with_puts-among, with_puts-none}

-- ---- a part on a device

module _ {r : Record} {d : State} {puts : List Put} (half : IsHalf r d) (part : IsPart r d.lines (image_of d.words) puts) (position : ℕ) where
  -- At each crash before the fence the newcomer is there without a copy.
  partly_keeps : (image : Image) → IsPartlyStored (puts_pairs (r.cp + 1) position puts) d.words image → Keeps (contents_of r d) image
  partly_keeps image partly =
      image_keeps half image
      (λ word low.
      elim (over word (inl low)) [
        | inl same ↦ same
        | inr stored ↦
            elim (behind part position word (image word) stored) [
              | inl directory ↦ absurd (omega (arith, low, directory.0))
              | inr extents ↦ absurd (omega (arith, low, extents))
            ]
      ])
      (λ i within.
      elim (over (entry_word i 0) (directory_matters (with_copy r) d.lines (image_of d.words) i 0 within (omega arith))) [
        | inl same ↦ ap (counts r) same ∙ half.half.uncounted i within
        | inr stored ↦
            ap (counts r) (stored_stamp part position i 0 (image (entry_word i 0)) within (omega arith) stored)
            ∙ counts-above r (r.cp + 1) (omega arith)
      ])
      below (partly_recorded d image (puts_pairs (r.cp + 1) position puts) half.many (behind part position) half.recorded partly)
    where
      over : IsStoredOver (Matters (with_copy r) d.lines (image_of d.words)) (image_of d.words) (puts_pairs (r.cp + 1) position puts) image
      over = partly_over (Matters (with_copy r) d.lines (image_of d.words)) d image (puts_pairs (r.cp + 1) position puts) half.certain partly

      below : AreBelow r.layout d.lines image r.cd
      below i zero within low =
          elim (over (entry_word i 0) (directory_matters (with_copy r) d.lines (image_of d.words) i 0 within (omega arith))) [
            | inl same ↦ omega (arith, same, half.half.begins i within, half.lawful.limit)
            | inr stored ↦ omega (arith, stored_stamp part position i 0 (image (entry_word i 0)) within (omega arith) stored, half.lawful.limit)
          ]
      below i (suc zero) within low =
          elim (over (entry_word i 1) (directory_matters (with_copy r) d.lines (image_of d.words) i 1 within (omega arith))) [
            | inl same ↦ omega (arith, same, half.half.ends i within, half.lawful.limit)
            | inr stored ↦ omega (arith, stored_stamp part position i 1 (image (entry_word i 1)) within (omega arith) stored, half.lawful.limit)
          ]
      below i (suc (suc k)) within low = absurd (omega (arith, low))

  pub part_moments : {b : State} → LeavesOnly d b (IsPartlyStored (puts_pairs (r.cp + 1) position puts) d.words) → LeavesOnly d b (Keeps (contents_of r d))
  part_moments moments = LeavesOnly-weaken (Keeps (contents_of r d)) partly_keeps moments

  module _ (b : State) (newest : (word : ℕ) → image_of b.words word ≡ image_made r position puts (image_of d.words) word) (lines : b.lines ≡ d.lines) where
    same_image : image_made r position puts (image_of d.words) ≡ image_of b.words
    same_image = λ i word. sym (newest word) i

    half_now : AreHalf r d.lines (image_of b.words)
    half_now = subst (λ (image : Image). AreHalf r d.lines image) same_image (made_half part position)

    -- Whether the fence failed or not, loads show the same contents.
    pub part_same : Same (contents_of r d) (contents_of r b)
    part_same =
        same_uncounted r d b lines half.half.uncounted half_now.uncounted
        (λ i within.
        elim (cases_Bool (is_put_at i puts)) [
          | inl there ↦
              let made = is_put_at-among i puts there in
              let was : image_of d.words (entry_word i 0) ≡ 0 = ap (λ (n : ℕ). image_of d.words (entry_word n 0)) made.2 ∙ part.free made.0 made.1 in
              let now : image_of b.words (entry_word i 0) ≡ r.cp + 1 =
              newest (entry_word i 0) ∙ ap (λ (n : ℕ). image_made r position puts (image_of d.words) (entry_word n 0)) made.2
              ∙ put_word part position made.0 made.1 0 (omega arith) in
              or_right (image_of b.words (entry_word i 0) == 0) (nat_lt r.cp (image_of b.words (entry_word i 0)))
              (lt-ltb r.cp (image_of b.words (entry_word i 0)) (omega (arith, now)))
              ∙ sym (or_left (image_of d.words (entry_word i 0) == 0) (nat_lt r.cp (image_of d.words (entry_word i 0)))
              (eq-eqb (image_of d.words (entry_word i 0)) 0 was))
          | inr none ↦
              ap (λ (begin : ℕ). begin == 0 || nat_lt r.cp begin)
              (newest (entry_word i 0) ∙ kept_word part position i 0 within (omega arith) none)
        ])

    -- the entry of a put has its version
    staged_made : (put : Put) → IsAmong put puts → staged_of true r b put.entry.0 ≡ Some (version_of_put position put)
    staged_made put among =
        let has : HasPut (image_of b.words) (r.cp + 1) position put =
        subst (λ (image : Image). HasPut image (r.cp + 1) position put) same_image (put_there part position put among) in
        let end : image_of b.words (entry_word put.entry.0 1) ≡ 0 = newest (entry_word put.entry.0 1) ∙ put_word part position put among 1 (omega arith) in
        let writable = among-all IsWritable puts put among part.writable in
        staged_at r b put.entry.0 (omega (arith, (placed_at part position put among).entry, ap (entries_of_lines r.layout) lines)) (omega (arith, has.begin))
        ∙ ap Some
        (ap (version_in_entry (image_of b.words) put.entry.0) (ap (counts r) end)
        ∙ version_in_entry-put (image_of b.words) (r.cp + 1) position put false writable.storable (among-all HasItsLines puts put among part.fitting) has)

    -- another one what it had
    staged_kept : (i : ℕ) → i < entries_of_lines r.layout d.lines → is_put_at i puts ≡ false → staged_of true r b i ≡ staged_of true r d i
    staged_kept i within none =
        let begin : image_of b.words (entry_word i 0) ≡ image_of d.words (entry_word i 0) =
        newest (entry_word i 0) ∙ kept_word part position i 0 within (omega arith) none in
        let end : image_of b.words (entry_word i 1) ≡ image_of d.words (entry_word i 1) =
        newest (entry_word i 1) ∙ kept_word part position i 1 within (omega arith) none in
        elim (cases_lt r.cp (image_of d.words (entry_word i 0))) [
          | inl above ↦
              staged_at r b i (omega (arith, within, ap (entries_of_lines r.layout) lines)) (omega (arith, above, begin))
              ∙ ap Some
              (version_in_entry-same (image_of d.words) (image_of b.words) i (counts r (image_of b.words (entry_word i 1)))
              (subst (λ (image : Image). SameEntry (image_of d.words) image i) same_image (staged_stays part position i within none above))
              ∙ ap (version_in_entry (image_of d.words) i) (ap (counts r) end))
              ∙ sym (staged_at r d i within above)
          | inr low ↦ unstaged_at r b i (omega (arith, low, begin)) ∙ sym (unstaged_at r d i low)
        ]

    -- What is staged is what was staged, and the puts.
    pub part_staged : (i : ℕ) → staged_of true r b i ≡ with_puts position puts (staged_of true r d) i
    part_staged i =
        elim (cases_Bool (is_put_at i puts)) [
          | inl there ↦
              let made = is_put_at-among i puts there in
              ap (λ (n : ℕ). staged_of true r b n) made.2 ∙ staged_made made.0 made.1
              ∙ sym (ap (λ (n : ℕ). with_puts position puts (staged_of true r d) n) made.2 ∙ with_puts-among position puts (staged_of true r d) made.0 made.1 part.apart)
          | inr none ↦
              elim (cases_lt i (entries_of_lines r.layout d.lines)) [
                | inl within ↦ staged_kept i within none
                | inr beyond ↦
                    unstaged_beyond r b i (omega (arith, beyond, ap (entries_of_lines r.layout) lines)) ∙ sym (unstaged_beyond r d i beyond)
              ]
              ∙ sym (with_puts-none position puts (staged_of true r d) i none)
        ]

  -- The device is ready for the next part, or for the record that ends the copy.
  pub part_half : {b : State} → Staged d b (puts_pairs (r.cp + 1) position puts) (puts_lines puts) → IsHalf r b
  part_half {b} staged =
      record {
        many = omega (arith, staged.stays.lines, half.many);
        few = omega (arith, staged.stays.lines, half.few);
        lawful = half.lawful;
        newcomer = half.newcomer;
        half = subst (λ (n : ℕ). AreHalf r n (image_of b.words)) (sym staged.stays.lines) (half_now b staged.newest staged.stays.lines);
        recorded = staged_recorded half.many (behind part position) staged half.recorded;
        certain = λ word matters.
            staged_only (puts_covered (r.cp + 1) position puts) staged word
            (λ out.
            half.certain word
            (mattered part position word
            (subst (λ (image : Image). Matters (with_copy r) d.lines image word) (sym (same_image b staged.newest staged.stays.lines))
            (subst (λ (n : ℕ). Matters (with_copy r) n (image_of b.words) word) staged.stays.lines matters)) out));
      }
