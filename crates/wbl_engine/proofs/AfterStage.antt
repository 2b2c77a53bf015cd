-- What is certain once parts are stored, before the record is written.
use Rattle.std.proofs.Common.{◌≡◌, ◌≢◌, ℕ, zero, suc, ◌+◌, ◌-◌, ◌<◌, false, IsTrue, List, ◌⊎◌, inl, inr, length, get_or, refl, sym, ap, subst, ◌∙◌, arith}
use Rattle.std.proofs.lemmas.Bool.{both_ways, cases_Bool, cond-true}
use Rattle.pmem.specs.Device.{State, Only}
use Rattle.pmem.specs.Crash.{image_of}
use Rattle.pmem.specs.Runs.{Staged, IsStored, IsOutside, written}
use Rattle.pmem.proofs.Staging.{written-cases, written-outside, written-stored}
use Rattle.model.specs.declared.record.Record.{Record}
use Rattle.model.specs.declared.group.Part.{Part}
use Rattle.model.specs.declared.group.Put.{Put}
use Rattle.model.specs.Image.{Image, entry_word, entries_of_lines, counts, version_in}
use Rattle.model.specs.Group.{is_put_at, parts_versions}
use Rattle.model.proofs.LayoutLemmas.{entries_fit}
use Rattle.heap_layout.specs.Put.{entry_words}
use Rattle.heap_layout.proofs.PutWords.{IsOfExtent}
use Rattle.wbl_engine.specs.AtRest.{contents_of, Matters}
use Rattle.wbl_engine.specs.Committing.{record_after}
use Rattle.wbl_engine.specs.Stage.{puts_of_parts, parts_lines}
use Rattle.wbl_engine.proofs.CountLemmas.{with_cp, counts-later}
use Rattle.wbl_engine.proofs.Covering.{IsStoredPut, parts_covered, parts_stored_put, extent_stored, entry_stored, among_same}
use Rattle.wbl_engine.proofs.Erased.{AreBelow, HasSuperblock-same, IsSound}
use Rattle.wbl_engine.proofs.GroupSteps.{parts_fit}
use Rattle.wbl_engine.proofs.PartEffects.{IsAmong, is_put_at-among, among-is_put_at}
use Rattle.wbl_engine.proofs.PartSteps.{Fits}
use Rattle.wbl_engine.proofs.PositionLemmas.{parts_made}
use Rattle.wbl_engine.proofs.Staged.{IsCommitting, group_behind, group_pairs, group_stored, placed_at, rest_fits, rest_made, stored_by}
use Rattle.wbl_engine.proofs.Storing.{staged_only}

-- the image that the parts make
abbrev pub made_image : Record → State → List Part → Image
made_image r d parts = written (group_pairs r parts) (image_of d.words)

module _ {r : Record} {d : State} {parts : List Part} {position epoch floor : ℕ} (begun : IsCommitting r d parts position epoch floor) where
  -- it has, under the next record, the versions after the parts
  pub after_fits : Fits (record_after r parts position epoch floor) d.lines (made_image r d parts) (parts_versions (contents_of r d).versions parts)
  after_fits =
      let fits : Fits (with_cp r (r.cp + length parts)) d.lines (made_image r d parts)
      (parts_versions (contents_of r d).versions parts) =
      parts_fit d.lines parts r (image_of d.words) (contents_of r d).versions (rest_fits r d begun.rest) (group_stored begun)
      begun.asked.names in
      record {
        same = fits.same;
        beyond = fits.beyond;
        begins = fits.begins;
        ends = fits.ends;
        entries = fits.entries;
        no_gap = fits.no_gap;
      }

  -- and breaks no rule
  pub after_sound : IsSound (record_after r parts position epoch floor) d.lines (made_image r d parts)
  after_sound =
      record {
        superblock = HasSuperblock-same r.layout d.lines (image_of d.words) (made_image r d parts)
            (λ word low.
            written-outside (group_pairs r parts) (image_of d.words) word
            (λ x stored.
            elim (group_behind begun word x stored) [ inl directory ↦ omega (arith, low, directory.0) | inr extents ↦ omega (arith, low, extents) ]))
            begun.rest.whole.superblock;
        entries = after_fits.entries;
        positions = λ i within counted.
            parts_made parts position (contents_of r d).versions
            (λ j version is. omega (arith, rest_made r d begun.rest j version is, begun.asked.up)) begun.asked.made i (version_in (record_after r parts position epoch floor) (made_image r d parts) i)
            (sym (after_fits.same i within) ∙ cond-true (counts (record_after r parts position epoch floor) (made_image r d parts (entry_word i 0))) _ _ counted);
      }

  pub after_below : AreBelow r.layout d.lines (made_image r d parts) ((record_after r parts position epoch floor).cp + 1)
  after_below i zero within low = omega (arith, after_fits.begins i within)
  after_below i (suc zero) within low = omega (arith, after_fits.ends i within)
  after_below i (suc (suc k)) within low = absurd (omega (arith, low))

  -- an entry at which nothing is put keeps its words, but for the end
  pub kept_word : (i k : ℕ) → i < entries_of_lines r.layout d.lines → k < 8 → k ≢ 1 → is_put_at i (puts_of_parts parts) ≡ false
      → made_image r d parts (entry_word i k) ≡ image_of d.words (entry_word i k)
  kept_word i k within below other none =
      elim (written-cases (group_pairs r parts) (image_of d.words) (entry_word i k)) [
        | inl out ↦ out.1
        | inr stored ↦
            elim (stored_by begun (entry_word i k) (made_image r d parts (entry_word i k)) stored) [
              | inl extent ↦ absurd (omega (arith, extent.of.low, within, below, (placed_at begun extent.put extent.among).above, entries_fit r.layout d.lines))
              | inr (inl entry) ↦
                  let same : entry.put.entry.0 ≡ i = omega (arith, entry.of.low, entry.of.high, below) in
                  absurd (both_ways (is_put_at i (puts_of_parts parts)) none
                  (ap (λ (n : ℕ). is_put_at n (puts_of_parts parts)) (sym same)
                  ∙ among-is_put_at entry.put (puts_of_parts parts) entry.among))
              | inr (inr end) ↦ absurd (other (omega (arith, end.word_is, below)))
            ]
      ]

  -- the entry of a put names its extent
  put_word : (put : Put) → IsAmong put (puts_of_parts parts) → IsStoredPut (group_pairs r parts) put → (k x : ℕ) → k < 8 → k ≢ 1
      → ((begin position : ℕ) → get_or (entry_words begin position put) k 0 ≡ x) → made_image r d parts (entry_word put.entry.0 k) ≡ x
  put_word put among stored k x below other value =
      written-stored (group_pairs r parts) (image_of d.words) (entry_word put.entry.0 k) x
      (subst (λ (y : ℕ). IsStored (group_pairs r parts) (entry_word put.entry.0 k) y) (value stored.stamp stored.position)
      (entry_stored (group_pairs r parts) put stored k below))
      (λ y there.
      elim (stored_by begun (entry_word put.entry.0 k) y there) [
        | inl extent ↦
            absurd (omega (
              arith,
              extent.of.low,
              (placed_at begun put among).entry,
              below,
              (placed_at begun extent.put extent.among).above,
              entries_fit r.layout d.lines,
            ))
        | inr (inl entry) ↦
            let same : entry.put.entry.0 ≡ put.entry.0 = omega (arith, entry.of.low, entry.of.high, below) in
            let is : entry.put ≡ put = among_same (puts_of_parts parts) entry.put put begun.asked.apart entry.among among same in
            let place : entry_word put.entry.0 k - entry_word entry.put.entry.0 0 ≡ k = omega (arith, same) in
            sym entry.value ∙ ap (λ (n : ℕ). get_or (entry_words entry.begin entry.position entry.put) n 0) place
            ∙ ap (λ (p : Put). get_or (entry_words entry.begin entry.position p) k 0) is ∙ value entry.begin entry.position
        | inr (inr end) ↦ absurd (other (omega (arith, end.word_is, below)))
      ])

  -- a word that matters after the parts, and that they do not store, mattered before
  mattered : (word : ℕ) → Matters (record_after r parts position epoch floor) d.lines (made_image r d parts) word → IsOutside (group_pairs r parts) word
      → Matters r d.lines (image_of d.words) word
  mattered word (inl before) out = inl before
  mattered word (inr (inl directory)) out = inr (inl directory)
  mattered word (inr (inr (i, within, counted, at))) out =
      let puts : List Put = puts_of_parts parts in
      let new : Image = made_image r d parts in
      elim (cases_Bool (is_put_at i puts)) [
        | inl put ↦
            let made = is_put_at-among i puts put in
            let stored : IsStoredPut (group_pairs r parts) made.0 = parts_stored_put (r.cp + 1) parts made.0 made.1 in
            let first : new (entry_word i 3) ≡ made.0.extent.first_line =
            ap (λ (n : ℕ). new (entry_word n 3)) made.2 ∙ put_word made.0 made.1 stored 3 made.0.extent.first_line (omega arith) (omega arith) (λ b p. refl) in
            let count : new (entry_word i 4) ≡ made.0.extent.lines =
            ap (λ (n : ℕ). new (entry_word n 4)) made.2 ∙ put_word made.0 made.1 stored 4 made.0.extent.lines (omega arith) (omega arith) (λ b p. refl) in
            let of : IsOfExtent made.0 word = record { low = omega (arith, at.low, first); high = omega (arith, at.high, first, count) } in
            let there = extent_stored (group_pairs r parts) made.0 stored word of in
            absurd (out there.0 there.1)
        | inr none ↦
            let begin = kept_word i 0 within (omega arith) (omega arith) none in
            let first = kept_word i 3 within (omega arith) (omega arith) none in
            let count = kept_word i 4 within (omega arith) (omega arith) none in
            let was : IsTrue (counts r (image_of d.words (entry_word i 0))) =
            sym (counts-later r (r.cp + length parts) (image_of d.words (entry_word i 0)) (begun.rest.whole.begins i within) (omega arith))
            ∙ sym (ap (counts (record_after r parts position epoch floor)) begin) ∙ counted in
            inr (inr (i, within, was, record { low = omega (arith, at.low, first); high = omega (arith, at.high, first, count) }))
      ]

  -- Each word that matters, before the parts or after them, is certain.
  pub stage_certain : {b : State} → Staged d b (group_pairs r parts) (parts_lines parts) → (word : ℕ)
      → Matters r d.lines (image_of d.words) word ⊎ Matters (record_after r parts position epoch floor) d.lines (made_image r d parts) word
      → Only (b.words word) (image_of b.words word)
  stage_certain staged word matters =
      staged_only (parts_covered (r.cp + 1) parts) staged word
      (λ out. begun.rest.certain word (elim matters [ inl was ↦ was | inr now ↦ mattered word now out ]))
