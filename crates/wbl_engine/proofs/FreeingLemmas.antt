-- Versions that have ended are freed.
use Rattle.std.proofs.Common.{◌≡◌, ℕ, zero, suc, ◌<◌, ◌≤◌, Bool, true, false, cond, ◌&&◌, ◌==◌, IsTrue, List, [], ◌∷◌, ◌++◌, inl, inr, Option, None, Some, map, refl, sym, ap, subst, ◌∙◌, arith}
use Rattle.std.specs.Prelude.{nat_eq}
use Rattle.std.proofs.lemmas.Bool.{cond-true, or_cases, and_parts, and_from, eqb-true, eq-eqb, both_ways}
use Rattle.kv_types.specs.declared.place.EntryNo.{EntryNo}
use Rattle.kv_types.specs.declared.place.Extent.{Extent}
use Rattle.pmem.specs.Device.{State}
use Rattle.pmem.specs.Crash.{image_of}
use Rattle.pmem.specs.Runs.{LeavesOnly, Staged, IsPartlyStored, written}
use Rattle.pmem.proofs.Leaving.{LeavesOnly-weaken}
use Rattle.model.specs.declared.image.TheConstants.{MIN_LINES}
use Rattle.model.specs.declared.record.Record.{Record}
use Rattle.model.specs.Image.{Image, IsMapOf, Version, entry_word, entries_of_lines, counts, version_at, version_in}
use Rattle.model.specs.Group.{Contents, Versions, is_ended_version, entries_of}
use Rattle.model.proofs.MapLemmas.{IsMapOf-same}
use Rattle.model.proofs.DirectoryLemmas.{entries_same}
use Rattle.model.proofs.LayoutLemmas.{entries_fit}
use Rattle.wbl_engine.specs.AtRest.{IsAtRest, Matters, contents_of}
use Rattle.wbl_engine.specs.Contents.{Same}
use Rattle.wbl_engine.specs.Erasing.{erase_pairs, erase_lines, extent_in}
use Rattle.wbl_engine.specs.Freeing.{AreEnded, KeepsMap, KeepsWithoutSome, after_free, extent_of, extents_of, is_listed, without}
use Rattle.wbl_engine.specs.Stage.{AreWithin}
use Rattle.wbl_engine.proofs.Erased.{IsSound, directory_matters, erased_keeps, erased_rest, erased_versions, rest_below, versions-beyond, versions-within, whole_below, whole_sound}
use Rattle.wbl_engine.proofs.ErasedStamps.{AreGone, IsErasing, erase_behind, erase_line, erased_below, erased_over, is_erased_at, made_free, written_stamp}
use Rattle.wbl_engine.proofs.Storing.{AgreesOn, partly_over, partly_recorded, staged_only, staged_recorded, written_over}
use Rattle.wbl_engine.proofs.WithoutLemmas.{IsMapOf-without}

-- ---- what is asked of the entries

pub ended_within : (contents : Contents) (entries : List EntryNo) (i : ℕ) → AreEnded contents entries → IsTrue (is_listed i entries)
    → (i < entries_of contents) × IsTrue (is_ended_version (contents.versions i))
ended_within contents [] i ended listed = absurd (both_ways false refl listed)
ended_within contents (entry ∷ entries) i ended listed =
    elim (or_cases (nat_eq i entry.0) (is_listed i entries) listed) [
      | inl here ↦
          let same : i ≡ entry.0 = eqb-true i entry.0 here in
          (omega (arith, same, ended.0), ap (λ (n : ℕ). is_ended_version (contents.versions n)) same ∙ ended.1)
      | inr later ↦ ended_within contents entries i ended.3 later
    ]

-- the lines of the entries are on the device
pub listed_lines : (r : Record) (d : State) (entries : List EntryNo) → MIN_LINES ≤ d.lines → AreEnded (contents_of r d) entries → AreWithin d.lines entries
listed_lines r d [] many ended = tt
listed_lines r d (entry ∷ entries) many ended = (omega (arith, ended.0, many, entries_fit r.layout d.lines), listed_lines r d entries many ended.3)

pub ended_lines : (r : Record) (d : State) (entries : List EntryNo) → IsAtRest r d → AreEnded (contents_of r d) entries → AreWithin d.lines entries
ended_lines r d entries rest ended = listed_lines r d entries rest.many ended

-- only begins are erased
pub ended_erasing : (r : Record) (d : State) (entries : List EntryNo) → AreEnded (contents_of r d) entries
    → IsErasing r d.lines (image_of d.words) entries []
ended_erasing r d entries ended = record { within = within; uncounted = λ i listed. absurd (both_ways false refl listed) }
  where
    within : (i k : ℕ) → k < 2 → IsTrue (is_erased_at entries [] i k) → i < entries_of_lines r.layout d.lines
    within i zero low listed = (ended_within (contents_of r d) entries i ended listed).0
    within i (suc k) low listed = absurd (both_ways false refl listed)

-- the extents that the entries name are those of their versions
version_extent : (r : Record) (image : Image) (begun : Bool) (i : ℕ) → IsTrue (is_ended_version (cond begun (Some (version_in r image i)) None))
    → extent_of (cond begun (Some (version_in r image i)) None) ≡ extent_in image i ∷ []
version_extent r image true i ended = refl
version_extent r image false i ended = absurd (both_ways false refl ended)

pub ended_extents : (r : Record) (d : State) (entries : List EntryNo) → AreEnded (contents_of r d) entries
    → map (λ (entry : EntryNo). extent_in (image_of d.words) entry.0) entries ≡ extents_of (contents_of r d).versions entries
ended_extents r d [] ended = refl
ended_extents r d (entry ∷ entries) ended =
    let at : (contents_of r d).versions entry.0 ≡ version_at r (image_of d.words) entry.0 = versions-within r d entry.0 ended.0 in
    let one : extent_of ((contents_of r d).versions entry.0) ≡ extent_in (image_of d.words) entry.0 ∷ [] =
    ap extent_of at
    ∙ version_extent r (image_of d.words) (counts r (image_of d.words (entry_word entry.0 0))) entry.0
    (subst (λ (v : Option Version). IsTrue (is_ended_version v)) at ended.1) in
    ap (λ (rest : List Extent). extent_in (image_of d.words) entry.0 ∷ rest) (ended_extents r d entries ended.3)
    ∙ ap (λ (first : List Extent). first ++ extents_of (contents_of r d).versions entries) (sym one)

-- ---- once they are freed

pub listed_gone : (r : Record) (d : State) (entries : List EntryNo) (image : Image)
    → AgreesOn (Matters r d.lines (image_of d.words)) (written (erase_pairs entries []) (image_of d.words)) image
    → AreGone r d.lines (image_of d.words) entries (λ i. is_listed i entries) image
listed_gone r d entries image made =
    record {
      zero_is = λ i within listed.
          made (entry_word i 0) (directory_matters r d.lines (image_of d.words) i 0 within (omega arith))
          ∙ written_stamp entries [] (image_of d.words) i 0 (omega arith)
          ∙ cond-true (is_listed i entries) 0 (image_of d.words (entry_word i 0)) listed;
      erased = λ i listed zeroed unlisted. absurd (both_ways (is_listed i entries) unlisted listed);
    }

module _ (r : Record) (d : State) (entries : List EntryNo) (rest : IsAtRest r d) (ended : AreEnded (contents_of r d) entries) where
  sound : IsSound r d.lines (image_of d.words)
  sound = whole_sound rest.whole

  -- The contents lack the versions of the entries.
  pub freed_same : (b : State) → ((word : ℕ) → image_of b.words word ≡ written (erase_pairs entries []) (image_of d.words) word) → b.lines ≡ d.lines
      → Same (after_free entries (contents_of r d)) (contents_of r b)
  freed_same b newest lines =
      let over = written_over (Matters r d.lines (image_of d.words)) (image_of d.words) (image_of b.words) (erase_pairs entries []) (λ word matters. newest word) in
      record {
        current = refl;
        lines = lines;
        versions = erased_versions b (after_free entries (contents_of r d)).versions sound
            (erased_over sound (ended_erasing r d entries ended) (λ i. is_listed i entries) (image_of b.words) over
            (listed_gone r d entries (image_of b.words) (λ word matters. newest word))) lines
            (λ i within. ap (λ (v : Option Version). cond (is_listed i entries) None v) (sym (versions-within r d i within)))
            (λ i beyond. none_anyway (is_listed i entries) (versions-beyond r d i beyond));
        is_free = made_free d b (ended_erasing r d entries ended) (λ word matters. newest word) lines;
      }
    where
      none_anyway : {X : Type 0} {x : Option X} (b : Bool) → x ≡ None → cond b None x ≡ None
      none_anyway true e = refl
      none_anyway false e = e

  pub freed_rest : (b : State) → Staged d b (erase_pairs entries []) (erase_lines entries []) → IsAtRest r b
  freed_rest b staged =
      let over =
      written_over (Matters r d.lines (image_of d.words)) (image_of d.words) (image_of b.words) (erase_pairs entries []) (λ word matters. staged.newest word) in
      erased_rest rest.many rest.few sound
      (erased_over sound (ended_erasing r d entries ended) (λ i. is_listed i entries) (image_of b.words) over
      (listed_gone r d entries (image_of b.words) (λ word matters. staged.newest word)))
      rest.lawful (omega arith) (erased_below sound (ended_erasing r d entries ended) (image_of b.words) over (whole_below rest.whole)) staged.stays.lines
      (staged_recorded rest.many (erase_behind (ended_erasing r d entries ended)) staged rest.recorded)
      (λ word matters. staged_only (erase_line entries []) staged word (λ out. rest.certain word matters))

  -- ---- at each crash

  -- some of the begins are erased
  freed_partly : (image : Image) → IsPartlyStored (erase_pairs entries []) d.words image → KeepsWithoutSome entries (contents_of r d) image
  freed_partly image partly =
      let gone : ℕ → Bool = λ i. is_listed i entries && (image (entry_word i 0) == 0) in
      let over = partly_over (Matters r d.lines (image_of d.words)) d image (erase_pairs entries []) rest.certain partly in
      let are : AreGone r d.lines (image_of d.words) entries gone image =
      record {
        zero_is = λ i within is. eqb-true (image (entry_word i 0)) 0 (and_parts (is_listed i entries) (image (entry_word i 0) == 0) is).1;
        erased = λ i listed zeroed left.
            absurd (both_ways (gone i) left
            (and_from (is_listed i entries) (image (entry_word i 0) == 0) listed (eq-eqb (image (entry_word i 0)) 0 zeroed)));
      } in (
        gone,
        λ i is. (and_parts (is_listed i entries) (image (entry_word i 0) == 0) is).0,
        erased_keeps (without gone (contents_of r d)) sound (erased_over sound (ended_erasing r d entries ended) gone image over are) (omega arith)
            (erased_below sound (ended_erasing r d entries ended) image over (rest_below rest))
            (λ i within. ap (λ (v : Option Version). cond (gone i) None v) (sym (versions-within r d i within)))
            (partly_recorded d image (erase_pairs entries []) rest.many (erase_behind (ended_erasing r d entries ended)) rest.recorded partly),
      )

  pub freed_moments : (b : State) → LeavesOnly d b (IsPartlyStored (erase_pairs entries []) d.words) → LeavesOnly d b (KeepsWithoutSome entries (contents_of r d))
  freed_moments b moments = LeavesOnly-weaken (KeepsWithoutSome entries (contents_of r d)) freed_partly moments

-- ---- the map

-- Freeing what has ended leaves the map.
pub freed_map : (old new : Contents) (entries : List EntryNo) → AreEnded old entries → Same (after_free entries old) new → KeepsMap old new
freed_map old new entries ended same s map =
    let left : Versions = (after_free entries old).versions in
    subst (λ (n : ℕ). IsMapOf new.versions n s) (sym (entries_same old new (ap (λ (r : Record). r.layout) same.current) same.lines))
    (IsMapOf-same left new.versions (entries_of old) s (λ i within. sym (same.versions i))
    (IsMapOf-without (λ i. is_listed i entries) old.versions (entries_of old) s
    (λ i listed. (ended_within old entries i ended listed).1) map))
