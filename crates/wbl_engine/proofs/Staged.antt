-- What parts store before the record changes no version under the old record, whatever part of it a crash leaves.
use Rattle.std.proofs.Common.{◌≡◌, ℕ, zero, suc, ◌+◌, ◌-◌, ◌<◌, ◌≤◌, false, true, not, ◌||◌, ◌==◌, IsTrue, List, ◌⊎◌, inl, inr, Some, length, get_or, refl, sym, ap, subst, ◌∙◌, arith}
use Rattle.std.specs.Prelude.{nat_lt}
use Rattle.std.specs.List.{AllByRecursion}
use Rattle.std.proofs.lemmas.Bool.{and_parts, both_ways, cases_Bool, cases_lt, cond-true, eqb-true, ltb-true, not-true, or_cases}
use Rattle.pmem.specs.Device.{State}
use Rattle.pmem.specs.Crash.{image_of}
use Rattle.pmem.specs.Runs.{IsStored}
use Rattle.model.specs.declared.record.Record.{Record}
use Rattle.model.specs.declared.group.Part.{Part}
use Rattle.model.specs.declared.group.Put.{Put}
use Rattle.model.specs.Image.{Image, Version, entry_word, entries_of_lines, version_in, counts}
use Rattle.model.specs.Group.{IsPlaced, IsUnused, is_put_at, is_live_version}
use Rattle.heap_layout.specs.Put.{entry_words}
use Rattle.model.proofs.LayoutLemmas.{entries_fit}
use Rattle.wbl_engine.specs.AtRest.{contents_of, IsAtRest, Matters}
use Rattle.wbl_engine.specs.Committing.{AreCommittable}
use Rattle.wbl_engine.specs.Stage.{IsWritable, puts_of_parts, parts_pairs}
use Rattle.wbl_engine.proofs.CountLemmas.{counts-above, counts-below, no_gap_above}
use Rattle.wbl_engine.proofs.Erased.{AreBelow, IsErased, IsHarmless, directory_matters, nothing, stored_erased, versions-beyond, versions-within, whole_sound}
use Rattle.wbl_engine.proofs.GroupSteps.{all-from}
use Rattle.wbl_engine.proofs.PartEffects.{IsAmong, is_put_at-among}
use Rattle.wbl_engine.proofs.PartSteps.{Fits, IsReady, AreStored, within_directory, begun_version}
use Rattle.wbl_engine.proofs.PositionLemmas.{AreMadeUpTo}
use Rattle.wbl_engine.proofs.PutPairs.{among-all}
use Rattle.wbl_engine.proofs.StoredBy.{IsStoredBy, parts_by}
use Rattle.wbl_engine.proofs.Storing.{AreBehind, IsStoredOver}

-- ---- at rest

-- the image has exactly these versions
pub rest_fits : (r : Record) (d : State) → IsAtRest r d → Fits r d.lines (image_of d.words) (contents_of r d).versions
rest_fits r d rest =
    record {
      same = λ i within. sym (versions-within r d i within);
      beyond = versions-beyond r d;
      begins = rest.whole.begins;
      ends = rest.whole.ends;
      entries = rest.whole.entries;
      no_gap = no_gap_above 0 r.gaps.items r.cp rest.lawful.gaps;
    }

-- each was made at a position that the record has
pub rest_made : (r : Record) (d : State) → IsAtRest r d → AreMadeUpTo r.position (contents_of r d).versions
rest_made r d rest i version is =
    let fits : Fits r d.lines (image_of d.words) (contents_of r d).versions = rest_fits r d rest in
    let within : i < entries_of_lines r.layout d.lines = within_directory fits i version is in
    let begun = begun_version fits i version within is in
    omega (arith, ap (λ (v : Version). v.position) begun.1, rest.whole.positions i within begun.0)

-- a free entry's begin is 0
free_begin : (r : Record) (d : State) → IsAtRest r d → (i : ℕ) → IsTrue ((contents_of r d).is_free i) → image_of d.words (entry_word i 0) ≡ 0
free_begin r d rest i free =
    let begin : ℕ = image_of d.words (entry_word i 0) in
    let parts = and_parts (nat_lt i (entries_of_lines r.layout d.lines)) (begin == 0 || nat_lt r.cp begin) free in
    elim (or_cases (begin == 0) (nat_lt r.cp begin) parts.1) [
      | inl none ↦ eqb-true begin 0 none
      | inr above ↦
          absurd (omega (arith, ltb-true r.cp begin above, rest.whole.begins i (ltb-true i (entries_of_lines r.layout d.lines) parts.0)))
    ]

-- what is live, or is put, is of the directory
pub live_within : (r : Record) (d : State) (parts : List Part)
    → AllByRecursion (IsPlaced (entries_of_lines r.layout d.lines) d.lines) (puts_of_parts parts) → (i : ℕ)
    → IsTrue (is_live_version ((contents_of r d).versions i) || is_put_at i (puts_of_parts parts)) → i < entries_of_lines r.layout d.lines
live_within r d parts placed i live =
    elim (or_cases (is_live_version ((contents_of r d).versions i)) (is_put_at i (puts_of_parts parts)) live) [
      | inl now ↦
          elim (cases_lt i (entries_of_lines r.layout d.lines)) [
            | inl below ↦ below
            | inr beyond ↦
                absurd (both_ways (is_live_version ((contents_of r d).versions i)) (ap is_live_version (versions-beyond r d i beyond)) now)
          ]
      | inr put ↦
          let at = is_put_at-among i (puts_of_parts parts) put in
          omega (arith, at.2, (among-all (IsPlaced (entries_of_lines r.layout d.lines) d.lines) (puts_of_parts parts) at.0 at.1 placed).entry)
    ]

-- ---- parts that are being committed, under a record of this position and this epoch

pub record IsCommitting (r : Record) (d : State) (parts : List Part) (position epoch floor : ℕ) : Type 0 where
  pub rest : IsAtRest r d
  pub asked : AreCommittable (contents_of r d) parts position
  pub writable : AllByRecursion IsWritable (puts_of_parts parts)

-- what they store
abbrev pub group_pairs : Record → List Part → List (ℕ × ℕ)
group_pairs r parts = parts_pairs (r.cp + 1) parts

-- a put stores this at word k of entry i, which was free
pub record PutsAt (r : Record) (d : State) (parts : List Part) (i k x : ℕ) : Type 0 where
  pub free : image_of d.words (entry_word i 0) ≡ 0
  pub begin : k ≡ 0 → (r.cp < x) × (x ≤ r.cp + length parts)
  pub end : k ≡ 1 → x ≡ 0

-- or it is the end of what was live
pub record EndsAt (r : Record) (d : State) (parts : List Part) (i k x : ℕ) : Type 0 where
  pub only_end : k ≡ 1
  pub low : r.cp < x
  pub high : x ≤ r.cp + length parts
  pub live : IsTrue (is_live_version ((contents_of r d).versions i) || is_put_at i (puts_of_parts parts))

module _ {r : Record} {d : State} {parts : List Part} {position epoch floor : ℕ} (begun : IsCommitting r d parts position epoch floor) where
  -- its puts may be stored
  pub group_stored : AreStored (entries_of_lines r.layout d.lines) d.lines (contents_of r d).versions (image_of d.words) (puts_of_parts parts)
  group_stored =
      record {
        placed = begun.asked.placed;
        fitting = begun.asked.fitting;
        writable = begun.writable;
        ready = all-from (IsReady (contents_of r d).versions (image_of d.words)) (puts_of_parts parts)
            (λ put among.
            let unused = among-all (IsUnused (contents_of r d).versions (contents_of r d).is_free) (puts_of_parts parts) put among begun.asked.unused in
            record { free = free_begin r d begun.rest put.entry.0 unused.entry; lines = unused.lines });
        apart = begun.asked.apart;
      }

  pub placed_at : (put : Put) → IsAmong put (puts_of_parts parts) → IsPlaced (entries_of_lines r.layout d.lines) d.lines put
  placed_at put among = among-all (IsPlaced (entries_of_lines r.layout d.lines) d.lines) (puts_of_parts parts) put among begun.asked.placed

  ready_at : (put : Put) → IsAmong put (puts_of_parts parts) → IsReady (contents_of r d).versions (image_of d.words) put
  ready_at put among =
      among-all (IsReady (contents_of r d).versions (image_of d.words)) (puts_of_parts parts) put among group_stored.ready

  pub stored_by : (word x : ℕ) → IsStored (group_pairs r parts) word x
      → IsStoredBy (contents_of r d).versions (r.cp + 1) (length parts) (puts_of_parts parts) word x
  stored_by word x stored = parts_by parts (contents_of r d).versions (r.cp + 1) word x begun.asked.names stored

  pub group_behind : AreBehind r.layout d.lines (group_pairs r parts)
  group_behind word x stored =
      elim (stored_by word x stored) [
        | inl extent ↦ inr (omega (arith, extent.of.low, (placed_at extent.put extent.among).above))
        | inr (inl entry) ↦ inl (omega (arith, entry.of.low), omega (arith, entry.of.high, (placed_at entry.put entry.among).entry))
        | inr (inr end) ↦
            let within = live_within r d parts begun.asked.placed end.entry end.live in
            inl (omega (arith, end.word_is), omega (arith, end.word_is, within))
      ]

  pub stored_at : (i k x : ℕ) → i < entries_of_lines r.layout d.lines → k < 8 → IsStored (group_pairs r parts) (entry_word i k) x
      → PutsAt r d parts i k x ⊎ EndsAt r d parts i k x
  stored_at i k x within below stored =
      elim (stored_by (entry_word i k) x stored) [
        | inl extent ↦ absurd (omega (arith, extent.of.low, within, below, (placed_at extent.put extent.among).above, entries_fit r.layout d.lines))
        | inr (inl entry) ↦
            let same : entry.put.entry.0 ≡ i = omega (arith, entry.of.low, entry.of.high, below) in
            let place : entry_word i k - entry_word entry.put.entry.0 0 ≡ k = omega (arith, same) in
            let value : get_or (entry_words entry.begin entry.position entry.put) k 0 ≡ x =
            ap (λ (n : ℕ). get_or (entry_words entry.begin entry.position entry.put) n 0) (sym place) ∙ entry.value in
            inl (record {
              free = ap (λ (n : ℕ). image_of d.words (entry_word n 0)) (sym same) ∙ (ready_at entry.put entry.among).free;
              begin = λ zeroth.
                  let is : entry.begin ≡ x = ap (λ (n : ℕ). get_or (entry_words entry.begin entry.position entry.put) n 0) (sym zeroth) ∙ value in
                  (omega (arith, is, entry.low), omega (arith, is, entry.high));
              end = λ first. sym (ap (λ (n : ℕ). get_or (entry_words entry.begin entry.position entry.put) n 0) (sym first) ∙ value);
            })
        | inr (inr end) ↦
            let same : end.entry ≡ i = omega (arith, end.word_is, below) in
            inr (record {
              only_end = omega (arith, end.word_is, below);
              low = omega (arith, end.low);
              high = omega (arith, end.high);
              live = subst (λ (n : ℕ). IsTrue (is_live_version ((contents_of r d).versions n) || is_put_at n (puts_of_parts parts))) same end.live;
            })
      ]

  -- a begun entry is not that of a put
  begun_no_put : (i : ℕ) → IsTrue (counts r (image_of d.words (entry_word i 0))) → is_put_at i (puts_of_parts parts) ≡ false
  begun_no_put i counted =
      elim (cases_Bool (is_put_at i (puts_of_parts parts))) [
        | inl put ↦
            let at = is_put_at-among i (puts_of_parts parts) put in
            let free : image_of d.words (entry_word i 0) ≡ 0 = ap (λ (n : ℕ). image_of d.words (entry_word n 0)) at.2 ∙ (ready_at at.0 at.1).free in
            absurd (omega (arith, free, (counts-below r (image_of d.words (entry_word i 0)) counted).0))
        | inr none ↦ none
      ]

  version_begun : (i : ℕ) → i < entries_of_lines r.layout d.lines → IsTrue (counts r (image_of d.words (entry_word i 0)))
      → (contents_of r d).versions i ≡ Some (version_in r (image_of d.words) i)
  version_begun i within counted = versions-within r d i within ∙ cond-true (counts r (image_of d.words (entry_word i 0))) _ _ counted

  -- a new end does not count yet, and nothing else of a begun entry is touched
  pub harmless : IsHarmless r d.lines (image_of d.words) (group_pairs r parts)
  harmless =
      record {
        behind = group_behind;
        end = λ i x within counted stored.
            elim (stored_at i 1 x within (omega arith) stored) [
              | inl put ↦ absurd (omega (arith, put.free, (counts-below r (image_of d.words (entry_word i 0)) counted).0))
              | inr end ↦
                  let live : not (counts r (image_of d.words (entry_word i 1))) ≡ true =
                  elim (or_cases (is_live_version ((contents_of r d).versions i)) (is_put_at i (puts_of_parts parts)) end.live) [
                    | inl now ↦ sym (ap is_live_version (version_begun i within counted)) ∙ now
                    | inr put ↦ absurd (both_ways (is_put_at i (puts_of_parts parts)) (begun_no_put i counted) put)
                  ] in
                  counts-above r x end.low ∙ sym (not-true (counts r (image_of d.words (entry_word i 1))) live)
            ];
        words = λ i k x within counted low below stored.
            elim (stored_at i k x within below stored) [
              | inl put ↦ omega (arith, put.free, (counts-below r (image_of d.words (entry_word i 0)) counted).0)
              | inr end ↦ omega (arith, low, end.only_end)
            ];
        extents = λ i word x within counted at stored.
            let place = begun.rest.whole.entries i within counted in
            elim (stored_by word x stored) [
              | inl extent ↦
                  elim ((ready_at extent.put extent.among).lines i (version_in r (image_of d.words) i) (version_begun i within counted)) [
                    | inl first ↦ omega (arith, first, extent.of.high, at.low)
                    | inr second ↦ omega (arith, second, extent.of.low, at.high)
                  ]
              | inr (inl entry) ↦ omega (arith, entry.of.high, at.low, place.above, (placed_at entry.put entry.among).entry, entries_fit r.layout d.lines)
              | inr (inr end) ↦ omega (
                arith,
                end.word_is,
                at.low,
                place.above,
                live_within r d parts begun.asked.placed end.entry end.live,
                entries_fit r.layout d.lines,
              )
            ];
      }

  -- ---- an image of which each word that matters is as before or as the parts store it

  -- the begin of an entry is as before, or that of a put at a free entry
  pub group_begin : (image : Image) → IsStoredOver (Matters r d.lines (image_of d.words)) (image_of d.words) (group_pairs r parts) image
      → (i : ℕ) → i < entries_of_lines r.layout d.lines → (image (entry_word i 0) ≡ image_of d.words (entry_word i 0))
      ⊎ ((image_of d.words (entry_word i 0) ≡ 0) × (r.cp < image (entry_word i 0)) × (image (entry_word i 0) ≤ r.cp + length parts))
  group_begin image over i within =
      elim (over (entry_word i 0) (directory_matters r d.lines (image_of d.words) i 0 within (omega arith))) [
        | inl same ↦ inl same
        | inr stored ↦
            elim (stored_at i 0 (image (entry_word i 0)) within (omega arith) stored) [
              | inl put ↦ inr (put.free, (put.begin refl).0, (put.begin refl).1)
              | inr end ↦ absurd (omega (arith, end.only_end))
            ]
      ]

  -- nothing is lost
  pub group_erased : (image : Image) → IsStoredOver (Matters r d.lines (image_of d.words)) (image_of d.words) (group_pairs r parts) image
      → IsErased r r d.lines nothing (image_of d.words) image
  group_erased image over =
      stored_erased nothing (whole_sound begun.rest.whole) harmless over
      (λ i within.
      elim (group_begin image over i within) [
        | inl same ↦ ap (counts r) same
        | inr put ↦ counts-above r (image (entry_word i 0)) put.1 ∙ sym (ap (counts r) put.0)
      ])

  -- and the stamps that were stored are new ones
  pub group_below : (image : Image) → IsStoredOver (Matters r d.lines (image_of d.words)) (image_of d.words) (group_pairs r parts) image
      → AreBelow r.layout d.lines image (r.cp + length parts + 1)
  group_below image over i zero within low =
      elim (group_begin image over i within) [ inl same ↦ omega (arith, same, begun.rest.whole.begins i within) | inr put ↦ omega (arith, put.2) ]
  group_below image over i (suc zero) within low =
      elim (over (entry_word i 1) (directory_matters r d.lines (image_of d.words) i 1 within (omega arith))) [
        | inl same ↦ omega (arith, same, begun.rest.whole.ends i within)
        | inr stored ↦
            elim (stored_at i 1 (image (entry_word i 1)) within (omega arith) stored) [
              | inl put ↦ omega (arith, put.end refl)
              | inr end ↦ omega (arith, end.high)
            ]
      ]
  group_below image over i (suc (suc k)) within low = absurd (omega (arith, low))
