-- What the versions that are read say of the entries of the image.
use Rattle.std.proofs.Common.{◌≡◌, ℕ, zero, suc, ◌+◌, ◌/◌, ◌<◌, List, [], ◌∷◌, ◌++◌, map, All, Bool, true, false, not, inl, inr, refl, sym, ap, ap₂, ◌∙◌, subst, arith, true≢false, add-one}
use Rattle.std.specs.Prelude.{if◌then◌else◌, ◌&&◌, ◌==◌}
use Rattle.std.proofs.lemmas.Bool.{ne_eqb, eqb-false, cond_both, cases_lt}
use Rattle.std.proofs.lemmas.List.{map-append}
use Rattle.std.proofs.lemmas.List.Elements.{filter-append}
use Rattle.kv_types.specs.declared.place.EntryNo.{EntryNo}
use Rattle.kv_types.specs.declared.place.Extent.{Extent}
use Rattle.kv_types.specs.declared.record_id.RecordId.{RecordId}
use Rattle.model.specs.declared.record.Record.{Record}
use Rattle.model.specs.declared.record.Role.TheVariants.{Newcomer}
use Rattle.model.specs.Image.{Image, counts, entries_of_lines, entry_word, entry_bytes, lines_of_bytes}
use Rattle.model.specs.ReadImage.{is_clash, record_in}
use Rattle.heap_layout.specs.declared.entry.Entry.{Entry}
use Rattle.heap_layout.specs.Versions.{is_counted, is_live, AreVersions, AreUnder, NoTwo, overlap, runs_of, live_in, live_ids, counted_entry, counted_at, counted_below, gapped_at, gapped_below}
use Rattle.heap_layout.proofs.Clashes.{overlap-flips, not_overlap, apart_from_overlap, is_clash-flips}
use Rattle.heap_layout.proofs.Picked.{picked, All-picked, NoTwo-picked, picked-NoTwo}

-- the run of entry i, and its record
abbrev run_in : Image → ℕ → Extent
run_in image i = record { first_line = image (entry_word i 3); lines = image (entry_word i 4) }

abbrev id_in : Image → ℕ → RecordId
id_in image i = (record_in image i).0

-- a stamp that counts is not 0
counts-positive : (r : Record) (stamp : ℕ) → counts r stamp ≡ true → (stamp == 0) ≡ false
counts-positive r zero e = absurd (true≢false (sym e))
counts-positive r (suc n) e = ne_eqb (suc n) 0 (λ same. omega (arith, same))

abbrev id_of : EntryNo × Entry → RecordId
id_of version = version.1.id

abbrev ended_at_0 : EntryNo × Entry → Bool
ended_at_0 version = version.1.end == 0

lines-positive : (bytes : ℕ) → 0 < lines_of_bytes bytes
lines-positive bytes =
    cond_both (bytes == 0) 1 ((bytes + 63) / 64) (λ n. 0 < n) (λ _. omega arith) (λ some. omega (arith, eqb-false bytes 0 some))

-- two lists make an empty one only where both are empty
both_empty : {X : Type 0} (xs ys : List X) → xs ++ ys ≡ [] → (xs ≡ []) × (ys ≡ [])
both_empty [] ys e = (refl, e)
both_empty (x ∷ xs) ys e = cc

module _ (r : Record) (image : Image) where
  -- none is read just where no begin counts
  abbrev read_if : ℕ → Bool → List (EntryNo × Entry)
  read_if i b = if b then (record { 0 = i }, counted_entry r image i) ∷ [] else []

  uncounted_at : (i : ℕ) (b : Bool) → read_if i b ≡ [] → b ≡ false
  uncounted_at i true e = cc
  uncounted_at i false e = refl

  uncounted_below : (n : ℕ) → counted_below r image n ≡ [] → (i : ℕ) → i < n → is_counted r image i ≡ false
  uncounted_below zero none i below = absurd (omega (arith, below))
  uncounted_below (suc n) none i below =
      let empty = both_empty (counted_below r image n) (counted_at r image n) none in
      elim (cases_lt i n) [
        | inl lower ↦ uncounted_below n empty.0 i lower
        | inr last ↦
            let same : n ≡ i = omega (arith, last, below) in
            subst (λ (k : ℕ). is_counted r image k ≡ false) same (uncounted_at n (is_counted r image n) empty.1)
      ]

  none_counted : (n : ℕ) → ((i : ℕ) → i < n → is_counted r image i ≡ false) → counted_below r image n ≡ []
  none_counted zero none = refl
  none_counted (suc n) none =
      ap₂ (λ (xs ys : List (EntryNo × Entry)). xs ++ ys) (none_counted n (λ i below. none i (omega (arith, below))))
      (ap (read_if n) (none n (omega arith)))

  runs_at : (i : ℕ) (b : Bool) → runs_of (if b then (record { 0 = i }, counted_entry r image i) ∷ [] else []) ≡ (if b then run_in image i ∷ [] else [])
  runs_at i true = refl
  runs_at i false = refl

  -- the runs of what is read are those of the entries that count
  runs_of-counted : (n : ℕ) → runs_of (counted_below r image n) ≡ picked (is_counted r image) (run_in image) n
  runs_of-counted zero = refl
  runs_of-counted (suc n) =
      map-append (λ (version : EntryNo × Entry). version.1.extent) (counted_below r image n) (counted_at r image n)
      ∙ ap₂ (λ (xs ys : List Extent). xs ++ ys) (runs_of-counted n) (runs_at n (is_counted r image n))

  -- the end of entry i, given as 0 where it does not count, is 0 just where it does not count
  end_at : (end : ℕ) (b : Bool) → counts r end ≡ b → ((if b then end else 0) == 0) ≡ not b
  end_at end true e = counts-positive r end e
  end_at end false e = refl

  live_if : (i : ℕ) (b c : Bool) → (counted_entry r image i).end == 0 ≡ c
      → live_ids (if b then (record { 0 = i }, counted_entry r image i) ∷ [] else []) ≡ (if b && c then id_in image i ∷ [] else [])
  live_if i true true e =
      ap (λ t. map id_of (if t then (record { 0 = i }, counted_entry r image i) ∷ [] else [])) e
  live_if i true false e =
      ap (λ t. map id_of (if t then (record { 0 = i }, counted_entry r image i) ∷ [] else [])) e
  live_if i false c e = refl

  -- the records of the live ones are those of the entries that are live
  live_ids-counted : (n : ℕ) → live_ids (counted_below r image n) ≡ picked (is_live r image) (id_in image) n
  live_ids-counted zero = refl
  live_ids-counted (suc n) =
      let end = image (entry_word n 1) in
      ap (map id_of) (filter-append ended_at_0 (counted_below r image n) (counted_at r image n))
      ∙ map-append id_of (live_in (counted_below r image n)) (live_in (counted_at r image n))
      ∙ ap₂ (λ (xs ys : List RecordId). xs ++ ys) (live_ids-counted n) (live_if n (is_counted r image n) (not (counts r end)) (end_at end (counts r end) refl))

  pub counted_below-more : (i : ℕ) → counted_below r image (i + 1) ≡ counted_below r image i ++ counted_at r image i
  counted_below-more i = ap (counted_below r image) (add-one i)

  pub gapped_below-more : (i : ℕ) → gapped_below r image (i + 1) ≡ gapped_below r image i ++ gapped_at r image i
  gapped_below-more i = ap (gapped_below r image) (add-one i)

  module _ (lines : ℕ) where
    -- each run has a line
    pub runs_have_lines : (n : ℕ) → AreUnder r lines image n → All (λ run. 0 < run.lines) (runs_of (counted_below r image n))
    runs_have_lines n under =
        subst (All (λ run. 0 < run.lines)) (sym (runs_of-counted n))
        (All-picked (is_counted r image) (run_in image) (λ run. 0 < run.lines) n
        (λ i below counted. omega (arith, ((under i below).whole counted).lines_are, lines-positive (entry_bytes image i))))

    pub runs-AreVersions : AreVersions r lines image → NoTwo overlap (runs_of (counted_below r image (entries_of_lines r.layout lines)))
    runs-AreVersions whole =
        let n = entries_of_lines r.layout lines in
        subst (NoTwo overlap) (sym (runs_of-counted n))
        (NoTwo-picked (is_counted r image) (run_in image) overlap n
        (λ i j below below' other p q. not_overlap (run_in image i) (run_in image j) (whole.apart i j below below' other p q)))

    pub ids-AreVersions : AreVersions r lines image → NoTwo is_clash (live_ids (counted_below r image (entries_of_lines r.layout lines)))
    ids-AreVersions whole =
        let n = entries_of_lines r.layout lines in
        subst (NoTwo is_clash) (sym (live_ids-counted n)) (NoTwo-picked (is_live r image) (id_in image) is_clash n whole.distinct)

    pub none-AreVersions : AreVersions r lines image → r.role ≡ Newcomer → counted_below r image (entries_of_lines r.layout lines) ≡ []
    none-AreVersions whole newcomer = none_counted (entries_of_lines r.layout lines) (whole.uncopied newcomer)

    pub AreVersions-from_lists : AreUnder r lines image (entries_of_lines r.layout lines)
        → (r.role ≡ Newcomer → counted_below r image (entries_of_lines r.layout lines) ≡ [])
        → NoTwo overlap (runs_of (counted_below r image (entries_of_lines r.layout lines)))
        → NoTwo is_clash (live_ids (counted_below r image (entries_of_lines r.layout lines))) → AreVersions r lines image
    AreVersions-from_lists under none runs ids =
        let n = entries_of_lines r.layout lines in
        let apart = picked-NoTwo (is_counted r image) (run_in image) overlap overlap-flips n (subst (NoTwo overlap) (runs_of-counted n) runs) in
        record {
          entries = under;
          apart = λ i j below below' other p q. apart_from_overlap (run_in image i) (run_in image j) (apart i j below below' other p q);
          distinct = picked-NoTwo (is_live r image) (id_in image) is_clash is_clash-flips n (subst (NoTwo is_clash) (live_ids-counted n) ids);
          uncopied = λ newcomer. uncounted_below n (none newcomer);
        }
