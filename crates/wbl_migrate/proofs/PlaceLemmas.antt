-- A place that is open is taken by no version, and what stands where a version went there.
use Rattle.std.proofs.Common.{◌≡◌, ◌≢◌, ◌+◌, ◌<◌, ◌≤◌, inl, inr, ℕ, zero, suc, true, not, IsTrue, nat_eq, nat_le, List, [], ◌∷◌, set, Option, None, Some, refl, sym, ap, ap₂, subst, ◌∙◌, arith, eq-eqb}
use Rattle.std.specs.List.{slice_get}
use Rattle.std.proofs.lemmas.Bool.{and_parts, both_ways, cases_eq, not-true, or_cases}
use Rattle.std.proofs.lemmas.Bool.Decides.{nat_tests}
use Rattle.std.proofs.lemmas.Option.{slice_get_within}
use Rattle.kv_types.specs.declared.place.EntryNo.{EntryNo}
use Rattle.kv_types.specs.declared.place.Extent.{Extent}
use Rattle.heap_layout.specs.declared.entry.Entry.{Entry}
use Rattle.model.specs.declared.layout.Layout.{Layout}
use Rattle.model.specs.declared.layout.Layout.TheVariants.{Version1, Version2, Halfway}
use Rattle.model.specs.Group.{AreApart, Contents}
use Rattle.model.specs.Image.{Version, entries_of_lines}
use Rattle.model.proofs.DirectoryLemmas.{entries_same}
use Rattle.wbl_migrate.specs.declared.moving.Place.{Place}
use Rattle.wbl_migrate.specs.Moving.{AreFreeBut, IsOpen, IsReadOnce, are_apart, are_two, entries_kept, is_clear, place_at, place_read, version_read}
use Rattle.wbl_migrate.proofs.Picks.{none_some, pick-set_other, pick-set_same, picked}

-- ---- a place that is clear of all

clear_at : (place : Place) (places : List Place) (k : ℕ) (other : Place) → IsTrue (is_clear place places) → slice_get places k ≡ Some other
    → IsTrue (are_two place other)
clear_at place [] k other clear at = absurd (none_some at)
clear_at place (first ∷ places) zero other clear at =
    subst (λ (o : Place). IsTrue (are_two place o)) (picked at) (and_parts (are_two place first) (is_clear place places) clear).0
clear_at place (first ∷ places) (suc k) other clear at = clear_at place places k other (and_parts (are_two place first) (is_clear place places) clear).1 at

apart_from : (a b : Extent) → IsTrue (are_apart a b) → AreApart a.first_line a.lines b.first_line b.lines
apart_from a b apart = elim (or_cases (nat_le (a.first_line + a.lines) b.first_line) (nat_le (b.first_line + b.lines) a.first_line) apart) [
  | inl below ↦ inl (grind (arith, nat_tests, below))
  | inr above ↦ inr (grind (arith, nat_tests, above))
]

-- a place that is open is so by other names
pub open_as : (lines lines' : ℕ) (places places' : List Place) (gapped gapped' cleared : List EntryNo) (place : Place) → lines ≡ lines' → places ≡ places'
    → gapped ≡ gapped' → IsOpen lines places gapped cleared place → IsOpen lines' places' gapped' cleared place
open_as lines lines' places places' gapped gapped' cleared place lines_is places_is gapped_is opens =
    subst (λ (n : ℕ). IsOpen n places' gapped' cleared place) lines_is
    (subst (λ (ps : List Place). IsOpen lines ps gapped' cleared place) places_is
    (subst (λ (es : List EntryNo). IsOpen lines places es cleared place) gapped_is opens))

-- an entry that version 2 keeps is in the directory
pub kept_within : (layout : Layout) (lines n : ℕ) → n < entries_kept lines → n < entries_of_lines layout lines
kept_within Version1 lines n lt = omega (arith, lt)
kept_within Version2 lines n lt = lt
kept_within Halfway lines n lt = lt

-- Each version lies in one of the places, and an entry without one is free.
pub record HasPlaces (contents : Contents) (gapped cleared : List EntryNo) (places : List Place) : Type 0 where
  pub lie : (i : ℕ) (version : Version) → contents.versions i ≡ Some version → (k : ℕ) × (slice_get places k ≡ Some (place_at i version))
  pub free : AreFreeBut contents gapped cleared

module _ {a : Contents} {gapped cleared : List EntryNo} {places : List Place} {place : Place} (has : HasPlaces a gapped cleared places)
    (opens : IsOpen a.lines places gapped cleared place) where
  two_at : (i : ℕ) (version : Version) → a.versions i ≡ Some version → IsTrue (are_two place (place_at i version))
  two_at i version is = let at = has.lie i version is in clear_at place places at.0 (place_at i version) opens.clear at.1

  -- no version has its entry
  pub open_none : a.versions place.entry.0 ≡ None
  open_none = none (a.versions place.entry.0) refl
    where
      none : (o : Option Version) → a.versions place.entry.0 ≡ o → o ≡ None
      none None is = refl
      none (Some version) is =
          let entry = place.entry.0 in
          let differ = (and_parts (not (nat_eq entry entry)) (are_apart place.extent (place_at entry version).extent) (two_at entry version is)).0 in
          absurd (both_ways (nat_eq entry entry) (not-true (nat_eq entry entry) differ) (eq-eqb entry entry refl))

  -- it is free
  pub open_free : a.is_free place.entry.0 ≡ true
  open_free = has.free place.entry.0 (kept_within a.current.layout a.lines place.entry.0 opens.entry) open_none opens.begun

  -- and no version has one of its lines
  pub open_apart : (i : ℕ) (version : Version) → a.versions i ≡ Some version
      → AreApart place.extent.first_line place.extent.lines version.first_line version.lines
  open_apart i version is =
      apart_from place.extent (place_at i version).extent
      (and_parts (not (nat_eq place.entry.0 i)) (are_apart place.extent (place_at i version).extent) (two_at i version is)).1

-- ---- a version that went to such a place

-- The version that was read at this index was where it was read. It is in the place alone now, and its old entry is free. Nothing else changed.
pub record HasGone (old : Contents) (counted : List (EntryNo × Entry)) (gapped cleared : List EntryNo) (places : List Place) (index : ℕ)
    (read : EntryNo × Entry) (place : Place) (new : Contents) : Type 0 where
  pub has : HasPlaces old gapped cleared places
  pub opens : IsOpen old.lines places gapped cleared place
  pub once : IsReadOnce counted
  pub at : slice_get counted index ≡ Some read
  pub here : slice_get places index ≡ Some (place_read read)
  pub gone : new.versions read.0.0 ≡ None
  pub freed : new.is_free read.0.0 ≡ true
  pub version : Version
  pub made : new.versions place.entry.0 ≡ Some version
  pub there : place_at place.entry.0 version ≡ place
  pub others : (i : ℕ) → i ≢ read.0.0 → i ≢ place.entry.0 → new.versions i ≡ old.versions i
  pub others_free : (i : ℕ) → i ≢ read.0.0 → i ≢ place.entry.0 → new.is_free i ≡ old.is_free i
  pub layout : new.current.layout ≡ old.current.layout
  pub line_count : new.lines ≡ old.lines

module _ {a new : Contents} {counted : List (EntryNo × Entry)} {gapped cleared : List EntryNo} {places : List Place} {index : ℕ} {read : EntryNo × Entry}
    {place : Place} (goes : HasGone a counted gapped cleared places index read place new) where
  -- each version lies in one of the places
  pub gone_lie : (i : ℕ) (version : Version) → new.versions i ≡ Some version → (k : ℕ) × (slice_get (set places index place) k ≡ Some (place_at i version))
  gone_lie i version is =
      elim (cases_eq i place.entry.0) [
        | inl there ↦
            let same : goes.version ≡ version = picked (sym goes.made ∙ ap new.versions (sym there) ∙ is) in (
              index,
              pick-set_same places index place (slice_get_within places index (place_read read) goes.here)
                  ∙ ap Some (sym goes.there) ∙ ap₂ (λ (n : ℕ) (v : Version). Some (place_at n v)) (sym there) same,
            )
        | inr far ↦
            let from : i ≢ read.0.0 = λ same. none_some (sym goes.gone ∙ ap new.versions (sym same) ∙ is) in
            let was = goes.has.lie i version (sym (goes.others i from far) ∙ is) in
            let other : was.0 ≢ index = λ same.
            from (ap (λ (p : Place). p.entry.0) (picked (sym was.1 ∙ ap (slice_get places) same ∙ goes.here))) in
            (was.0, pick-set_other places index was.0 place other ∙ was.1)
      ]

  -- what was read elsewhere is where it was
  pub gone_rest : (k : ℕ) (other : EntryNo × Entry) → k ≢ index → slice_get counted k ≡ Some other
      → (slice_get places k ≡ Some (place_read other)) × (a.versions other.0.0 ≡ Some (version_read other.1))
      → (slice_get (set places index place) k ≡ Some (place_read other)) × (new.versions other.0.0 ≡ Some (version_read other.1))
  gone_rest k other number there was = (
    pick-set_other places index k place number ∙ was.0,
    goes.others other.0.0 (λ same. number (goes.once k index other read there goes.at same))
        (λ same. none_some (sym (open_none goes.has goes.opens) ∙ ap a.versions (sym same) ∙ was.1)) ∙ was.1,
  )

  -- and so is what lies in an entry that is not kept
  pub gone_due : (i : ℕ) (version : Version) → entries_kept new.lines ≤ i → new.versions i ≡ Some version
      → (i ≢ read.0.0) × (entries_kept a.lines ≤ i) × (a.versions i ≡ Some version)
  gone_due i version beyond is =
      let from : i ≢ read.0.0 = λ same. none_some (sym goes.gone ∙ ap new.versions (sym same) ∙ is) in
      let above : entries_kept a.lines ≤ i = subst (λ (n : ℕ). entries_kept n ≤ i) goes.line_count beyond in
      let below = goes.opens.entry in
      let far : i ≢ place.entry.0 = λ same. omega (arith, same, below, above) in
      (from, above, sym (goes.others i from far) ∙ is)

  -- an entry without a version is free
  pub gone_free : AreFreeBut new gapped cleared
  gone_free i lt none begun =
      elim (cases_eq i read.0.0) [
        | inl from ↦ ap new.is_free from ∙ goes.freed
        | inr elsewhere ↦ elim (cases_eq i place.entry.0) [
          | inl there ↦ absurd (none_some (sym none ∙ ap new.versions there ∙ goes.made))
          | inr far ↦
              goes.others_free i elsewhere far
              ∙ goes.has.free i (subst (λ (n : ℕ). i < n) (entries_same a new goes.layout goes.line_count) lt) (sym (goes.others i elsewhere far) ∙ none) begun
        ]
      ]
