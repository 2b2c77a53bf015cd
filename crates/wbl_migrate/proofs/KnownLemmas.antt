-- What was read of an image are the versions of its contents.
use Rattle.std.proofs.Common.{◌≡◌, ◌<◌, ◌≤◌, ◌||◌, ◌&&◌, ◌==◌, inl, inr, ℕ, zero, suc, Bool, false, true, not, cond, IsTrue, List, [], ◌∷◌, length, Option, None, Some, refl, sym, ap, ap₂, subst, subst₂, ◌∙◌, arith, ne_eqb, nat_lt}
use Rattle.std.specs.Prelude.{is_none}
use Rattle.std.specs.List.{slice_get}
use Rattle.std.proofs.lemmas.Bool.{both_ways, cases_Bool, cases_lt, cond-true, lt-ltb, or_left, or_right, true≢false}
use Rattle.std.proofs.lemmas.Option.{cond_some}
use Rattle.kv_types.specs.declared.place.EntryNo.{EntryNo}
use Rattle.kv_types.specs.declared.refusal.Refusal.{Refusal}
use Rattle.kv_types.specs.declared.refusal.Refusal.TheVariants.{WrongSize}
use Rattle.heap_layout.specs.declared.entry.Entry.{Entry}
use Rattle.heap_layout.specs.Superblock.{is_wrong_size, super_refusal}
use Rattle.heap_layout.specs.Versions.{counted_at, counted_below, counted_entry, is_counted, is_live}
use Rattle.model.specs.declared.layout.Layout.{Layout}
use Rattle.model.specs.declared.record.Record.{Record}
use Rattle.model.specs.declared.record.Role.{Role}
use Rattle.model.specs.declared.image.TheConstants.{MIN_LINES, MAX_LINES}
use Rattle.model.specs.Group.{AreApart, Contents, IsConsistent, entries_of}
use Rattle.model.specs.Image.{Image, Version, counts, entries_of_lines, entry_word, map_below, version_in}
use Rattle.model.specs.ReadImage.{is_clash}
use Rattle.model.proofs.DirectoryLemmas.{entries_same}
use Rattle.wbl_engine.specs.Contents.{Keeps}
use Rattle.wbl_engine.specs.Freeing.{is_listed}
use Rattle.wbl_engine.specs.Lawful.{AreLawful}
use Rattle.wbl_engine.specs.Reopening.{IsShown, Reopens}
use Rattle.wbl_engine.proofs.ClashLemmas.{AreDistinct, distinct_keyspace, distinct_map}
use Rattle.wbl_engine.proofs.ReopeningLaws.{new_entries}
use Rattle.wbl_engine.proofs.ShownContents.{shown_consistent}
use Rattle.wbl_migrate.specs.Moving.{AreFreeBut, AreKnown, IsReadOnce, KeepsAllVersions, version_read}
use Rattle.wbl_migrate.proofs.Picks.{none_some, pick_left, pick_right, pick_split, picked}

-- ---- the entries whose begin counts

module _ (r : Record) (image : Image) where
  abbrev read_of : ℕ → EntryNo × Entry
  read_of i = (record { 0 = i }, counted_entry r image i)

  one_of : (x : EntryNo × Entry) (j : ℕ) (y : EntryNo × Entry) → slice_get (x ∷ []) j ≡ Some y → (j ≡ 0) × (y ≡ x)
  one_of x zero y at = (refl, sym (picked at))
  one_of x (suc j) y at = absurd (none_some at)

  one_at : (n j : ℕ) (y : EntryNo × Entry) → slice_get (counted_at r image n) j ≡ Some y → IsTrue (is_counted r image n) × (j ≡ 0) × (y ≡ read_of n)
  one_at n j y =
      elim (is_counted r image n) as (λ b. slice_get (cond b (read_of n ∷ []) []) j ≡ Some y → IsTrue b × (j ≡ 0) × (y ≡ read_of n)) [
        | true ↦ λ at. let is = one_of (read_of n) j y at in (refl, is.0, is.1)
        | false ↦ λ at. absurd (none_some at)
      ]

  counted_member : (n k : ℕ) (read : EntryNo × Entry) → slice_get (counted_below r image n) k ≡ Some read
      → (i : ℕ) × (i < n) × IsTrue (is_counted r image i) × (read ≡ read_of i)
  counted_member zero k read at = absurd (none_some at)
  counted_member (suc n) k read at =
      elim (pick_split (counted_below r image n) (counted_at r image n) k read at) [
        | inl was ↦ let found = counted_member n k read was in let lt = found.1 in (found.0, omega (arith, lt), found.2, found.3)
        | inr last ↦ let is = one_at n last.0 read last.2 in (n, omega arith, is.0, is.2)
      ]

  counted_found : (n i : ℕ) → i < n → IsTrue (is_counted r image i) → (k : ℕ) × (slice_get (counted_below r image n) k ≡ Some (read_of i))
  counted_found zero i lt counted = absurd (omega (arith, lt))
  counted_found (suc n) i lt counted =
      elim (cases_lt i n) [
        | inl below ↦
            let found = counted_found n i below counted in
            (found.0, pick_left (counted_below r image n) (counted_at r image n) found.0 (read_of i) found.1)
        | inr above ↦
            let same : i ≡ n = omega (arith, lt, above) in
            let at : slice_get (counted_at r image n) 0 ≡ Some (read_of n) =
            ap (λ (xs : List (EntryNo × Entry)). slice_get xs 0)
            (cond-true (is_counted r image n) (read_of n ∷ []) [] (subst (λ (m : ℕ). IsTrue (is_counted r image m)) same counted)) in (
              length (counted_below r image n),
              pick_right (counted_below r image n) (counted_at r image n) 0 (length (counted_below r image n)) (omega arith) ∙ at ∙ ap (λ (m : ℕ). Some (read_of m)) (sym same),
            )
      ]

  counted_once : (n : ℕ) → IsReadOnce (counted_below r image n)
  counted_once zero j k x y at_j at_k same = absurd (none_some at_j)
  counted_once (suc n) j k x y at_j at_k same =
      elim (pick_split (counted_below r image n) (counted_at r image n) j x at_j) [
        | inl was_j ↦ elim (pick_split (counted_below r image n) (counted_at r image n) k y at_k) [
          | inl was_k ↦ counted_once n j k x y was_j was_k same
          | inr last_k ↦ absurd (below n j x y was_j (one_at n last_k.0 y last_k.2).2 same)
        ]
        | inr last_j ↦ elim (pick_split (counted_below r image n) (counted_at r image n) k y at_k) [
          | inl was_k ↦ absurd (below n k y x was_k (one_at n last_j.0 x last_j.2).2 (sym same))
          | inr last_k ↦
              let first_j = last_j.1 in
              let first_k = last_k.1 in
              let none_j = (one_at n last_j.0 x last_j.2).1 in
              let none_k = (one_at n last_k.0 y last_k.2).1 in
              omega (arith, first_j, first_k, none_j, none_k)
        ]
      ]
    where
      below : (n j : ℕ) (x y : EntryNo × Entry) → slice_get (counted_below r image n) j ≡ Some x → y ≡ read_of n → x.0.0 ≡ y.0.0 → ⊥
      below n j x y was last same =
          let found = counted_member n j x was in
          let lt = found.1 in
          let first : x.0.0 ≡ found.0 = ap (λ (read : EntryNo × Entry). read.0.0) found.3 in
          let second : y.0.0 ≡ n = ap (λ (read : EntryNo × Entry). read.0.0) last in
          omega (arith, lt, first, second, same)

  -- what is read of an entry is its version
  version_same : (i : ℕ) → version_read (counted_entry r image i) ≡ version_in r image i
  version_same i = λ k. record (version_in r image i) { is_ended = end_counts (image (entry_word i 1)) (counts r (image (entry_word i 1))) refl k }
    where
      end_counts : (end : ℕ) (b : Bool) → counts r end ≡ b → not (cond b end 0 == 0) ≡ b
      end_counts end true e = ap not (ne_eqb end 0 (λ none. true≢false (sym e ∙ ap (counts r) none)))
      end_counts end false e = refl

-- ---- the contents that were reopened

module _ (lines' : ℕ) (image opened : Image) (role : Role) (contents : Contents) (counted : List (EntryNo × Entry)) (gapped : List EntryNo)
    (reopens : Reopens lines' image role contents counted gapped) (shown : IsShown contents counted gapped opened) (keeps : Keeps contents opened) where
  consistent : IsConsistent contents
  consistent = shown_consistent lines' image opened role contents counted gapped reopens shown keeps

  abbrev count : ℕ
  count = entries_of contents

  held : (k : ℕ) (read : EntryNo × Entry) → slice_get counted k ≡ Some read → contents.versions read.0.0 ≡ Some (version_read read.1)
  held k read at =
      let found = counted_member contents.current opened count k read (subst (λ (xs : List (EntryNo × Entry)). slice_get xs k ≡ Some read) shown.counted at) in
      subst (λ (read : EntryNo × Entry). contents.versions read.0.0 ≡ Some (version_read read.1)) (sym found.3)
      (sym (keeps.versions found.0 found.1)
      ∙ cond-true (is_counted contents.current opened found.0) (Some (version_in contents.current opened found.0)) None found.2
      ∙ ap Some (sym (version_same contents.current opened found.0)))

  within : (i : ℕ) (version : Version) → contents.versions i ≡ Some version → i < count
  within i version is = elim (cases_lt i count) [ inl lt ↦ lt | inr past ↦ absurd (none_some (sym (consistent.beyond i past) ∙ is)) ]

  found : (i : ℕ) (version : Version) → contents.versions i ≡ Some version
      → (k : ℕ) × (read : EntryNo × Entry) × (slice_get counted k ≡ Some read) × (read.0.0 ≡ i)
  found i version is =
      let lt = within i version is in
      let begun = cond_some (is_counted contents.current opened i) (version_in contents.current opened i) version (keeps.versions i lt ∙ is) in
      let at = counted_found contents.current opened count i lt begun.0 in
      (at.0, read_of contents.current opened i, subst (λ (xs : List (EntryNo × Entry)). slice_get xs at.0 ≡ Some (read_of contents.current opened i)) (sym shown.counted) at.1, refl)

  free : AreFreeBut contents gapped []
  free i lt none (inr listed) = absurd (true≢false (sym listed))
  free i lt none (inl not_listed) =
      elim (cases_Bool (contents.is_free i)) [
        | inl is ↦ is
        | inr taken ↦
            absurd (both_ways (is_listed i gapped) not_listed
            (reopens.gapped i
            ∙ ap₂ (λ (a b : Bool). a && b)
            (lt-ltb i (entries_of_lines reopens.before.layout lines') (subst (λ (n : ℕ). i < n) (new_entries reopens) lt))
            (ap₂ (λ (a : Bool) (o : Option Version). not a && is_none o) taken none)))
      ]

  pub reopened_known : AreKnown contents counted gapped []
  reopened_known =
      record {
        held = held;
        found = found;
        once = subst IsReadOnce (sym shown.counted) (counted_once contents.current opened count);
        free = free;
      }

  -- ---- they obey the rules of an image

  shown_at : (i : ℕ) (version : Version) → contents.versions i ≡ Some version
      → (i < count) × IsTrue (is_counted contents.current opened i) × (version_in contents.current opened i ≡ version)
  shown_at i version is =
      let lt = within i version is in
      let begun = cond_some (is_counted contents.current opened i) (version_in contents.current opened i) version (keeps.versions i lt ∙ is) in
      (lt, begun.0, begun.1)

  live_at : (i : ℕ) (version : Version) → contents.versions i ≡ Some version → version.is_ended ≡ false → IsTrue (is_live contents.current opened i)
  live_at i version is live =
      let at = shown_at i version is in
      ap₂ (λ (a b : Bool). a && not b) at.1 (ap (λ (v : Version). v.is_ended) at.2 ∙ live)

  none_held : (o : Option Version) → ((version : Version) → o ≡ Some version → ⊥) → o ≡ None
  none_held None never = refl
  none_held (Some version) never = absurd (never version refl)

  distinct : AreDistinct contents.versions count
  distinct i j v w lt_i lt_j differ is_v is_w live_v live_w =
      sym (ap₂ (λ (a b : Version). is_clash a.id b.id) (shown_at i v is_v).2 (shown_at j w is_w).2)
      ∙ shown.undamaged.versions.distinct i j lt_i lt_j differ (live_at i v is_v live_v) (live_at j w is_w live_w)

  pub reopened_lawful : MIN_LINES ≤ contents.lines → contents.lines ≤ MAX_LINES → AreLawful contents
  reopened_lawful many few =
      record {
        many = many;
        few = few;
        current = shown.undamaged.current.lawful;
        apart = λ i j v w differ is_v is_w.
            let at_i = shown_at i v is_v in
            let at_j = shown_at j w is_w in
            subst₂ (λ (a b : Version). AreApart a.first_line a.lines b.first_line b.lines) at_i.2 at_j.2
            (shown.undamaged.versions.apart i j at_i.0 at_j.0 differ at_i.1 at_j.1);
        keyspace = map_below contents.versions count;
        lawful = distinct_keyspace contents.versions count distinct;
        map = distinct_map contents.versions count distinct;
        uncopied = λ newcomer i.
            none_held (contents.versions i)
            (λ version is.
            let at = shown_at i version is in
            both_ways (is_counted contents.current opened i) (shown.undamaged.versions.uncopied newcomer i at.0) at.1);
      }

-- a device whose superblock earns no refusal has the size of an image
pub image_size : (layout : Layout) (lines : ℕ) (image : Image) → ((refusal : Refusal) → super_refusal layout lines image ≡ Some refusal → ⊥)
    → (MIN_LINES ≤ lines) × (lines ≤ MAX_LINES)
image_size layout lines image none =
    elim (cases_Bool (is_wrong_size lines)) [
      | inl wrong ↦ absurd (none WrongSize (cond-true (is_wrong_size lines) (Some WrongSize) _ wrong))
      | inr right ↦ (
        elim (cases_lt lines MIN_LINES) [
          | inl low ↦ absurd (both_ways (is_wrong_size lines) right (or_left (nat_lt lines MIN_LINES) (nat_lt MAX_LINES lines) (lt-ltb lines MIN_LINES low)))
          | inr many ↦ many
        ],
        elim (cases_lt MAX_LINES lines) [
          | inl over ↦ absurd (both_ways (is_wrong_size lines) right (or_right (nat_lt lines MIN_LINES) (nat_lt MAX_LINES lines) (lt-ltb MAX_LINES lines over)))
          | inr few ↦ few
        ],
      )
    ]

-- ---- and behind the clearing of gaps

pub cleared_known : (old new : Contents) (counted : List (EntryNo × Entry)) (gapped cleared : List EntryNo) → AreKnown old counted gapped []
    → KeepsAllVersions old new → ((i : ℕ) → new.is_free i ≡ (old.is_free i || is_listed i cleared)) → AreKnown new counted gapped cleared
cleared_known old new counted gapped cleared known keeps is_free =
    record {
      held = λ k read at. keeps.versions read.0.0 ∙ known.held k read at;
      found = λ i version is. known.found i version (sym (keeps.versions i) ∙ is);
      once = known.once;
      free = free;
    }
  where
    free : AreFreeBut new gapped cleared
    free i lt none (inl not_listed) =
        is_free i
        ∙ or_left (old.is_free i) (is_listed i cleared)
        (known.free i (subst (λ (n : ℕ). i < n) (entries_same old new keeps.layout keeps.line_count) lt) (sym (keeps.versions i) ∙ none) (inl not_listed))
    free i lt none (inr listed) = is_free i ∙ or_right (old.is_free i) (is_listed i cleared) listed
