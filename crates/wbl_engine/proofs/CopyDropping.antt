-- What is staged is dropped: its begins are erased, and the newcomer is there without a copy all the time.
use Rattle.std.proofs.Common.{◌≡◌, ℕ, zero, suc, ◌+◌, ◌<◌, ◌≤◌, true, false, not, cond, ◌||◌, ◌==◌, IsTrue, List, [], ◌∷◌, ◌++◌, ◌⊎◌, inl, inr, Option, None, Result, Ok, Err, map, refl, sym, ap, subst, ◌∙◌, arith}
use Rattle.std.specs.List.{IsDistinct}
use Rattle.std.specs.Prelude.{nat_eq, nat_le, nat_lt, is_none, IfOk}
use Rattle.std.proofs.lemmas.Bool.{and_from, and_left, and_parts, and_right, both_ways, cases_Bool, cases_lt, cond-false, cond-true, eq-eqb, le-leb, le-ltb, lt-leb, lt-ltb, ltb-true, or_left, or_right}
use Rattle.kv_types.specs.declared.place.EntryNo.{EntryNo}
use Rattle.kv_types.specs.declared.place.Extent.{Extent}
use Rattle.pmem.specs.Device.{State}
use Rattle.pmem.specs.Crash.{image_of}
use Rattle.pmem.specs.Runs.{IsPartlyStored, LeavesOnly, Staged, written}
use Rattle.pmem.proofs.Leaving.{LeavesOnly-weaken}
use Rattle.model.specs.declared.record.Record.{Record}
use Rattle.model.specs.Image.{HasSuperblock, Image, Version, counts, entries_of_lines, entry_word, is_in_gap}
use Rattle.model.specs.Group.{Versions, extent_of, extents_of, is_listed}
use Rattle.model.proofs.LayoutLemmas.{entries_fit}
use Rattle.wbl_engine.specs.AtRest.{IsAtRest, Matters, contents_of}
use Rattle.wbl_engine.specs.Contents.{Keeps, Same}
use Rattle.wbl_engine.specs.Copying.{Drops, IsHalf, copy_gap, staged_of, with_copy}
use Rattle.wbl_engine.specs.Erasing.{erase_lines, erase_pairs, extent_in, stamped_below}
use Rattle.wbl_engine.specs.Stage.{AreWithin}
use Rattle.wbl_engine.proofs.Erased.{AreBelow, HasSuperblock-same, directory_matters}
use Rattle.wbl_engine.proofs.ErasedStamps.{IsErasing, erase_behind, erase_line, is_erased_at, stamp_of, within_from, written_other, written_stamp}
use Rattle.wbl_engine.proofs.HalfLemmas.{image_keeps, same_uncounted, staged_at, unstaged_at, unstaged_beyond}
use Rattle.wbl_engine.proofs.ListedEntries.{listed_stamped, stamped_once}
use Rattle.wbl_engine.proofs.Storing.{IsStoredOver, partly_over, partly_recorded, staged_only, staged_recorded}

-- ---- which entries

-- the entries with the stamp of the copy
abbrev pub copied_entries : Record → State → List EntryNo
copied_entries r d = stamped_below (copy_gap r) (image_of d.words) 0 (entries_of_lines r.layout d.lines)

in_copy_gap : (r : Record) (begin : ℕ) → begin ≤ r.cp + 1 → is_in_gap begin (copy_gap r) ≡ nat_lt r.cp begin
in_copy_gap r begin low =
    elim (cases_lt r.cp begin) [
      | inl above ↦
          and_from (nat_le (r.cp + 1) begin) (nat_le begin (r.cp + 1)) (le-leb (r.cp + 1) begin (omega (arith, above))) (le-leb begin (r.cp + 1) low)
          ∙ sym (lt-ltb r.cp begin above)
      | inr below ↦
          and_left (nat_le (r.cp + 1) begin) (nat_le begin (r.cp + 1)) (lt-leb (r.cp + 1) begin (omega (arith, below))) ∙ sym (le-ltb r.cp begin below)
    ]

module _ {r : Record} {d : State} (half : IsHalf r d) where
  -- they are those of what is staged
  pub listed_copied : (i : ℕ) → is_listed i (copied_entries r d) ≡ not (is_none (staged_of true r d i))
  listed_copied i =
      let begin : ℕ = image_of d.words (entry_word i 0) in
      listed_stamped (copy_gap r) (image_of d.words) 0 (entries_of_lines r.layout d.lines) i
      ∙ elim (cases_lt i (entries_of_lines r.layout d.lines)) [
        | inl within ↦
            elim (cases_lt r.cp begin) [
              | inl above ↦
                  and_from (nat_lt i (entries_of_lines r.layout d.lines)) (is_in_gap begin (copy_gap r)) (lt-ltb i (entries_of_lines r.layout d.lines) within)
                  (in_copy_gap r begin (half.half.begins i within) ∙ lt-ltb r.cp begin above)
                  ∙ sym (ap (λ (o : _). not (is_none o)) (staged_at r d i within above))
              | inr low ↦
                  and_right (nat_lt i (entries_of_lines r.layout d.lines)) (is_in_gap begin (copy_gap r))
                  (in_copy_gap r begin (half.half.begins i within) ∙ le-ltb r.cp begin low)
                  ∙ sym (ap (λ (o : _). not (is_none o)) (unstaged_at r d i low))
            ]
        | inr beyond ↦
            and_left (nat_lt i (entries_of_lines r.layout d.lines)) (is_in_gap begin (copy_gap r)) (le-ltb i (entries_of_lines r.layout d.lines) beyond)
            ∙ sym (ap (λ (o : _). not (is_none o)) (unstaged_beyond r d i beyond))
      ]

  -- each is of the directory, and has the stamp
  copied_where : (i : ℕ) → IsTrue (is_listed i (copied_entries r d)) → (i < entries_of_lines r.layout d.lines) × (r.cp < image_of d.words (entry_word i 0))
  copied_where i listed =
      let parts = and_parts (nat_lt i (entries_of_lines r.layout d.lines)) (is_in_gap (image_of d.words (entry_word i 0)) (copy_gap r))
      (sym (listed_stamped (copy_gap r) (image_of d.words) 0 (entries_of_lines r.layout d.lines) i) ∙ listed) in
      let within : i < entries_of_lines r.layout d.lines = ltb-true i (entries_of_lines r.layout d.lines) parts.0 in
      (within, ltb-true r.cp (image_of d.words (entry_word i 0)) (sym (in_copy_gap r (image_of d.words (entry_word i 0)) (half.half.begins i within)) ∙ parts.1))

  -- an entry that is not among them has an older begin
  others_low : (i : ℕ) → i < entries_of_lines r.layout d.lines → is_listed i (copied_entries r d) ≡ false → image_of d.words (entry_word i 0) ≤ r.cp
  others_low i within none =
      elim (cases_lt r.cp (image_of d.words (entry_word i 0))) [
        | inl above ↦
            absurd (both_ways (is_listed i (copied_entries r d)) none
            (listed_copied i ∙ ap (λ (o : _). not (is_none o)) (staged_at r d i within above)))
        | inr low ↦ low
      ]

  pub copied_lines : (entries : List EntryNo) → entries ≡ copied_entries r d → AreWithin d.lines entries
  copied_lines entries is =
      subst (λ (es : List EntryNo). AreWithin d.lines es) (sym is)
      (within_from d (copied_entries r d) (λ i listed. omega (arith, (copied_where i listed).0, half.many, entries_fit r.layout d.lines)))

  -- ---- what is handed back

  -- each entry names the extent of its version
  extents_staged : (entries : List EntryNo) → ((i : ℕ) → IsTrue (is_listed i entries) → IsTrue (is_listed i (copied_entries r d)))
      → map (λ (entry : EntryNo). extent_in (image_of d.words) entry.0) entries ≡ extents_of (staged_of true r d) entries
  extents_staged [] each = refl
  extents_staged (entry ∷ entries) each =
      let at = copied_where entry.0 (each entry.0 (or_left (nat_eq entry.0 entry.0) (is_listed entry.0 entries) (eq-eqb entry.0 entry.0 refl))) in
      ap (λ (rest : List Extent). extent_in (image_of d.words) entry.0 ∷ rest)
      (extents_staged entries (λ i listed. each i (or_right (nat_eq i entry.0) (is_listed i entries) listed)))
      ∙ sym (ap (λ (o : _). extent_of o ++ extents_of (staged_of true r d) entries) (staged_at r d entry.0 at.0 at.1))

  pub copied_drops : (entries listed : List EntryNo) (extents : List Extent) → listed ≡ copied_entries r d → entries ≡ listed
      → extents ≡ map (λ (entry : EntryNo). extent_in (image_of d.words) entry.0) listed → Drops (staged_of true r d) entries extents
  copied_drops entries listed extents are is named =
      subst (λ (es : List EntryNo). Drops (staged_of true r d) es extents) (sym (is ∙ are))
      (record {
        listed = listed_copied;
        once = stamped_once (copy_gap r) (image_of d.words) 0 (entries_of_lines r.layout d.lines);
        extents_are = named ∙ ap (map (λ (entry : EntryNo). extent_in (image_of d.words) entry.0)) are ∙ extents_staged (copied_entries r d) (λ i l. l);
      })

  -- ---- the begins are erased

  erasing : IsErasing (with_copy r) d.lines (image_of d.words) (copied_entries r d) []
  erasing = record { within = within; uncounted = λ i listed. absurd (both_ways false refl listed) }
    where
      within : (i k : ℕ) → k < 2 → IsTrue (is_erased_at (copied_entries r d) [] i k) → i < entries_of_lines r.layout d.lines
      within i zero low listed = (copied_where i listed).0
      within i (suc k) low listed = absurd (both_ways false refl listed)

  -- At each crash before the fence the newcomer is there without a copy.
  drop_keeps : (image : Image) → IsPartlyStored (erase_pairs (copied_entries r d) []) d.words image → Keeps (contents_of r d) image
  drop_keeps image partly =
      image_keeps half image
      (λ word low.
      elim (over word (inl low)) [
        | inl same ↦ same
        | inr stored ↦
            elim (erase_behind erasing word (image word) stored) [
              | inl directory ↦ absurd (omega (arith, low, directory.0))
              | inr extents ↦ absurd (omega (arith, low, extents))
            ]
      ])
      (λ i within.
      elim (stamp i 0 within (omega arith)) [
        | inl same ↦ ap (counts r) same ∙ half.half.uncounted i within
        | inr zeroed ↦ ap (counts r) zeroed
      ])
      below (partly_recorded d image (erase_pairs (copied_entries r d) []) half.many (erase_behind erasing) half.recorded partly)
    where
      over : IsStoredOver (Matters (with_copy r) d.lines (image_of d.words)) (image_of d.words) (erase_pairs (copied_entries r d) []) image
      over = partly_over (Matters (with_copy r) d.lines (image_of d.words)) d image (erase_pairs (copied_entries r d) []) half.certain partly

      stamp : (i k : ℕ) → i < entries_of_lines r.layout d.lines → k < 2
          → (image (entry_word i k) ≡ image_of d.words (entry_word i k)) ⊎ (image (entry_word i k) ≡ 0)
      stamp i k within low =
          elim (over (entry_word i k) (directory_matters (with_copy r) d.lines (image_of d.words) i k within (omega (arith, low)))) [
            | inl same ↦ inl same
            | inr stored ↦ inr (stamp_of (copied_entries r d) [] i k (image (entry_word i k)) (omega (arith, low)) stored).0
          ]

      below : AreBelow r.layout d.lines image r.cd
      below i zero within low =
          elim (stamp i 0 within (omega arith)) [
            | inl same ↦ omega (arith, same, half.half.begins i within, half.lawful.limit)
            | inr zeroed ↦ omega (arith, zeroed, half.lawful.limit)
          ]
      below i (suc zero) within low =
          elim (stamp i 1 within (omega arith)) [
            | inl same ↦ omega (arith, same, half.half.ends i within, half.lawful.limit)
            | inr zeroed ↦ omega (arith, zeroed, half.lawful.limit)
          ]
      below i (suc (suc k)) within low = absurd (omega (arith, low))

  pub drop_moments : {b : State} (entries : List EntryNo) → entries ≡ copied_entries r d → LeavesOnly d b (IsPartlyStored (erase_pairs entries []) d.words)
      → LeavesOnly d b (Keeps (contents_of r d))
  drop_moments {b} entries is moments =
      LeavesOnly-weaken (Keeps (contents_of r d)) drop_keeps
      (subst (λ (es : List EntryNo). LeavesOnly d b (IsPartlyStored (erase_pairs es []) d.words)) is moments)

  module _ (b : State) (entries : List EntryNo) (are : entries ≡ copied_entries r d)
      (newest : (word : ℕ) → image_of b.words word ≡ written (erase_pairs entries []) (image_of d.words) word) (lines : b.lines ≡ d.lines) where
    now : (word : ℕ) → image_of b.words word ≡ written (erase_pairs (copied_entries r d) []) (image_of d.words) word
    now word = newest word ∙ ap (λ (es : List EntryNo). written (erase_pairs es []) (image_of d.words) word) are

    -- a begin is what it was, but for the stamp of the copy
    begin_now : (i : ℕ) → image_of b.words (entry_word i 0) ≡ cond (is_listed i (copied_entries r d)) 0 (image_of d.words (entry_word i 0))
    begin_now i = now (entry_word i 0) ∙ written_stamp (copied_entries r d) [] (image_of d.words) i 0 (omega arith)

    end_now : (i : ℕ) → image_of b.words (entry_word i 1) ≡ image_of d.words (entry_word i 1)
    end_now i = now (entry_word i 1) ∙ written_stamp (copied_entries r d) [] (image_of d.words) i 1 (omega arith)

    begin_cases : (i : ℕ) → i < entries_of_lines r.layout d.lines
        → (image_of b.words (entry_word i 0) ≡ 0)
        ⊎ ((image_of b.words (entry_word i 0) ≡ image_of d.words (entry_word i 0)) × (image_of d.words (entry_word i 0) ≤ r.cp))
    begin_cases i within =
        elim (cases_Bool (is_listed i (copied_entries r d))) [
          | inl listed ↦ inl (begin_now i ∙ cond-true (is_listed i (copied_entries r d)) 0 (image_of d.words (entry_word i 0)) listed)
          | inr none ↦
              inr (begin_now i ∙ cond-false (is_listed i (copied_entries r d)) 0 (image_of d.words (entry_word i 0)) none, others_low i within none)
        ]

    uncounted_now : (i : ℕ) → i < entries_of_lines r.layout d.lines → counts r (image_of b.words (entry_word i 0)) ≡ false
    uncounted_now i within =
        elim (begin_cases i within) [
          | inl zeroed ↦ ap (counts r) zeroed
          | inr kept ↦ ap (counts r) kept.0 ∙ half.half.uncounted i within
        ]

    -- Whether the fence failed or not, loads show the same contents: to them the entries were free.
    pub drop_same : Same (contents_of r d) (contents_of r b)
    drop_same =
        same_uncounted r d b lines half.half.uncounted uncounted_now
        (λ i within.
        let begin : ℕ = image_of d.words (entry_word i 0) in
        let new : ℕ = image_of b.words (entry_word i 0) in
        elim (cases_Bool (is_listed i (copied_entries r d))) [
          | inl listed ↦
              or_left (new == 0) (nat_lt r.cp new)
              (eq-eqb new 0 (begin_now i ∙ cond-true (is_listed i (copied_entries r d)) 0 begin listed))
              ∙ sym (or_right (begin == 0) (nat_lt r.cp begin) (lt-ltb r.cp begin (copied_where i listed).1))
          | inr none ↦
              ap (λ (n : ℕ). n == 0 || nat_lt r.cp n) (begin_now i ∙ cond-false (is_listed i (copied_entries r d)) 0 begin none)
        ])

  -- Nothing is staged any more.
  pub drop_rest : {b : State} (entries : List EntryNo) → entries ≡ copied_entries r d → Staged d b (erase_pairs entries []) (erase_lines entries []) → IsAtRest r b
  drop_rest {b} entries are staged =
      let lines = staged.stays.lines in
      let count : entries_of_lines r.layout b.lines ≡ entries_of_lines r.layout d.lines = ap (entries_of_lines r.layout) lines in
      let of_all : Staged d b (erase_pairs (copied_entries r d) []) (erase_lines (copied_entries r d) []) =
      subst (λ (es : List EntryNo). Staged d b (erase_pairs es []) (erase_lines es [])) are staged in
      let cases = begin_cases b entries are staged.newest lines in
      let uncounted = uncounted_now b entries are staged.newest lines in
      record {
        many = omega (arith, lines, half.many);
        few = omega (arith, lines, half.few);
        lawful = half.lawful;
        whole = record {
          superblock = subst (λ (n : ℕ). HasSuperblock r.layout n (image_of b.words)) (sym lines)
              (HasSuperblock-same r.layout d.lines (image_of d.words) (image_of b.words)
              (λ word low.
              now b entries are staged.newest lines word
              ∙ written_other (copied_entries r d) [] (image_of d.words) word (λ i k below listed is. omega (arith, low, is)))
              half.half.superblock);
          begins = λ i within.
              elim (cases i (omega (arith, within, count))) [ inl zeroed ↦ omega (arith, zeroed) | inr kept ↦ omega (arith, kept.0, kept.1) ];
          ends = λ i within. omega (arith, end_now b entries are staged.newest lines i, half.half.ends i (omega (arith, within, count)));
          entries = λ i within counted. absurd (both_ways _ (uncounted i (omega (arith, within, count))) counted);
          positions = λ i within counted. absurd (both_ways _ (uncounted i (omega (arith, within, count))) counted);
        };
        recorded = staged_recorded half.many (erase_behind erasing) of_all half.recorded;
        certain = λ word matters.
            staged_only (erase_line (copied_entries r d) []) of_all word
            (λ out. half.certain word (before uncounted word (subst (λ (n : ℕ). Matters r n (image_of b.words) word) lines matters)));
      }
    where
      before : {image : Image} → ((i : ℕ) → i < entries_of_lines r.layout d.lines → counts r (image (entry_word i 0)) ≡ false) → (word : ℕ)
          → Matters r d.lines image word → Matters (with_copy r) d.lines (image_of d.words) word
      before uncounted word (inl low) = inl low
      before uncounted word (inr (inl directory)) = inr (inl directory)
      before uncounted word (inr (inr (i, within, counted, at))) = absurd (both_ways _ (uncounted i within) counted)

-- what two facts on the value of a result make of it
pub ok_from_both : {T E : Type 0} {P Q S : T → Type 0} (r : Result T E) → ((x : T) → P x → Q x → S x) → IfOk r P → IfOk r Q → IfOk r S
ok_from_both (Ok x) f p q = f x p q
ok_from_both (Err e) f p q = tt

-- where nothing is staged, nothing is handed back
pub drops_none : (staged : Versions) (entries : List EntryNo) (extents : List Extent) → ((i : ℕ) → staged i ≡ None) → entries ≡ [] → extents ≡ []
    → Drops staged entries extents
unfolding IsDistinct
drops_none staged entries extents none no_entries no_extents =
    subst (λ (es : List EntryNo). Drops staged es extents) (sym no_entries)
    (record {
      listed = λ i. sym (ap (λ (o : Option Version). not (is_none o)) (none i));
      once = tt;
      extents_are = no_extents;
    })
