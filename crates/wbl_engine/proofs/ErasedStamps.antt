-- Stamps that are erased: what is stored, and what it leaves at each crash and of what loads return.
use Rattle.std.proofs.Common.{◌≡◌, ℕ, zero, suc, ◌/◌, ◌<◌, Bool, true, false, not, cond, ◌&&◌, ◌||◌, ◌==◌, IsTrue, inl, inr, List, [], ◌∷◌, refl, sym, ap, subst, ◌∙◌, arith}
use Rattle.std.specs.Prelude.{nat_eq, nat_lt}
use Rattle.std.proofs.Math.Bool.{or-false}
use Rattle.std.proofs.lemmas.Bool.{cases_Bool, cond-true, cond-false, or_cases, or_left, or_right, eqb-true, eq-eqb, lt-ltb, both_ways}
use Rattle.kv_types.specs.declared.place.EntryNo.{EntryNo}
use Rattle.pmem.specs.Device.{State}
use Rattle.pmem.specs.Crash.{image_of}
use Rattle.pmem.specs.Runs.{IsStored, IsLine, written}
use Rattle.pmem.proofs.Staging.{IsStored-append, IsStored-append_left, IsStored-append_right, IsLine-append_left, IsLine-append_right, written-outside, written-stored}
use Rattle.model.specs.declared.record.Record.{Record}
use Rattle.model.specs.Image.{Image, entry_line, entry_word, entries_of_lines, counts}
use Rattle.model.proofs.LayoutLemmas.{entries_fit}
use Rattle.wbl_engine.specs.AtRest.{Matters, contents_of}
use Rattle.wbl_engine.specs.Erasing.{zero_pairs, erase_pairs, erase_lines}
use Rattle.wbl_engine.specs.Freeing.{is_listed}
use Rattle.wbl_engine.specs.Stage.{AreWithin, end_lines}
use Rattle.wbl_engine.proofs.Erased.{AreBelow, IsErased, IsHarmless, IsSound, directory_matters, erased_free, stored_erased}
use Rattle.wbl_engine.proofs.Storing.{AgreesOn, AreBehind, IsStoredOver}

-- ---- what is stored

zero_where : (k : ℕ) (entries : List EntryNo) (word x : ℕ) → IsStored (zero_pairs k entries) word x
    → (i : ℕ) × IsTrue (is_listed i entries) × (word ≡ entry_word i k) × (x ≡ 0)
zero_where k [] word x stored = absurd stored
zero_where k (entry ∷ entries) word x (inl here) =
    (entry.0, or_left (nat_eq entry.0 entry.0) (is_listed entry.0 entries) (eq-eqb entry.0 entry.0 refl), sym here.0, sym here.1)
zero_where k (entry ∷ entries) word x (inr later) =
    let more = zero_where k entries word x later in
    (more.0, or_right (nat_eq more.0 entry.0) (is_listed more.0 entries) more.1, more.2, more.3)

listed_zeroed : (k : ℕ) (entries : List EntryNo) (i : ℕ) → IsTrue (is_listed i entries) → IsStored (zero_pairs k entries) (entry_word i k) 0
listed_zeroed k [] i listed = absurd (both_ways false refl listed)
listed_zeroed k (entry ∷ entries) i listed =
    elim (or_cases (nat_eq i entry.0) (is_listed i entries) listed) [
      | inl here ↦ inl (ap (λ (n : ℕ). entry_word n k) (sym (eqb-true i entry.0 here)), refl)
      | inr later ↦ inr (listed_zeroed k entries i later)
    ]

-- the line of each such word is one of theirs
zero_line : (k : ℕ) (entries : List EntryNo) (word x : ℕ) → k < 8 → IsStored (zero_pairs k entries) word x → IsLine (end_lines entries) (word / 8)
zero_line k [] word x below stored = absurd stored
zero_line k (entry ∷ entries) word x below (inl here) = inl (omega (arith, here.0, below))
zero_line k (entry ∷ entries) word x below (inr later) = inr (zero_line k entries word x below later)

pub erase_line : (begins ends : List EntryNo) (word x : ℕ) → IsStored (erase_pairs begins ends) word x → IsLine (erase_lines begins ends) (word / 8)
erase_line begins ends word x stored =
    elim (IsStored-append (zero_pairs 0 begins) (zero_pairs 1 ends) word x stored) [
      | inl begin ↦ IsLine-append_left (end_lines begins) (end_lines ends) (word / 8) (zero_line 0 begins word x (omega arith) begin)
      | inr end ↦ IsLine-append_right (end_lines begins) (end_lines ends) (word / 8) (zero_line 1 ends word x (omega arith) end)
    ]

-- word k of entry i is erased: 0 is its begin, and 1 its end
abbrev pub is_erased_at : List EntryNo → List EntryNo → ℕ → ℕ → Bool
is_erased_at begins ends i zero = is_listed i begins
is_erased_at begins ends i (suc k) = is_listed i ends

-- a zero over a stamp
pub record IsErasure (begins ends : List EntryNo) (word x : ℕ) : Type 0 where
  pub entry : ℕ
  pub k : ℕ
  pub low : k < 2
  pub listed : IsTrue (is_erased_at begins ends entry k)
  pub word_is : word ≡ entry_word entry k
  pub zero_is : x ≡ 0

module _ (begins ends : List EntryNo) where
  pub erased_where : (word x : ℕ) → IsStored (erase_pairs begins ends) word x → IsErasure begins ends word x
  erased_where word x stored =
      elim (IsStored-append (zero_pairs 0 begins) (zero_pairs 1 ends) word x stored) [
        | inl begin ↦
            let at = zero_where 0 begins word x begin in
            record { entry = at.0; k = 0; low = omega arith; listed = at.1; word_is = at.2; zero_is = at.3 }
        | inr end ↦
            let at = zero_where 1 ends word x end in
            record { entry = at.0; k = 1; low = omega arith; listed = at.1; word_is = at.2; zero_is = at.3 }
      ]

  -- and in word k of entry i
  pub stamp_of : (i k x : ℕ) → k < 8 → IsStored (erase_pairs begins ends) (entry_word i k) x → (x ≡ 0) × (k < 2) × IsTrue (is_erased_at begins ends i k)
  stamp_of i k x below stored =
      let at = erased_where (entry_word i k) x stored in
      let same_entry : at.entry ≡ i = omega (arith, at.word_is, below, at.low) in
      let same_k : at.k ≡ k = omega (arith, at.word_is, below, at.low) in (
        at.zero_is,
        omega (arith, same_k, at.low),
        subst (λ (m : ℕ). IsTrue (is_erased_at begins ends i m)) same_k
            (subst (λ (n : ℕ). IsTrue (is_erased_at begins ends n at.k)) same_entry at.listed),
      )

  erased_at : (i k : ℕ) → k < 2 → IsTrue (is_erased_at begins ends i k) → IsStored (erase_pairs begins ends) (entry_word i k) 0
  erased_at i zero low listed = IsStored-append_left (zero_pairs 0 begins) (zero_pairs 1 ends) (entry_word i 0) 0 (listed_zeroed 0 begins i listed)
  erased_at i (suc zero) low listed = IsStored-append_right (zero_pairs 0 begins) (zero_pairs 1 ends) (entry_word i 1) 0 (listed_zeroed 1 ends i listed)
  erased_at i (suc (suc k)) low listed = absurd (omega (arith, low))

  pub written_stamp : (base : Image) (i k : ℕ) → k < 2
      → written (erase_pairs begins ends) base (entry_word i k) ≡ cond (is_erased_at begins ends i k) 0 (base (entry_word i k))
  written_stamp base i k low =
      elim (cases_Bool (is_erased_at begins ends i k)) [
        | inl is ↦
            written-stored (erase_pairs begins ends) base (entry_word i k) 0 (erased_at i k low is) (λ y stored. (stamp_of i k y (omega (arith, low)) stored).0)
            ∙ sym (cond-true (is_erased_at begins ends i k) 0 (base (entry_word i k)) is)
        | inr none ↦
            written-outside (erase_pairs begins ends) base (entry_word i k)
            (λ y stored. both_ways (is_erased_at begins ends i k) none (stamp_of i k y (omega (arith, low)) stored).2)
            ∙ sym (cond-false (is_erased_at begins ends i k) 0 (base (entry_word i k)) none)
      ]

  -- no other word is touched
  pub written_other : (base : Image) (word : ℕ) → ((i k : ℕ) → k < 2 → IsTrue (is_erased_at begins ends i k) → word ≡ entry_word i k → ⊥)
      → written (erase_pairs begins ends) base word ≡ base word
  written_other base word other =
      written-outside (erase_pairs begins ends) base word
      (λ y stored. let at = erased_where word y stored in other at.entry at.k at.low at.listed at.word_is)

-- ---- what may be erased

-- The stamps that are erased are in the directory, and no end among them counts.
pub record IsErasing (r : Record) (lines : ℕ) (base : Image) (begins ends : List EntryNo) : Type 0 where
  pub within : (i k : ℕ) → k < 2 → IsTrue (is_erased_at begins ends i k) → i < entries_of_lines r.layout lines
  pub uncounted : (i : ℕ) → IsTrue (is_listed i ends) → counts r (base (entry_word i 1)) ≡ false

-- the versions that are gone lost their begin, and an erased begin counted only if its version is gone
pub record AreGone (r : Record) (lines : ℕ) (base : Image) (begins : List EntryNo) (gone : ℕ → Bool) (image : Image) : Type 0 where
  pub zero_is : (i : ℕ) → i < entries_of_lines r.layout lines → gone i ≡ true → image (entry_word i 0) ≡ 0
  pub erased : (i : ℕ) → IsTrue (is_listed i begins) → image (entry_word i 0) ≡ 0 → gone i ≡ false → counts r (base (entry_word i 0)) ≡ false

pub erase_behind : {r : Record} {lines : ℕ} {base : Image} {begins ends : List EntryNo} → IsErasing r lines base begins ends
    → AreBehind r.layout lines (erase_pairs begins ends)
erase_behind {begins = begins} {ends} erasing word x stored =
    let at = erased_where begins ends word x stored in
    let within = erasing.within at.entry at.k at.low at.listed in
    inl (omega (arith, at.word_is), omega (arith, at.word_is, at.low, within))

module _ {r : Record} {lines : ℕ} {base : Image} {begins ends : List EntryNo} (sound : IsSound r lines base) (erasing : IsErasing r lines base begins ends) where
  pub harmless : IsHarmless r lines base (erase_pairs begins ends)
  harmless =
      record {
        behind = erase_behind erasing;
        end = λ i x within counted stored.
            let at = stamp_of begins ends i 1 x (omega arith) stored in ap (counts r) at.0 ∙ sym (erasing.uncounted i at.2);
        words = λ i k x within counted low below stored. omega (arith, low, (stamp_of begins ends i k x below stored).1);
        extents = λ i word x within counted at stored.
            let s = erased_where begins ends word x stored in
            omega (
              arith,
              at.low,
              (sound.entries i within counted).above,
              s.word_is,
              s.low,
              erasing.within s.entry s.k s.low s.listed,
              entries_fit r.layout lines,
            );
      }

  -- Such an image has lost just what is gone.
  pub erased_over : (gone : ℕ → Bool) (image : Image) → IsStoredOver (Matters r lines base) base (erase_pairs begins ends) image
      → AreGone r lines base begins gone image → IsErased r r lines gone base image
  erased_over gone image over are_gone =
      stored_erased gone sound harmless over
      (λ i within.
      let was : Bool = counts r (base (entry_word i 0)) in
      elim (cases_Bool (gone i)) [
        | inl is ↦ ap (counts r) (are_gone.zero_is i within is) ∙ sym (ap (λ (b : Bool). not b && was) is)
        | inr left ↦
            elim (over (entry_word i 0) (directory_matters r lines base i 0 within (omega arith))) [
              | inl same ↦ ap (counts r) same
              | inr stored ↦
                  let at = stamp_of begins ends i 0 (image (entry_word i 0)) (omega arith) stored in
                  ap (counts r) at.0 ∙ sym (are_gone.erased i at.2 at.0 left)
            ]
            ∙ sym (ap (λ (b : Bool). not b && was) left)
      ])

  pub erased_below : {top : ℕ} (image : Image) → IsStoredOver (Matters r lines base) base (erase_pairs begins ends) image → AreBelow r.layout lines base top
      → AreBelow r.layout lines image top
  erased_below image over below i k within low =
      let was = below i k within low in
      elim (over (entry_word i k) (directory_matters r lines base i k within (omega (arith, low)))) [
        | inl same ↦ omega (arith, same, was)
        | inr stored ↦ omega (arith, (stamp_of begins ends i k (image (entry_word i k)) (omega (arith, low)) stored).0, was)
      ]

-- ---- once they are stored

-- the entries of the erased begins are free, besides those that were
free_or : (begin cp : ℕ) (listed : Bool) → (cond listed 0 begin == 0 || nat_lt cp (cond listed 0 begin)) ≡ ((begin == 0 || nat_lt cp begin) || listed)
free_or begin cp true = sym (or_right (begin == 0 || nat_lt cp begin) true refl)
free_or begin cp false = sym (or-false (begin == 0 || nat_lt cp begin))

or_within : (a b c : Bool) → (c ≡ true → a ≡ true) → (a && (b || c)) ≡ ((a && b) || c)
or_within true b c inside = refl
or_within false b true inside = inside refl
or_within false b false inside = refl

pub made_free : {r : Record} {begins ends : List EntryNo} (d c : State) → IsErasing r d.lines (image_of d.words) begins ends
    → AgreesOn (Matters r d.lines (image_of d.words)) (written (erase_pairs begins ends) (image_of d.words)) (image_of c.words) → c.lines ≡ d.lines
    → (i : ℕ) → (contents_of r c).is_free i ≡ ((contents_of r d).is_free i || is_listed i begins)
made_free {r} {begins} {ends} d c erasing made same i =
    let was : ℕ = image_of d.words (entry_word i 0) in
    erased_free r c i ((was == 0 || nat_lt r.cp was) || is_listed i begins) same
    (λ within.
    ap (λ (x : ℕ). x == 0 || nat_lt r.cp x)
    (made (entry_word i 0) (directory_matters r d.lines (image_of d.words) i 0 within (omega arith)) ∙ written_stamp begins ends (image_of d.words) i 0 (omega arith))
    ∙ free_or was r.cp (is_listed i begins))
    ∙ or_within (nat_lt i (entries_of_lines r.layout d.lines)) (was == 0 || nat_lt r.cp was) (is_listed i begins)
    (λ listed. lt-ltb i (entries_of_lines r.layout d.lines) (erasing.within i 0 (omega arith) listed))

-- the lines of the entries are on the device
pub within_from : (d : State) (entries : List EntryNo) → ((i : ℕ) → IsTrue (is_listed i entries) → entry_line i < d.lines) → AreWithin d.lines entries
within_from d [] each = tt
within_from d (entry ∷ entries) each = (
  each entry.0 (or_left (nat_eq entry.0 entry.0) (is_listed entry.0 entries) (eq-eqb entry.0 entry.0 refl)),
  within_from d entries (λ i listed. each i (or_right (nat_eq i entry.0) (is_listed i entries) listed)),
)
