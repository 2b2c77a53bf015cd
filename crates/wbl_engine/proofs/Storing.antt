-- Stores over a device, what a crash leaves of them, and what it leaves as it was.
use Rattle.std.proofs.Common.{◌≡◌, ℕ, ◌/◌, ◌<◌, ◌≤◌, ◌⊎◌, inl, inr, List, refl, sym, subst, ◌∙◌, arith}
use Rattle.pmem.specs.Device.{Word, State, MayBe, Only}
use Rattle.pmem.specs.Crash.{IsImage, image_of}
use Rattle.pmem.specs.Runs.{Staged, IsStored, IsOutside, IsPartlyStored, IsLine, written}
use Rattle.pmem.proofs.Staging.{written-cases, written-outside, stored_or_outside}
use Rattle.model.specs.declared.record.Record.{Record}
use Rattle.model.specs.declared.image.TheConstants.{MIN_LINES}
use Rattle.model.specs.declared.layout.Layout.{Layout}
use Rattle.model.specs.declared.layout.TheConstants.{DIRECTORY_LINE}
use Rattle.model.specs.Layout.{directory_end, first_extent_line, first_word, root_word}
use Rattle.model.specs.Image.{Image, HasRecord}
use Rattle.model.proofs.LayoutLemmas.{root_in, slot_at, slots_within}
use Rattle.model.proofs.RecordLemmas.{HasRecord-lines}
use Rattle.wbl_record.specs.Record.{IsRecorded, IsRecordWord}
use Rattle.wbl_record.proofs.Mixing.{IsMixed, mixed}
use Rattle.wbl_record.proofs.RecordWords.{HasRecord-same}
use Rattle.wbl_engine.specs.Reopening.{IsBesideRecords}

-- ---- some words

-- each crash leaves these words as loads return them
abbrev pub AreCertain : (ℕ → Type 0) → State → Type 0
AreCertain W d = (word : ℕ) → W word → Only (d.words word) (image_of d.words word)

-- the image has these words of the base
abbrev pub AgreesOn : (ℕ → Type 0) → Image → Image → Type 0
AgreesOn W base image = (word : ℕ) → W word → image word ≡ base word

-- each of these words is as in the base, or one of the pairs is stored there
abbrev pub IsStoredOver : (ℕ → Type 0) → Image → List (ℕ × ℕ) → Image → Type 0
IsStoredOver W base pairs image = (word : ℕ) → W word → (image word ≡ base word) ⊎ IsStored pairs word (image word)

pub written_over : (W : ℕ → Type 0) (base image : Image) (pairs : List (ℕ × ℕ)) → AgreesOn W (written pairs base) image
    → IsStoredOver W base pairs image
written_over W base image pairs same word of =
    elim (written-cases pairs base word) [
      | inl out ↦ inl (same word of ∙ out.1)
      | inr stored ↦ inr (subst (λ (x : ℕ). IsStored pairs word x) (sym (same word of)) stored)
    ]

pub partly_over : (W : ℕ → Type 0) (d : State) (image : Image) (pairs : List (ℕ × ℕ)) → AreCertain W d → IsPartlyStored pairs d.words image
    → IsStoredOver W (image_of d.words) pairs image
partly_over W d image pairs certain partly word of =
    elim (partly word) [ inl may ↦ inl ((certain word of).only (image word) may) | inr stored ↦ inr stored ]

-- ---- the record

-- the word is in the directory or in the extents
abbrev pub IsBehind : Layout → ℕ → ℕ → Type 0
IsBehind layout lines word =
    ((first_word DIRECTORY_LINE ≤ word) × (word < first_word (directory_end layout lines))) ⊎ (first_word (first_extent_line lines) ≤ word)

-- no pair is stored in the superblock or in a slot
abbrev pub AreBehind : Layout → ℕ → List (ℕ × ℕ) → Type 0
AreBehind layout lines pairs = (word x : ℕ) → IsStored pairs word x → IsBehind layout lines word

-- a word beside the records is none of a record
pub beside_record : (layout : Layout) (lines n word : ℕ) → MIN_LINES ≤ lines → IsBesideRecords layout lines word → IsRecordWord layout lines n word → ⊥
beside_record layout lines n word many (inl before) (inl root) = omega (arith, before, root, (root_in layout).behind)
beside_record layout lines n word many (inl before) (inr slot) = omega (arith, before, slot.0, (slot_at layout lines n).behind)
beside_record layout lines n word many (inr (inl directory)) (inl root) = omega (arith, directory.0, root, (root_in layout).within)
beside_record layout lines n word many (inr (inl directory)) (inr slot) =
    elim (slot_at layout lines n).apart [ inl low ↦ omega (arith, directory.0, slot.1, low) | inr high ↦ omega (arith, directory.1, slot.0, high) ]
beside_record layout lines n word many (inr (inr extents)) (inl root) = omega (arith, extents, root, (root_in layout).within)
beside_record layout lines n word many (inr (inr extents)) (inr slot) =
    omega (arith, extents, slot.1, (slot_at layout lines n).within, slots_within layout lines many)

-- of an image that has as many lines
pub beside_at : (layout : Layout) {lines lines' : ℕ} (n word : ℕ) → lines' ≡ lines → MIN_LINES ≤ lines → IsBesideRecords layout lines word
    → IsRecordWord layout lines' n word → ⊥
beside_at layout {lines} n word same many beside of =
    beside_record layout lines n word many beside (subst (λ (count : ℕ). IsRecordWord layout count n word) same of)

-- and of a record that has the same layout
pub beside_next : {layout : Layout} {lines lines' : ℕ} (next : Record) → next.layout ≡ layout → lines' ≡ lines → MIN_LINES ≤ lines → (word : ℕ)
    → IsBesideRecords layout lines word → IsRecordWord next.layout lines' next.number word → ⊥
beside_next {layout} {lines} {lines'} next is same many word beside of =
    beside_at layout next.number word same many beside (subst (λ (l : Layout). IsRecordWord l lines' next.number word) is of)

-- an image has the record that each crash left, where it differs in the directory and in the extents alone
kept_record : {r : Record} {lines : ℕ} (words : ℕ → Word) (image : Image) → MIN_LINES ≤ lines → ((old : Image) → IsImage words old → HasRecord lines r old)
    → ((word : ℕ) → MayBe (words word) (image word) ⊎ IsBehind r.layout lines word) → HasRecord lines r image
kept_record {r} {lines} words image many recorded which =
    let mix : IsMixed words (IsBehind r.layout lines) image = mixed words (IsBehind r.layout lines) image which in
    let same : (word : ℕ) → IsRecordWord r.layout lines r.number word → image word ≡ mix.base word =
    λ word of. elim (mix.same word) [ inl e ↦ e | inr behind ↦ absurd (beside_record r.layout lines r.number word many (inr behind) of) ] in
    HasRecord-same lines r mix.base image (same (root_word r.layout) (inl refl)) (λ word low high. same word (inr (low, high))) (recorded mix.base mix.is)

pub partly_recorded : {r : Record} (d : State) (image : Image) (pairs : List (ℕ × ℕ)) → MIN_LINES ≤ d.lines → AreBehind r.layout d.lines pairs
    → ((old : Image) → IsImage d.words old → HasRecord d.lines r old) → IsPartlyStored pairs d.words image → HasRecord d.lines r image
partly_recorded d image pairs many behind recorded partly =
    kept_record d.words image many recorded (λ word. elim (partly word) [ inl may ↦ inl may | inr stored ↦ inr (behind word (image word) stored) ])

pub staged_recorded : {r : Record} {d b : State} {pairs : List (ℕ × ℕ)} {lines : List ℕ} → MIN_LINES ≤ d.lines → AreBehind r.layout d.lines pairs
    → Staged d b pairs lines → ((image : Image) → IsImage d.words image → HasRecord d.lines r image) → (image : Image) → IsImage b.words image
    → HasRecord b.lines r image
staged_recorded {r} {d} {b} {pairs} many behind staged recorded image is =
    HasRecord-lines (sym staged.stays.lines)
    (kept_record d.words image many recorded
    (λ word.
    elim (stored_or_outside pairs word) [
      | inl stored ↦ inr (behind word stored.0 stored.1)
      | inr out ↦ inl (staged.elsewhere word (image word) out (is word))
    ]))

-- ---- certain words

-- where the line of each store is flushed, a word is certain if it is stored or was certain
pub staged_only : {d b : State} {pairs : List (ℕ × ℕ)} {lines : List ℕ} → ((word x : ℕ) → IsStored pairs word x → IsLine lines (word / 8))
    → Staged d b pairs lines → (word : ℕ) → (IsOutside pairs word → Only (d.words word) (image_of d.words word))
    → Only (b.words word) (image_of b.words word)
staged_only {d} {b} {pairs} lined staged word was =
    elim (stored_or_outside pairs word) [
      | inl stored ↦
          subst (λ (x : ℕ). Only (b.words word) x) (sym (staged.newest word)) (staged.certain word (lined word stored.0 stored.1))
      | inr out ↦
          record {
            only = λ y may.
                (was out).only y (staged.elsewhere word y out may) ∙ sym (staged.newest word ∙ written-outside pairs (image_of d.words) word out);
          }
    ]

pub recorded_only : {d c : State} {next : Record} → IsRecorded d c next → (word : ℕ) → (IsRecordWord next.layout d.lines next.number word → ⊥)
    → Only (d.words word) (image_of d.words word) → Only (c.words word) (image_of c.words word)
recorded_only recorded word out was =
    record { only = λ y may. was.only y (recorded.elsewhere word y out may) ∙ sym (recorded.newest word out) }
