-- The two steps of writing the record of version 2: the body, and the root.
use Rattle.std.proofs.Common.{◌≡◌, ◌⊎◌, ℕ, ◌/◌, ◌≤◌, [], ◌∷◌, Result, OnOk, OnErr, refl, inl, inr, ap, subst, ◌∙◌, arith}
use Rattle.kv_types.specs.Keyspace.{Keyspace}
use Rattle.pmem.specs.Device.{State, MayBe}
use Rattle.pmem.specs.Runs.{LeavesOnly, Staged, StageFailed, IsStored}
use Rattle.pmem.proofs.Leaving.{LeavesOnly-then, LeavesOnly-weaken}
use Rattle.pmem.proofs.Staging.{IsStored-pairs_from, stored_or_outside}
use Rattle.model.specs.declared.layout.Layout.{Layout}
use Rattle.model.specs.declared.layout.Layout.TheVariants.{Version2, Halfway}
use Rattle.model.specs.declared.record.Record.{Record}
use Rattle.model.specs.Layout.{first_word}
use Rattle.model.specs.Image.{HasRecord, Image, record_words, root_word, slot_line}
use Rattle.model.proofs.RecordLemmas.{HasRecord-lines, length-record_words}
use Rattle.wbl_record.specs.Record.{IsRecordWord, body_lines, body_pairs, root_pairs}
use Rattle.wbl_record.proofs.Mixing.{IsMixed, mixed}
use Rattle.wbl_record.proofs.RecordLemmas.{recorded}
use Rattle.wbl_migrate.specs.Stage.{IsMovable}
use Rattle.wbl_migrate.specs.Steps.{KeepsOthers, Leaves}
use Rattle.wbl_migrate.proofs.MovableLemmas.{agrees_but_record, halfway_stays, itself, movable_at}
use Rattle.wbl_migrate.proofs.Touching.{IsStep, either_step, keeps_then, one_stored, staged_step, step_keeps}

-- ---- nothing that is written is read halfway

-- an image of the device but for words of the record
renewing_image : (a : State) (lines n : ℕ) (r : Record) (s : Keyspace) (image : Image) → 18 ≤ lines / 8 → Leaves a (IsMovable Halfway lines r s)
    → ((word : ℕ) → MayBe (a.words word) (image word) ⊎ IsRecordWord Version2 lines n word) → IsMovable Halfway lines r s image
renewing_image a lines n r s image room all which =
    let mix : IsMixed a.words (IsRecordWord Version2 lines n) image = mixed a.words (IsRecordWord Version2 lines n) image which in
    let movable : IsMovable Halfway lines r s mix.base = all mix.base mix.is in
    let same : (word : ℕ) → (IsRecordWord Version2 lines n word → ⊥) → image word ≡ mix.base word =
    λ word other. elim (mix.same word) [ inl e ↦ e | inr is ↦ absurd (other is) ] in
    let agrees = agrees_but_record lines n mix.base image room same in
    let version : image 1 ≡ mix.base 1 = same 1 (λ is. elim is [ inl e ↦ omega (arith, e) | inr slot ↦ omega (arith, slot.0) ]) in
    let was = movable.undamaged in
    movable_at Halfway Halfway lines r r s mix.base image refl (itself r movable.gapless) was.current.lawful (version ∙ was.superblock.version)
    (halfway_stays lines r mix.base image agrees was.current.has_record) agrees movable

module _ (next : Record) (layout : next.layout ≡ Version2) where
  -- the words of the record
  abbrev IsWritten : ℕ → ℕ → Type 0
  IsWritten lines word = IsRecordWord Version2 lines next.number word

  -- what is stored is of them
  body_within : (lines word x : ℕ) → IsStored (body_pairs lines next) word x → IsWritten lines word
  body_within lines word x stored =
      let at = IsStored-pairs_from (first_word (slot_line next.layout lines next.number)) (record_words next) word x stored in
      subst (λ (l : Layout). IsRecordWord l lines next.number word) layout (inr (omega (arith, at.0), omega (arith, at.1, length-record_words next)))

  root_within : (lines word x : ℕ) → IsStored (root_pairs next) word x → IsWritten lines word
  root_within lines word x stored = inl (one_stored (root_word next.layout) next.number word x stored ∙ ap root_word layout)

  pub body_moments : (a b : State) (r : Record) (s : Keyspace) → 18 ≤ a.lines / 8 → IsStep a b (body_pairs a.lines next)
      → Leaves a (IsMovable Halfway a.lines r s) → LeavesOnly a b (IsMovable Halfway a.lines r s)
  body_moments a b r s room body all =
      LeavesOnly-weaken (IsMovable Halfway a.lines r s)
      (λ image partly.
      renewing_image a a.lines next.number r s image room all
      (λ word. elim (partly word) [ inl may ↦ inl may | inr stored ↦ inr (body_within a.lines word (image word) stored) ]))
      body.moments

  pub root_moments : (a b c : State) (r : Record) (s : Keyspace) → 18 ≤ a.lines / 8 → Staged a b (body_pairs a.lines next) (body_lines a.lines next)
      → IsStep b c (root_pairs next) → Leaves a (IsMovable Halfway a.lines r s) → LeavesOnly a c (IsMovable Halfway a.lines r s)
  root_moments a b c r s room body root all =
      LeavesOnly-then (body_moments a b r s room (staged_step body) all)
      (LeavesOnly-weaken (IsMovable Halfway a.lines r s)
      (λ image partly.
      renewing_image a a.lines next.number r s image room all
      (λ word.
      elim (partly word) [
        | inl may ↦
            elim (stored_or_outside (body_pairs a.lines next) word) [
              | inl stored ↦ inr (body_within a.lines word stored.0 stored.1)
              | inr out ↦ inl (body.elsewhere word (image word) out may)
            ]
        | inr stored ↦ inr (root_within a.lines word (image word) stored)
      ]))
      root.moments)

  -- and no other word is written
  pub body_keeps : (a b : State) → IsStep a b (body_pairs a.lines next) → KeepsOthers a b (IsWritten a.lines)
  body_keeps a b body = step_keeps (IsWritten a.lines) (body_within a.lines) body

  pub root_keeps : (a b c : State) → IsStep a b (body_pairs a.lines next) → IsStep b c (root_pairs next) → KeepsOthers a c (IsWritten a.lines)
  root_keeps a b c body root = keeps_then (body_keeps a b body) (step_keeps (IsWritten a.lines) (root_within a.lines) root)

-- the record is durable
pub next_durable : {a b c : State} (next : Record) → Staged a b (body_pairs a.lines next) (body_lines a.lines next) → Staged b c (root_pairs next) (0 ∷ [])
    → Leaves c (HasRecord a.lines next)
next_durable next body root image is = HasRecord-lines (root.stays.lines ∙ body.stays.lines) ((recorded next body root).durable image is)

-- the root that was stored is its number
pub root_step : {T E : Type 0} {a b : State} {word : ℕ} (result : Result T E) (next : Record) → word ≡ root_word next.layout
    → OnOk result (Staged a b ((word, next.number) ∷ []) (0 ∷ [])) → OnErr result (StageFailed a b ((word, next.number) ∷ []))
    → IsStep a b (root_pairs next)
root_step {a = a} {b = b} {word = word} result next at ok err =
    subst (λ (w : ℕ). IsStep a b ((w, next.number) ∷ [])) at (either_step a b ((word, next.number) ∷ []) (0 ∷ []) result ok err)
