-- What the marks leave.
use Rattle.std.proofs.Common.{◌≡◌, ◌⊎◌, ◌≢◌, ℕ, [], ◌∷◌, Result, OnOk, OnErr, refl, inl, inr, subst}
use Rattle.kv_types.specs.Keyspace.{Keyspace}
use Rattle.pmem.specs.Device.{State}
use Rattle.pmem.specs.Crash.{IsImage}
use Rattle.pmem.specs.Runs.{LeavesOnly, Staged, StageFailed, IsPartlyStored, IsStored}
use Rattle.pmem.proofs.Leaving.{LeavesOnly-weaken}
use Rattle.model.specs.declared.layout.Layout.TheVariants.{Version1, Version2, Halfway}
use Rattle.model.specs.declared.record.Record.{Record}
use Rattle.model.specs.Image.{Image}
use Rattle.wbl_record.proofs.Mixing.{IsMixed, mixed}
use Rattle.wbl_migrate.specs.declared.marking.TheConstants.{VERSION_WORD}
use Rattle.wbl_migrate.specs.Stage.{IsMovable, in_layout}
use Rattle.wbl_migrate.specs.Steps.{Leaves, IsRenewed, renewed}
use Rattle.wbl_migrate.proofs.MovableLemmas.{agrees_but_version, halfway_lawful, itself, movable_at, record_stays, renewed_lawful}
use Rattle.wbl_migrate.proofs.Touching.{IsStep, either_step, one_word, one_stored, value_stored}

-- ---- a mark

-- an image that a mark leaves, where it is stored: from the image before, only the version has changed
record IsMarked (d : State) (image : Image) : Type 0 where
  base : Image
  is : IsImage d.words base
  same : (word : ℕ) → word ≢ 1 → image word ≡ base word

marked : (d : State) (value : ℕ) (image : Image) → IsPartlyStored ((VERSION_WORD, value) ∷ []) d.words image → IsMarked d image
marked d value image partly =
    let mix : IsMixed d.words (λ word. IsStored ((VERSION_WORD, value) ∷ []) word (image word)) image =
    mixed d.words (λ word. IsStored ((VERSION_WORD, value) ∷ []) word (image word)) image partly in
    record {
      base = mix.base;
      is = mix.is;
      same = λ word other. elim (mix.same word) [ inl e ↦ e | inr stored ↦ absurd (other (one_stored VERSION_WORD value word (image word) stored)) ];
    }

pub halfway_image : (d : State) (lines : ℕ) (r : Record) (s : Keyspace) (image : Image) → Leaves d (IsMovable Version1 lines r s)
    → IsPartlyStored ((VERSION_WORD, 3) ∷ []) d.words image → image 1 ≡ 3 → IsMovable Halfway lines r s image
halfway_image d lines r s image all partly version =
    let mark : IsMarked d image = marked d 3 image partly in
    let movable : IsMovable Version1 lines r s mark.base = all mark.base mark.is in
    let same = agrees_but_version lines mark.base image mark.same in
    let current = movable.undamaged.current in
    let has = current.has_record in
    movable_at Version1 Halfway lines r r s mark.base image refl (itself r movable.gapless) (halfway_lawful r current.lawful) version
    (record_stays lines (in_layout Halfway r) mark.base image mark.same (record { root = has.root; words = has.words })) same movable

pub new_image : (d : State) (lines : ℕ) (r : Record) (s : Keyspace) (image : Image) → Leaves d (IsRenewed lines r s)
    → IsPartlyStored ((VERSION_WORD, 2) ∷ []) d.words image → image 1 ≡ 2 → IsMovable Version2 lines (renewed r) s image
new_image d lines r s image all partly version =
    let mark : IsMarked d image = marked d 2 image partly in
    let is : IsRenewed lines r s mark.base = all mark.base mark.is in
    movable_at Halfway Version2 lines r (renewed r) s mark.base image refl (record { cp = refl; cd = refl; position = refl; role = refl; gapless = refl })
    (renewed_lawful r is.movable.undamaged.current.lawful is.number) version
    (record_stays lines (renewed r) mark.base image mark.same is.next) (agrees_but_version lines mark.base image mark.same) is.movable

-- what stores the version, by the number that it is
pub mark_stored : {T E : Type 0} {a b : State} (result : Result T E) (number value : ℕ) → number ≡ value
    → OnOk result (Staged a b ((VERSION_WORD, number) ∷ []) (0 ∷ [])) → OnErr result (StageFailed a b ((VERSION_WORD, number) ∷ []))
    → IsStep a b ((VERSION_WORD, value) ∷ [])
mark_stored {a = a} {b = b} result number value is ok err =
    subst (λ (n : ℕ). IsStep a b ((VERSION_WORD, n) ∷ [])) is (either_step a b ((VERSION_WORD, number) ∷ []) (0 ∷ []) result ok err)

pub halfway_ok : (a b : State) (number lines : ℕ) (r : Record) (s : Keyspace) → number ≡ 3 → Staged a b ((VERSION_WORD, number) ∷ []) (0 ∷ [])
    → Leaves a (IsMovable Version1 lines r s) → Leaves b (IsMovable Halfway lines r s)
halfway_ok a b number lines r s is_three stored all image is =
    let staged : Staged a b ((VERSION_WORD, 3) ∷ []) (0 ∷ []) = subst (λ (n : ℕ). Staged a b ((VERSION_WORD, n) ∷ []) (0 ∷ [])) is_three stored in
    halfway_image a lines r s image all (staged.moments.each image (inl is)) ((staged.certain 1 (inl refl)).only (image 1) (is 1))

pub halfway_unmarked : (a b : State) (lines : ℕ) (r : Record) (s : Keyspace) → IsStep a b ((VERSION_WORD, 3) ∷ []) → Leaves a (IsMovable Version1 lines r s)
    → LeavesOnly a b (λ image. IsImage a.words image ⊎ IsMovable Halfway lines r s image)
halfway_unmarked a b lines r s step all =
    LeavesOnly-weaken (λ image. IsImage a.words image ⊎ IsMovable Halfway lines r s image)
    (λ image partly.
    elim (partly 1) [
      | inl may ↦ inl (one_word a.words 1 3 image partly may)
      | inr stored ↦ inr (halfway_image a lines r s image all partly (value_stored 1 3 1 (image 1) stored))
    ])
    step.moments

pub halfway_moments : (a b : State) (lines : ℕ) (r : Record) (s : Keyspace) → IsStep a b ((VERSION_WORD, 3) ∷ []) → Leaves a (IsMovable Version1 lines r s)
    → LeavesOnly a b (λ image. IsMovable Version1 lines r s image ⊎ IsMovable Halfway lines r s image)
halfway_moments a b lines r s step all =
    LeavesOnly-weaken (λ image. IsMovable Version1 lines r s image ⊎ IsMovable Halfway lines r s image)
    (λ image is. elim is [ inl before ↦ inl (all image before) | inr halfway ↦ inr halfway ]) (halfway_unmarked a b lines r s step all)

pub new_ok : (a b : State) (number lines : ℕ) (r : Record) (s : Keyspace) → number ≡ 2 → Staged a b ((VERSION_WORD, number) ∷ []) (0 ∷ [])
    → Leaves a (IsRenewed lines r s) → Leaves b (IsMovable Version2 lines (renewed r) s)
new_ok a b number lines r s is_two stored all image is =
    let staged : Staged a b ((VERSION_WORD, 2) ∷ []) (0 ∷ []) = subst (λ (n : ℕ). Staged a b ((VERSION_WORD, n) ∷ []) (0 ∷ [])) is_two stored in
    new_image a lines r s image all (staged.moments.each image (inl is)) ((staged.certain 1 (inl refl)).only (image 1) (is 1))

pub new_moments : (a b : State) (lines : ℕ) (r : Record) (s : Keyspace) → IsStep a b ((VERSION_WORD, 2) ∷ []) → Leaves a (IsRenewed lines r s)
    → LeavesOnly a b (λ image. IsRenewed lines r s image ⊎ IsMovable Version2 lines (renewed r) s image)
new_moments a b lines r s step all =
    LeavesOnly-weaken (λ image. IsRenewed lines r s image ⊎ IsMovable Version2 lines (renewed r) s image)
    (λ image partly.
    elim (partly 1) [
      | inl may ↦ inl (all image (one_word a.words 1 2 image partly may))
      | inr stored ↦ inr (new_image a lines r s image all partly (value_stored 1 2 1 (image 1) stored))
    ])
    step.moments
