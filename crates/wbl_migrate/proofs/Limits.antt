-- Why a migration says that a counter is at its limit.
use Rattle.std.proofs.Common.{◌≡◌, ◌⊎◌, ◌+◌, ◌≤◌, IfErr, None, ℕ, Result, Ok, Err, arith, inl, inr, sym, ap, subst, ◌∙◌}
use Rattle.kv_types.specs.declared.refusal.Refusal.{Refusal}
use Rattle.kv_types.specs.declared.refusal.Refusal.TheVariants.{Damaged, Exhausted}
use Rattle.kv_types.specs.Keyspace.{Keyspace}
use Rattle.pmem.specs.Device.{State}
use Rattle.pmem.specs.Crash.{image_of}
use Rattle.model.specs.declared.image.TheConstants.{COUNTER_LIMIT}
use Rattle.model.specs.declared.layout.Layout.TheVariants.{Version1, Halfway}
use Rattle.model.specs.declared.record.Record.{Record}
use Rattle.model.specs.Layout.{version}
use Rattle.model.specs.Image.{HasSuperblock, Image}
use Rattle.heap_layout.specs.Superblock.{super_refusal}
use Rattle.wbl_engine.specs.Relocating.{ExhaustsRelocation}
use Rattle.wbl_engine.specs.Reopening.{ExhaustsReopening, RefusesReopening}
use Rattle.wbl_migrate.specs.Limits.{IsAtLimit}
use Rattle.wbl_migrate.specs.Migrating.{GoesOnFrom, HasGapless, IsHalfwayImage, IsMigratable, IsOldImage}
use Rattle.wbl_migrate.specs.Stage.{IsMovable}
use Rattle.wbl_migrate.specs.Steps.{Leaves}
use Rattle.wbl_migrate.specs.Vacating.{StaysOldWith}
use Rattle.wbl_migrate.proofs.Migratable.{IsTold, halfway_record}
use Rattle.wbl_migrate.proofs.Picks.{none_some}

-- what is told of a cause, but for damage, is the cause
pub told_cause : {cause told : Refusal} (x : Refusal) → ¬ (Damaged ≡ x) → IsTold cause told → told ≡ x → cause ≡ x
told_cause x other is same = elim is.other [ inl wrong ↦ absurd (other (sym (is.wrong wrong) ∙ same)) | inr told ↦ sym told ∙ same ]

reopening_exhausts : (lines : ℕ) (image : Image) (q r : Record) (s : Keyspace) → super_refusal Version1 lines image ≡ None → IsOldImage lines r s image
    → RefusesReopening Version1 lines image q.role Exhausted → ExhaustsReopening r
reopening_exhausts lines image q r s whole old refuses =
    elim refuses [
      | inl (inl super) ↦ absurd (none_some (sym whole ∙ super))
      | inl (inr (inl none)) ↦ let is = none.0 in absurd (cc)
      | inl (inr (inr memory)) ↦ absurd (cc)
      | inr (inl role) ↦ let is = role.0 in absurd (cc)
      | inr (inr exhausted) ↦ exhausted.1 r old.undamaged
    ]

-- while the entries were emptied
pub vacating_exhausts : (lines : ℕ) (image : Image) (q r : Record) (s : Keyspace) (d : State) → super_refusal Version1 lines image ≡ None
    → IsOldImage lines r s image
    → RefusesReopening Version1 lines image q.role Exhausted ⊎ Leaves d (StaysOldWith (λ current _. ExhaustsRelocation 1 current) lines r s)
    → IsAtLimit lines r s d
vacating_exhausts lines image q r s d whole old told =
    elim told [ inl refuses ↦ inl (inl (reopening_exhausts lines image q r s whole old refuses)) | inr left ↦ inr (inl left) ]

-- when they were
pub switching_exhausts : (lines : ℕ) (r q : Record) (s : Keyspace) (d e : State) → GoesOnFrom r q → Leaves d (IsMovable Version1 lines q s)
    → (COUNTER_LIMIT ≤ q.number + 1) × (e ≡ d) → IsAtLimit lines r s e
switching_exhausts lines r q s d e goes movable told =
    inr (inr (record { current = q; goes_on = goes; last = told.0; movable = subst (λ (x : State). Leaves x (IsMovable Version1 lines q s)) (sym told.1) movable }))

-- halfway
pub finishing_exhausts : (d e : State) (r q : Record) (s : Keyspace) → HasGapless d.lines (image_of d.words) q
    → IsHalfwayImage d.lines r s (image_of d.words) → COUNTER_LIMIT ≤ q.number + 1 → IsAtLimit d.lines r s e
finishing_exhausts d e r q s current halfway last =
    inl (inr (subst (λ (x : Record). COUNTER_LIMIT ≤ x.number + 1) (halfway_record d.lines r q s (image_of d.words) halfway current) last))

-- ---- the stage

-- what a refusal says, said of it otherwise
pub if_err : {T E : Type 0} {P Q : E → Type 0} (result : Result T E) → IfErr result P → ((e : E) → P e → Q e) → IfErr result Q
if_err (Ok value) holds then = tt
if_err (Err e) holds then = then e holds

-- an image that can be migrated on, by its version
pub only_old : (lines : ℕ) (r : Record) (s : Keyspace) (image : Image) → HasSuperblock Version1 lines image → IsMigratable lines r s image
    → IsOldImage lines r s image
only_old lines r s image has (inl old) = old
only_old lines r s image has (inr (inl halfway)) =
    let a = has.version in let b = halfway.is.undamaged.superblock.version ∙ ap version halfway.is.layout in absurd (omega (arith, a, b))
only_old lines r s image has (inr (inr new)) =
    let a = has.version in let b = new.undamaged.superblock.version ∙ ap version new.layout in absurd (omega (arith, a, b))

pub only_halfway : (lines : ℕ) (r : Record) (s : Keyspace) (image : Image) → HasSuperblock Halfway lines image → IsMigratable lines r s image
    → IsHalfwayImage lines r s image
only_halfway lines r s image has (inl old) =
    let a = has.version in let b = old.undamaged.superblock.version ∙ ap version old.layout in absurd (omega (arith, a, b))
only_halfway lines r s image has (inr (inl halfway)) = halfway
only_halfway lines r s image has (inr (inr new)) =
    let a = has.version in let b = new.undamaged.superblock.version ∙ ap version new.layout in absurd (omega (arith, a, b))
