-- One step of the migration after the other.
use Rattle.std.proofs.Common.{◌≡◌, ◌⊎◌, ℕ, ◌+◌, ◌≤◌, refl, inl, inr, sym, subst}
use Rattle.kv_types.specs.Keyspace.{Keyspace}
use Rattle.pmem.specs.Device.{State}
use Rattle.pmem.specs.Crash.{IsImage}
use Rattle.pmem.specs.Runs.{LeavesOnly}
use Rattle.pmem.proofs.Leaving.{LeavesOnly-then, LeavesOnly-weaken}
use Rattle.model.specs.declared.image.TheConstants.{COUNTER_LIMIT}
use Rattle.model.specs.declared.layout.Layout.TheVariants.{Version1, Version2, Halfway}
use Rattle.model.specs.declared.record.Record.{Record}
use Rattle.model.specs.Image.{HasRecord, Image}
use Rattle.wbl_engine.proofs.LawfulLemmas.{below_limit}
use Rattle.wbl_migrate.specs.Stage.{IsMovable, KeepsMap, in_layout}
use Rattle.wbl_migrate.specs.Steps.{Leaves, IsAtSomeStage, IsHalfwayOrNew, IsRenewed, renewed}
use Rattle.wbl_migrate.proofs.MovableLemmas.{movable_holds}

-- ---- the map

halfway_or_new_keeps : (lines : ℕ) (r : Record) (s : Keyspace) (image : Image) → IsHalfwayOrNew lines r s image → KeepsMap lines r.position s image
halfway_or_new_keeps lines r s image (inl halfway) = record { current = in_layout Halfway r; position_is = refl; holds = movable_holds Halfway lines r s image halfway }
halfway_or_new_keeps lines r s image (inr new) = record { current = renewed r; position_is = refl; holds = movable_holds Version2 lines (renewed r) s image new }

some_stage_keeps : (lines : ℕ) (r : Record) (s : Keyspace) (image : Image) → IsAtSomeStage lines r s image → KeepsMap lines r.position s image
some_stage_keeps lines r s image (inl old) = record { current = in_layout Version1 r; position_is = refl; holds = movable_holds Version1 lines r s image old }
some_stage_keeps lines r s image (inr later) = halfway_or_new_keeps lines r s image later

pub halfway_map : (a b : State) (lines : ℕ) (r : Record) (s : Keyspace) → LeavesOnly a b (IsHalfwayOrNew lines r s)
    → LeavesOnly a b (KeepsMap lines r.position s)
halfway_map a b lines r s moments = LeavesOnly-weaken (KeepsMap lines r.position s) (halfway_or_new_keeps lines r s) moments

pub some_stage_map : (a b : State) (lines : ℕ) (r : Record) (s : Keyspace) → LeavesOnly a b (IsAtSomeStage lines r s)
    → LeavesOnly a b (KeepsMap lines r.position s)
some_stage_map a b lines r s moments = LeavesOnly-weaken (KeepsMap lines r.position s) (some_stage_keeps lines r s) moments

-- ---- from halfway on

-- only the record was written, or was not
pub record_moments : (a b : State) (lines : ℕ) (r : Record) (s : Keyspace) → LeavesOnly a b (IsMovable Halfway lines r s) → LeavesOnly a b (IsHalfwayOrNew lines r s)
record_moments a b lines r s moments = LeavesOnly-weaken (IsHalfwayOrNew lines r s) (λ image is. inl is) moments

-- it was written
pub renewed_images : (a b : State) (lines : ℕ) (r : Record) (s : Keyspace) → b.lines ≡ lines → LeavesOnly a b (IsMovable Halfway lines r s)
    → Leaves b (HasRecord lines (renewed r)) → (COUNTER_LIMIT ≤ r.number + 1 → ⊥) → Leaves b (IsRenewed b.lines r s)
renewed_images a b lines r s counted moments has room =
    subst (λ (n : ℕ). Leaves b (IsRenewed n r s)) (sym counted)
    (λ image is. record { movable = moments.each image (inl is); next = has image is; number = below_limit (r.number + 1) room })

pub new_images : (b c : State) (lines : ℕ) (r : Record) (s : Keyspace) → b.lines ≡ lines → Leaves c (IsMovable Version2 b.lines (renewed r) s)
    → Leaves c (IsMovable Version2 lines (renewed r) s)
new_images b c lines r s counted all = subst (λ (n : ℕ). Leaves c (IsMovable Version2 n (renewed r) s)) counted all

-- and then the mark
pub mark_moments : (a b c : State) (lines : ℕ) (r : Record) (s : Keyspace) → b.lines ≡ lines → LeavesOnly a b (IsMovable Halfway lines r s)
    → LeavesOnly b c (λ image. IsRenewed b.lines r s image ⊎ IsMovable Version2 b.lines (renewed r) s image) → LeavesOnly a c (IsHalfwayOrNew lines r s)
mark_moments a b c lines r s counted first second =
    LeavesOnly-then (record_moments a b lines r s first)
    (subst (λ (n : ℕ). LeavesOnly b c (IsHalfwayOrNew n r s)) counted
    (LeavesOnly-weaken (IsHalfwayOrNew b.lines r s) (λ image is. elim is [ inl before ↦ inl before.movable | inr new ↦ inr new ]) second))

-- ---- from version 1 on

pub halfway_images : (b : State) (lines : ℕ) (r : Record) (s : Keyspace) → b.lines ≡ lines → Leaves b (IsMovable Halfway lines r s)
    → Leaves b (IsMovable Halfway b.lines r s)
halfway_images b lines r s counted all = subst (λ (n : ℕ). Leaves b (IsMovable Halfway n r s)) (sym counted) all

pub first_mark_moments : (a b : State) (lines : ℕ) (r : Record) (s : Keyspace)
    → LeavesOnly a b (λ image. IsMovable Version1 lines r s image ⊎ IsMovable Halfway lines r s image) → LeavesOnly a b (IsAtSomeStage lines r s)
first_mark_moments a b lines r s moments =
    LeavesOnly-weaken (IsAtSomeStage lines r s) (λ image is. elim is [ inl old ↦ inl old | inr halfway ↦ inr (inl halfway) ]) moments

pub all_moments : (a b c : State) (lines : ℕ) (r : Record) (s : Keyspace) → b.lines ≡ lines
    → LeavesOnly a b (λ image. IsMovable Version1 lines r s image ⊎ IsMovable Halfway lines r s image) → LeavesOnly b c (IsHalfwayOrNew b.lines r s)
    → LeavesOnly a c (IsAtSomeStage lines r s)
all_moments a b c lines r s counted first second =
    LeavesOnly-then (first_mark_moments a b lines r s first)
    (subst (λ (n : ℕ). LeavesOnly b c (IsAtSomeStage n r s)) counted (LeavesOnly-weaken (IsAtSomeStage b.lines r s) (λ image is. inr is) second))

-- the same, where an image without the mark is one that could be left before it
pub first_mark_unmarked : (a b : State) (lines : ℕ) (r : Record) (s : Keyspace)
    → LeavesOnly a b (λ image. IsImage a.words image ⊎ IsMovable Halfway lines r s image)
    → LeavesOnly a b (λ image. IsImage a.words image ⊎ IsHalfwayOrNew lines r s image)
first_mark_unmarked a b lines r s moments =
    LeavesOnly-weaken (λ image. IsImage a.words image ⊎ IsHalfwayOrNew lines r s image)
    (λ image is. elim is [ inl before ↦ inl before | inr halfway ↦ inr (inl halfway) ]) moments

pub all_unmarked : (a b c : State) (lines : ℕ) (r : Record) (s : Keyspace) → b.lines ≡ lines
    → LeavesOnly a b (λ image. IsImage a.words image ⊎ IsMovable Halfway lines r s image) → LeavesOnly b c (IsHalfwayOrNew b.lines r s)
    → LeavesOnly a c (λ image. IsImage a.words image ⊎ IsHalfwayOrNew lines r s image)
all_unmarked a b c lines r s counted first second =
    LeavesOnly-then (first_mark_unmarked a b lines r s first)
    (LeavesOnly-weaken (λ image. IsImage a.words image ⊎ IsHalfwayOrNew lines r s image) (λ image is. inr is)
    (subst (λ (n : ℕ). LeavesOnly b c (IsHalfwayOrNew n r s)) counted second))
