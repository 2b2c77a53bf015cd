-- What the last steps of the migration do to a device.
use Rattle.std.specs.Prelude.{◌≡◌, ◌⊎◌, ℕ, ◌+◌, ◌<◌, []}
use Rattle.kv_types.specs.Keyspace.{Keyspace}
use Rattle.pmem.specs.Device.{State, MayBe}
use Rattle.pmem.specs.Crash.{IsImage, image_of}
use Rattle.pmem.specs.Runs.{Stays}
use Rattle.model.specs.declared.image.TheConstants.{COUNTER_LIMIT}
use Rattle.model.specs.declared.layout.Layout.TheVariants.{Version1, Version2, Halfway}
use Rattle.model.specs.declared.record.Record.{Record}
use Rattle.model.specs.Image.{Image, HasRecord}
use Rattle.wbl_record.specs.Record.{IsRecordWord}
use Rattle.wbl_migrate.specs.declared.marking.TheConstants.{VERSION_WORD}
use Rattle.wbl_migrate.specs.Stage.{IsMovable}

-- each image that a crash may leave now satisfies P
abbrev pub Leaves : State → (Image → Type 0) → Type 0
Leaves d P = (image : Image) → IsImage d.words image → P image

-- no other word changed: neither what loads return of it, nor what a crash may leave of it
pub record KeepsOthers (old new : State) (IsWritten : ℕ → Type 0) : Type 0 where
  pub newest : (word : ℕ) → (IsWritten word → ⊥) → image_of new.words word ≡ image_of old.words word
  pub left : (word y : ℕ) → (IsWritten word → ⊥) → MayBe (new.words word) y → MayBe (old.words word) y
  pub stays : Stays old new

-- ---- the record of version 2

-- the record of version 2 that follows: the next number, no gap, its position as the floor, and all else as it was
abbrev pub renewed : Record → Record
renewed r = record r { layout = Version2; number = r.number + 1; gaps = record { items = [] }; floor = r.position }

-- halfway, with the record of version 2 written, which nothing reads yet, and whose number is below the limit
pub record IsRenewed (lines : ℕ) (r : Record) (s : Keyspace) (image : Image) : Type 0 where
  pub movable : IsMovable Halfway lines r s image
  pub next : HasRecord lines (renewed r) image
  pub number : (renewed r).number < COUNTER_LIMIT

-- ---- all steps

-- the word is the version, or one of the record of version 2 that follows r
abbrev pub IsSwitchWord : ℕ → Record → ℕ → Type 0
IsSwitchWord lines r word = (word ≡ VERSION_WORD) ⊎ IsRecordWord Version2 lines (r.number + 1) word

-- the keyspace under the record halfway, or under the next record in an image of version 2
abbrev pub IsHalfwayOrNew : ℕ → Record → Keyspace → Image → Type 0
IsHalfwayOrNew lines r s image = IsMovable Halfway lines r s image ⊎ IsMovable Version2 lines (renewed r) s image

-- the same, or under the record in an image of version 1
abbrev pub IsAtSomeStage : ℕ → Record → Keyspace → Image → Type 0
IsAtSomeStage lines r s image = IsMovable Version1 lines r s image ⊎ IsHalfwayOrNew lines r s image
