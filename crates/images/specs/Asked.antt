-- What is lost, and what a person says to it.
use Rattle.std.specs.Prelude.{◌≡◌, ◌⊎◌, ℕ, ◌<◌, ◌≤◌, Some, List, ◌++◌, codes}
use Rattle.kv_types.specs.declared.refusal.Refusal.{Refusal}
use Rattle.kv_types.specs.declared.refusal.Refusal.TheVariants.{Damaged as BreaksRule}
use Rattle.heap_layout.specs.Superblock.{super_refusal}
use Rattle.model.specs.declared.record.Record.{Record}
use Rattle.model.specs.Image.{Image}
use Rattle.wbl_engine.specs.Lawful.{IsUndamaged}
use Rattle.wbl_engine.specs.Reopening.{RefusesReading, layout_in}
use Rattle.images.specs.Told.{newline}
use Rattle.images.specs.declared.losing.Held.{Held}
use Rattle.images.specs.declared.losing.Loss.{Loss}
use Rattle.images.specs.declared.losing.Loss.TheVariants.{Damaged, Image as Whole}

-- the line by which a person lets something be lost
abbrev pub yes_line : List ℕ
yes_line = codes "yes" ++ newline

-- An undamaged image is above position 0, and this is what its record says.
pub record IsHeld (lines : ℕ) (image : Image) (held : Held) : Type 0 where
  pub current : Record
  pub undamaged : IsUndamaged lines current image
  pub above : 0 < current.position
  pub position : held.position ≡ current.position
  pub epoch : held.epoch ≡ current.epoch
  pub role : held.role ≡ current.role

-- An undamaged image is at position 0.
pub record IsEmpty (lines : ℕ) (image : Image) : Type 0 where
  pub current : Record
  pub undamaged : IsUndamaged lines current image
  pub empty : current.position ≡ 0

-- the superblock is no image's
pub record IsNone (lines : ℕ) (image : Image) : Type 0 where
  pub refusal : Refusal
  pub refused : super_refusal (layout_in image) lines image ≡ Some refusal

-- there is nothing to lose
abbrev pub HoldsNothing : ℕ → Image → Type 0
HoldsNothing lines image = IsNone lines image ⊎ IsEmpty lines image

-- what is lost with an image
abbrev pub IsLoss : (lines : ℕ) (image : Image) → Loss → Type 0
IsLoss lines image (Whole held) = IsHeld lines image held
IsLoss lines image Damaged = RefusesReading (layout_in image) lines image BreaksRule

-- an undamaged image is at this position or above it
pub record IsAtLeast (lines : ℕ) (image : Image) (least : ℕ) : Type 0 where
  pub current : Record
  pub undamaged : IsUndamaged lines current image
  pub reached : least ≤ current.position
