-- What another format has left where a new image is to be made.
use Rattle.std.specs.Prelude.{◌≡◌, ℕ, ◌≤◌, ◌<◌, ◌*◌}
use Rattle.model.specs.declared.layout.TheConstants.{DIRECTORY_LINE, LAYOUT}
use Rattle.model.specs.declared.record.Record.{Record}
use Rattle.model.specs.Layout.{first_slot_line}
use Rattle.model.specs.Image.{Image, first_extent_line}
use Rattle.wbl_engine.specs.Lawful.{IsUndamaged}
use Rattle.images.specs.declared.formatting.NewImage.{NewImage}

-- the first record of this image: each opening writes another one
pub record IsFirst (new : NewImage) (current : Record) : Type 0 where
  pub number : current.number ≡ 1
  pub position : current.position ≡ 0
  pub role : current.role ≡ new.role
  pub epoch : current.epoch ≡ new.epoch

-- An undamaged image has the first record of this new one.
pub record IsUnused (lines : ℕ) (new : NewImage) (image : Image) : Type 0 where
  pub current : Record
  pub undamaged : IsUndamaged lines current image
  pub first : IsFirst new current

-- all words of the lines from the first on, up to the second, are zero
abbrev pub AreZero : (first end : ℕ) → Image → Type 0
AreZero first end image = (word : ℕ) → word < 8 * end → 8 * first ≤ word → image word ≡ 0

-- There is no magic, and nothing but zeros where an image of so many lines has its entries and what they hold, and behind it, up to the end.
pub record IsUnfinished (lines end : ℕ) (image : Image) : Type 0 where
  pub magic : image 0 ≡ 0
  pub entries : AreZero DIRECTORY_LINE (first_slot_line LAYOUT lines) image
  pub extents : AreZero (first_extent_line lines) end image

-- That is so of an image of all lines, or of some first ones.
pub record IsLeft (end : ℕ) (image : Image) : Type 0 where
  pub lines : ℕ
  pub within : lines ≤ end
  pub unfinished : IsUnfinished lines end image
