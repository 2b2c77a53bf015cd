-- The number of the pair that an image belongs to: a word of its superblock, which says nothing else (this project's profile).
use Rattle.std.specs.Prelude.{◌≡◌, ◌≢◌, ◌⊎◌, ℕ}
use Rattle.pmem.specs.Device.{State, Word, Only}
use Rattle.pmem.specs.Crash.{IsImage}
use Rattle.model.specs.Group.{Contents}
use Rattle.model.specs.Image.{Image}
use Rattle.wbl_engine.specs.Contents.{IsDurable, IsNew}
use Rattle.images.specs.declared.formatting.NewImage.{NewImage}
use Rattle.images.specs.declared.pair.TheConstants.{PAIR_WORD}

-- the number in an image
abbrev pub pair_in : Image → ℕ
pair_in image = image PAIR_WORD

-- the second image is the first one, perhaps with another number
abbrev pub IsButForPair : Image → Image → Type 0
IsButForPair base image = (word : ℕ) → word ≢ PAIR_WORD → image word ≡ base word

-- What a crash leaves of a device of these words whose number is being written: what it could leave before, with the number from before or the new one.
pub record IsNumbering (words : ℕ → Word) (pair : ℕ) (image : Image) : Type 0 where
  pub base : Image
  pub before : IsImage words base
  pub same : IsButForPair base image
  pub number : (pair_in image ≡ pair_in base) ⊎ (pair_in image ≡ pair)

-- Each crash leaves this new image, with its number.
pub record IsFormatted (asked : NewImage) (device : State) : Type 0 where
  pub contents : Contents
  pub new : IsNew asked.lines asked.role asked.epoch contents
  pub durable : IsDurable device contents
  pub number : Only (device.words PAIR_WORD) asked.pair
