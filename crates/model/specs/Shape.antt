-- The shape of a record that was read from an entry.
use Rattle.std.specs.Prelude.{◌≡◌, ℕ}
use Rattle.model.specs.declared.image_entries.Shape.{Shape}
use Rattle.model.specs.Image.{Image, entry_word, key_bytes, field_bytes}
use Rattle.model.specs.ReadImage.{IsInFormat}

-- entry i is in the format, and this is its shape
pub record IsShape (lines : ℕ) (image : Image) (i : ℕ) (shape : Shape) : Type 0 where
  pub in_format : IsInFormat lines image i
  pub key : shape.key ≡ key_bytes image i
  pub field : shape.field ≡ field_bytes image i
  pub value : shape.value ≡ image (entry_word i 7)
  pub line : shape.line ≡ image (entry_word i 3)
