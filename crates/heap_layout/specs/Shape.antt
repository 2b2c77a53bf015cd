-- The shape of a record that is read from an entry: what its words say of its bytes.
use Rattle.std.specs.Prelude.{◌≡◌, ℕ, ◌+◌, ◌≤◌, ◌⊎◌, List, drop}
use Rattle.heap_layout.specs.declared.shape.Shape.{Shape}
use Rattle.heap_layout.specs.declared.entry.TheConstants.{STRING_KIND, FIELD_KIND}
use Rattle.kv_types.specs.declared.limits.TheConstants.{MAX_KEY_BYTES, MAX_VALUE_BYTES}
use Rattle.kv_types.specs.declared.record_id.RecordId.{RecordId}
use Rattle.model.specs.Image.{Image, entry_word, key_bytes, field_bytes, first_extent_line, lines_of_bytes, bytes_at, id_of}

-- the kind is that of a string, with no field, or that of a field
abbrev pub IsOfKind : Shape → Type 0
IsOfKind shape = ((shape.kind ≡ STRING_KIND) × (shape.field ≡ 0)) ⊎ (shape.kind ≡ FIELD_KIND)

-- key, field and value are within their limits
pub record IsShort (shape : Shape) : Type 0 where
  pub key : shape.key ≤ MAX_KEY_BYTES
  pub field : shape.field ≤ MAX_KEY_BYTES
  pub value : shape.value ≤ MAX_VALUE_BYTES

-- how many bytes key, field and value have together
abbrev pub shape_bytes : Shape → ℕ
shape_bytes shape = shape.key + shape.field + shape.value

-- the extent has just the lines of the bytes, after the directory and within the image
pub record IsPlaced (lines : ℕ) (shape : Shape) : Type 0 where
  pub exact : shape.extent.lines ≡ lines_of_bytes (shape_bytes shape)
  pub above : first_extent_line lines ≤ shape.extent.first_line
  pub within : shape.extent.first_line + shape.extent.lines ≤ lines

-- the words of entry i have this shape
pub record IsShapeIn (image : Image) (i : ℕ) (shape : Shape) : Type 0 where
  pub kind : shape.kind ≡ image (entry_word i 5)
  pub key : shape.key ≡ key_bytes image i
  pub field : shape.field ≡ field_bytes image i
  pub value : shape.value ≡ image (entry_word i 7)
  pub first_line : shape.extent.first_line ≡ image (entry_word i 3)
  pub lines_are : shape.extent.lines ≡ image (entry_word i 4)

-- the words of entry i have this shape, which breaks no rule
pub record IsShape (lines : ℕ) (image : Image) (i : ℕ) (shape : Shape) : Type 0 where
  pub of_words : IsShapeIn image i shape
  pub kind : IsOfKind shape
  pub short : IsShort shape
  pub placed : IsPlaced lines shape

-- the name and the value of a record of this shape
abbrev pub record_of : Image → Shape → RecordId × List ℕ
record_of image shape =
    let bytes = bytes_at image shape.extent.first_line (shape_bytes shape) in
    (id_of shape.kind shape.key shape.field bytes, drop (shape.key + shape.field) bytes)
