-- An entry of the directory and its extent, as they are read (this project's profile).
use Rattle.std.specs.Prelude.{◌≡◌, ◌≢◌, ◌↔◌, ℕ, ◌<◌, ◌≤◌, ◌⊎◌}
use Rattle.kv_types.specs.declared.place.Extent.{Extent}
use Rattle.heap_layout.specs.declared.entry.Entry.{Entry}
use Rattle.heap_layout.specs.declared.entry.TheConstants.{STRING_KIND, FIELD_KIND}
use Rattle.model.specs.Image.{Image, entry_word, entry_bytes, field_bytes, first_extent_line, lines_of_bytes}
use Rattle.model.specs.Group.{AreApart}
use Rattle.model.specs.ReadImage.{IsInFormat, record_in}

-- the kind of entry i is that of a string, which has no field, or that of a field, which may be empty
abbrev pub IsKind : Image → ℕ → Type 0
IsKind image i = ((image (entry_word i 5) ≡ STRING_KIND) × (field_bytes image i ≡ 0)) ⊎ (image (entry_word i 5) ≡ FIELD_KIND)

-- Entry i and its extent obey each rule of the format that tells of them alone. The plain reader takes all that do.
pub record IsEntry (lines : ℕ) (image : Image) (i : ℕ) : Type 0 where
  -- lengths within the limits, and an extent that ends in the image
  pub in_format : IsInFormat lines image i
  pub kind : IsKind image i
  -- the extent lies after the directory
  pub above : first_extent_line lines ≤ image (entry_word i 3)
  -- and has just the lines that its bytes take
  pub lines_are : image (entry_word i 4) ≡ lines_of_bytes (entry_bytes image i)

-- what entry i holds
abbrev pub entry_in : Image → ℕ → Entry
entry_in image i =
    record {
      begin = image (entry_word i 0);
      end = image (entry_word i 1);
      position = image (entry_word i 2);
      extent = record { first_line = image (entry_word i 3); lines = image (entry_word i 4) };
      id = (record_in image i).0;
      value = (record_in image i).1;
    }

-- the entry was begun, and breaks a rule
pub record IsDamaged (lines : ℕ) (image : Image) (i : ℕ) : Type 0 where
  pub begun : image (entry_word i 0) ≢ 0
  pub broken : IsEntry lines image i → ⊥

-- Entry i reads in both images alike: it has the same words, it is whole in both or in none, and it holds the same if its extent has none
-- of these lines.
pub record ReadsAlike (lines' : ℕ) (old new : Image) (extent : Extent) (i : ℕ) : Type 0 where
  pub words : (k : ℕ) → k < 8 → new (entry_word i k) ≡ old (entry_word i k)
  pub whole : IsEntry lines' new i ↔ IsEntry lines' old i
  pub holds : IsEntry lines' old i → AreApart (old (entry_word i 3)) (old (entry_word i 4)) extent.first_line extent.lines → entry_in new i ≡ entry_in old i
