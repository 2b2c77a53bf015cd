-- The migration as a whole: from which images it starts, and what a crash leaves of them.
use Rattle.std.specs.Prelude.{◌≡◌, ◌⊎◌, ℕ, []}
use Rattle.kv_types.specs.Keyspace.{Keyspace}
use Rattle.model.specs.declared.layout.Layout.{Layout}
use Rattle.model.specs.declared.layout.Layout.TheVariants.{Version1, Version2, Halfway}
use Rattle.model.specs.declared.record.Record.{Record}
use Rattle.model.specs.Image.{Image, IsMapOf, entries_of_lines, version_at}
use Rattle.wbl_engine.specs.Lawful.{IsUndamaged}

-- The image is of this layout, with this record, and breaks no rule of the format. Its map is this keyspace.
pub record IsImageOf (layout' : Layout) (lines : ℕ) (r : Record) (s : Keyspace) (image : Image) : Type 0 where
  pub layout : r.layout ≡ layout'
  pub undamaged : IsUndamaged lines r image
  pub map : IsMapOf (version_at r image) (entries_of_lines layout' lines) s

-- it is of version 1
abbrev pub IsOldImage : ℕ → Record → Keyspace → Image → Type 0
IsOldImage lines r s image = IsImageOf Version1 lines r s image

-- it is of version 2
abbrev pub IsNewImage : ℕ → Record → Keyspace → Image → Type 0
IsNewImage lines r s image = IsImageOf Version2 lines r s image

-- The image breaks no rule of the format, and its record, which is this one, has no gap.
pub record HasGapless (lines : ℕ) (image : Image) (r : Record) : Type 0 where
  pub undamaged : IsUndamaged lines r image
  pub gapless : r.gaps.items ≡ []

-- it is halfway, and its record has no gap
pub record IsHalfwayImage (lines : ℕ) (r : Record) (s : Keyspace) (image : Image) : Type 0 where
  pub is : IsImageOf Halfway lines r s image
  pub gapless : r.gaps.items ≡ []

-- The image can be migrated on, or is of version 2. Its record is this one, and its map this keyspace.
abbrev pub IsMigratable : ℕ → Record → Keyspace → Image → Type 0
IsMigratable lines r s image = IsOldImage lines r s image ⊎ (IsHalfwayImage lines r s image ⊎ IsNewImage lines r s image)

-- it can, with some record and some keyspace
pub record CanBeMigrated (lines : ℕ) (image : Image) : Type 0 where
  pub current : Record
  pub keyspace : Keyspace
  pub is : IsMigratable lines current keyspace image

-- the records have the same position, epoch and role
pub record GoesOnFrom (r current : Record) : Type 0 where
  pub position : current.position ≡ r.position
  pub epoch : current.epoch ≡ r.epoch
  pub role : current.role ≡ r.role

-- under a record that goes on from this one, the image is of version 1 and has this keyspace
pub record StaysOld (lines' : ℕ) (r : Record) (s : Keyspace) (image : Image) : Type 0 where
  pub current : Record
  pub goes_on : GoesOnFrom r current
  pub is : IsOldImage lines' current s image

-- under a record that goes on from this one, the image has this keyspace and can be migrated on
pub record StaysMigratable (lines' : ℕ) (r : Record) (s : Keyspace) (image : Image) : Type 0 where
  pub current : Record
  pub goes_on : GoesOnFrom r current
  pub is : IsMigratable lines' current s image

-- Under a record that goes on from this one, the image is of version 2, breaks no rule of the format and has this keyspace. One that was of version 2 keeps its
-- record, and so its floor; of any other one the floor is the position.
pub record IsMigrated (lines' : ℕ) (r : Record) (s : Keyspace) (image : Image) : Type 0 where
  pub current : Record
  pub goes_on : GoesOnFrom r current
  pub is : IsNewImage lines' current s image
  pub kept : r.layout ≡ Version2 → current ≡ r
  pub floor : ¬ (r.layout ≡ Version2) → current.floor ≡ r.position
