-- What emptying the end of a directory does to contents and to a device.
use Rattle.std.specs.Prelude.{◌≡◌, ℕ, ◌<◌, ◌≤◌, false, []}
use Rattle.kv_types.specs.Keyspace.{Keyspace}
use Rattle.pmem.specs.Device.{State}
use Rattle.model.specs.declared.record.Record.{Record}
use Rattle.model.specs.declared.layout.Layout.TheVariants.{Version1, Version2}
use Rattle.model.specs.Group.{Contents, IsConsistent}
use Rattle.model.specs.Image.{Image, counts, entries_of_lines, entry_word}
use Rattle.wbl_engine.specs.Contents.{IsDurable}
use Rattle.wbl_engine.specs.Lawful.{AreLawful}
use Rattle.wbl_engine.specs.Relocating.{KeepsKeyspace}
use Rattle.wbl_migrate.specs.Leaving.{IsEmptied, IsHeld}
use Rattle.wbl_migrate.specs.Migrating.{GoesOnFrom, IsOldImage}

-- The same map stands, under a record of the same layout, position, epoch and role.
pub record Vacates (old new : Contents) : Type 0 where
  pub layout : new.current.layout ≡ old.current.layout
  pub position : new.current.position ≡ old.current.position
  pub epoch : new.current.epoch ≡ old.current.epoch
  pub role : new.current.role ≡ old.current.role
  pub line_count : new.lines ≡ old.lines
  pub map : KeepsKeyspace old new
  pub lawful : AreLawful old → AreLawful new

-- Each crash of the device now leaves contents that stand so to these, under this record. It has no gap, and no version lies in an entry that is not kept.
pub record IsVacated (current' : Record) (d : State) (old : Contents) : Type 0 where
  pub new : Contents
  pub stands : Vacates old new
  pub held : IsHeld current' d new
  pub gapless : current'.gaps.items ≡ []
  pub emptied : IsEmptied new

-- ---- where it stops

-- Each crash of the device now leaves contents that stand so to these, and that are such.
pub record StopsAt (AreSuch : Contents → Type 0) (d : State) (old : Contents) : Type 0 where
  pub new : Contents
  pub stands : Vacates old new
  pub durable : IsDurable d new
  pub consistent : IsConsistent new
  pub such : AreSuch new

-- Under a record that goes on from this one, the image is of version 1 and has this keyspace. The record and the image are such.
pub record StaysOldWith (IsSuch : Record → Image → Type 0) (lines' : ℕ) (r : Record) (s : Keyspace) (image : Image) : Type 0 where
  pub current : Record
  pub goes_on : GoesOnFrom r current
  pub is : IsOldImage lines' current s image
  pub such : IsSuch current image

-- one of the entries counts that version 2 does not keep
abbrev pub HasLastEntry : ℕ → Record → Image → Type 0
HasLastEntry lines r image =
    ¬ ((i : ℕ) → entries_of_lines Version2 lines ≤ i → i < entries_of_lines Version1 lines → counts r (image (entry_word i 0)) ≡ false)
