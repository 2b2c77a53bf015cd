-- What an image holds at each stage of its migration from version 1 to version 2: each has its layout (this project's profile).
use Rattle.std.specs.Prelude.{◌≡◌, ℕ, ◌<◌, ◌≤◌, Option, false, []}
use Rattle.kv_types.specs.Keyspace.{Keyspace}
use Rattle.kv_types.specs.declared.refusal.Refusal.{Refusal}
use Rattle.heap_layout.specs.Superblock.{super_refusal}
use Rattle.model.specs.declared.layout.Layout.{Layout}
use Rattle.model.specs.declared.layout.Layout.TheVariants.{Version2}
use Rattle.model.specs.declared.record.Record.{Record}
use Rattle.model.specs.Image.{Image, Holds, IsMapOf, counts, entries_of_lines, entry_word, version_at}
use Rattle.wbl_engine.specs.Lawful.{IsUndamaged}
use Rattle.wbl_engine.specs.Reopening.{layout_in}

-- The first rule that the superblock breaks, on a device of `lines` lines: that of the version which it tells, at whatever stage it is.
abbrev pub stage_refusal : ℕ → Image → Option Refusal
stage_refusal lines image = super_refusal (layout_in image) lines image

-- ---- what an image holds

-- the image is of this layout and whole, has this record, and its map is this keyspace
abbrev pub HoldsAt : Layout → ℕ → Record → Keyspace → Image → Type 0
HoldsAt layout lines r s image = (r.layout ≡ layout) × Holds lines r s image

-- the same record in an image of this layout
abbrev pub in_layout : Layout → Record → Record
in_layout layout r = record r { layout = layout }

-- The image of this layout has the record, breaks no rule of the format, and can be migrated on: the record has no gap, and none of the entries counts that
-- version 2 has no room for. Its map is this keyspace.
pub record IsMovable (layout : Layout) (lines : ℕ) (r : Record) (s : Keyspace) (image : Image) : Type 0 where
  pub undamaged : IsUndamaged lines (in_layout layout r) image
  pub map : IsMapOf (version_at r image) (entries_of_lines layout lines) s
  pub gapless : r.gaps.items ≡ []
  pub last : (i : ℕ) → entries_of_lines Version2 lines ≤ i → i < entries_of_lines layout lines → counts r (image (entry_word i 0)) ≡ false

-- at some stage, under a record of this position, the image holds this keyspace
pub record KeepsMap (lines' position' : ℕ) (s : Keyspace) (image : Image) : Type 0 where
  pub current : Record
  pub position_is : current.position ≡ position'
  pub holds : Holds lines' current s image
