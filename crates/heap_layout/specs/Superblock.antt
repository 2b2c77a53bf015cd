-- Which refusal the superblock of an image earns (this project's profile).
use Rattle.std.specs.Prelude.{ℕ, Bool, not, ◌||◌, ◌==◌, nat_lt, if◌then◌else◌, Option, Some, None}
use Rattle.kv_types.specs.declared.refusal.Refusal.{Refusal}
use Rattle.kv_types.specs.declared.refusal.Refusal.TheVariants.{BadMagic, BadVersion, WrongSize, Damaged}
use Rattle.model.specs.declared.image.TheConstants.{MIN_LINES, MAX_LINES}
use Rattle.model.specs.declared.layout.Layout.{Layout}
use Rattle.model.specs.Layout.{directory_room, version}
use Rattle.model.specs.Image.{Image, magic_number}

-- no image has this many lines
abbrev pub is_wrong_size : ℕ → Bool
is_wrong_size lines = nat_lt lines MIN_LINES || nat_lt MAX_LINES lines

-- The first rule that a superblock of an image of this layout breaks, on a device of `lines` lines: the size of the device, the magic, the version, the number of
-- lines, and how many of them are for the directory, in this order. The words after these have no rule, and the root is the record's.
abbrev pub super_refusal : Layout → ℕ → Image → Option Refusal
super_refusal layout lines image =
    if is_wrong_size lines then Some WrongSize
    else if not (image 0 == magic_number) then Some BadMagic
    else if not (image 1 == version layout) then Some BadVersion
    else if not (image 2 == lines) then Some WrongSize
    else if not (image 3 == directory_room lines) then Some Damaged
    else None
