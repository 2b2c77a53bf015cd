-- What is out of a heap, compared with the versions of an image.
use Rattle.std.specs.Prelude.{◌≡◌, ℕ, zero, suc, ◌+◌, ◌≤◌, Bool, true, false, if◌then◌else◌, Option, Some, None}
use Rattle.extent_heap.specs.Room.{Room}
use Rattle.model.specs.Group.{Contents, Versions, entries_of}
use Rattle.model.specs.Image.{Version}

abbrev pub has_version : Option Version → Bool
has_version None = false
has_version (Some version) = true

-- how many entries below this one have a version
abbrev pub count_versions : Versions → ℕ → ℕ
count_versions versions zero = 0
count_versions versions (suc i) = (if has_version (versions i) then 1 else 0) + count_versions versions i

-- The heap is one of the image's places, and the extents of all versions are out of it, with so many more.
pub record HasOut (contents : Contents) (room : Room) (more : ℕ) : Type 0 where
  pub end_line : room.end_line ≡ contents.lines
  pub end_entry : room.end_entry ≡ entries_of contents
  pub held : count_versions contents.versions (entries_of contents) + more ≤ room.held
