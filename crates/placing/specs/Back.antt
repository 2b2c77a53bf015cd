-- Places that come back to a heap, once they are free on the image.
use Rattle.std.specs.Prelude.{◌≡◌, ℕ, ◌+◌, ◌<◌, ◌≤◌, ◌||◌, false, nat_eq, List, [], ◌∷◌, length, None, IsTrue}
use Rattle.std.specs.List.{AllByRecursion, IsDistinct}
use Rattle.kv_types.specs.declared.place.EntryNo.{EntryNo}
use Rattle.kv_types.specs.declared.place.Extent.{Extent}
use Rattle.extent_heap.specs.Room.{Room, IsOutEntry, is_free_entry, is_free_line}
use Rattle.extent_heap.specs.Runs.{has_line}
use Rattle.model.specs.Group.{AreApart, Contents, is_listed, entries_of}
use Rattle.model.specs.Image.{first_extent_line}
use Rattle.mv_keyspace.specs.Row.{numbers_of}
use Rattle.placing.specs.Rebuilt.{IsLineOfVersion}
pub use Rattle.placing.specs.Out.{has_version, count_versions, HasOut}

-- ---- what a call gives back

abbrev pub AreExtentsApart : List Extent → Type 0
AreExtentsApart [] = Unit {0}
AreExtentsApart (extent ∷ extents) =
    AllByRecursion (λ other. AreApart extent.first_line extent.lines other.first_line other.lines) extents × AreExtentsApart extents

-- the extent has a line, and none of its lines is free
pub record IsTakenExtent (room : Room) (extent : Extent) : Type 0 where
  pub some : 0 < extent.lines
  pub within : extent.first_line + extent.lines ≤ room.end_line
  pub taken : (line : ℕ) → extent.first_line ≤ line → line < extent.first_line + extent.lines → is_free_line room line ≡ false

-- None of the entries and none of the extents is free, no two of them are the same or share a line, and so many extents are out.
pub record CanGiveAll (room : Room) (entries : List EntryNo) (extents : List Extent) : Type 0 where
  pub once : IsDistinct nat_eq (numbers_of entries)
  pub entries_out : AllByRecursion (IsOutEntry room) entries
  pub apart : AreExtentsApart extents
  pub extents_out : AllByRecursion (IsTakenExtent room) extents
  pub held : length extents ≤ room.held

-- The entries and the lines of the extents are free again, and nothing else changed.
pub record GivesAll (old : Room) (entries : List EntryNo) (extents : List Extent) (new : Room) : Type 0 where
  pub entries_given : (i : ℕ) → is_free_entry new i ≡ (is_free_entry old i || is_listed i entries)
  pub lines_given : (line : ℕ) → is_free_line new line ≡ (is_free_line old line || has_line extents line)
  pub held : new.held + length extents ≡ old.held
  pub end_line : new.end_line ≡ old.end_line
  pub end_entry : new.end_entry ≡ old.end_entry

-- The entries are free again, and nothing else changed.
pub record GivesEntries (old : Room) (entries : List EntryNo) (new : Room) : Type 0 where
  pub given : (i : ℕ) → is_free_entry new i ≡ (is_free_entry old i || is_listed i entries)
  pub end_entry : new.end_entry ≡ old.end_entry
  pub lines : new.lines ≡ old.lines
  pub end_line : new.end_line ≡ old.end_line
  pub held : new.held ≡ old.held

-- The lines of the extents are free again, and nothing else changed.
pub record GivesExtents (old : Room) (extents : List Extent) (new : Room) : Type 0 where
  pub given : (line : ℕ) → is_free_line new line ≡ (is_free_line old line || has_line extents line)
  pub held : new.held + length extents ≡ old.held
  pub end_line : new.end_line ≡ old.end_line
  pub entries : new.entries ≡ old.entries
  pub end_entry : new.end_entry ≡ old.end_entry

-- ---- what will come back

-- the entry is free in the contents, and not in the heap
pub record IsEntryBack (contents : Contents) (room : Room) (i : ℕ) : Type 0 where
  pub within : i < entries_of contents
  pub is_free : IsTrue (contents.is_free i)
  pub none : contents.versions i ≡ None
  pub out : is_free_entry room i ≡ false

-- the line is one of the image's extents, of no version, and not free in the heap
pub record IsLineBack (contents : Contents) (room : Room) (line : ℕ) : Type 0 where
  pub above : first_extent_line contents.lines ≤ line
  pub within : line < contents.lines
  pub none : ¬ IsLineOfVersion contents.versions line
  pub out : is_free_line room line ≡ false

-- These entries and extents have no version, and will come back to the heap, which does not have them yet; each of them comes back once.
pub record ComesBack (contents : Contents) (room : Room) (entries : List EntryNo) (extents : List Extent) : Type 0 where
  pub once : IsDistinct nat_eq (numbers_of entries)
  pub entries_back : (i : ℕ) → IsTrue (is_listed i entries) → IsEntryBack contents room i
  pub apart : AreExtentsApart extents
  pub some : AllByRecursion (λ (extent : Extent). 0 < extent.lines) extents
  pub lines_back : (line : ℕ) → IsTrue (has_line extents line) → IsLineBack contents room line
  pub out : HasOut contents room (length extents)
