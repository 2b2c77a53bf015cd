-- What a node makes of the versions of its image.
use Rattle.std.specs.Prelude.{◌≡◌, ◌≢◌, ◌↔◌, ℕ, ◌+◌, ◌<◌, ◌≤◌, Bool, not, ◌&&◌, nat_eq, List, [], ◌∷◌, length, Contains, Some, IsTrue}
use Rattle.std.specs.List.{AllByRecursion, IsDistinct, list_any}
use Rattle.std.specs.List.Sorted.{IsStrictlySortedBy}
use Rattle.std.specs.Ordering.{nat_cmp}
use Rattle.kv_types.specs.declared.place.EntryNo.{EntryNo}
use Rattle.heap_layout.specs.declared.entry.Entry.{Entry}
use Rattle.extent_heap.specs.Extents.{is_line_of}
use Rattle.extent_heap.specs.Room.{Room, is_free_entry, is_free_line, IsFreeRun}
use Rattle.model.specs.Group.{Contents, Versions, AreApart, IsConsistent, is_ended_version, entries_of}
use Rattle.model.specs.Image.{Version, first_extent_line}
use Rattle.mv_keyspace.specs.Table.{Table, IsTable}
use Rattle.placing.specs.Left.{IsLeftOf, IsBeside}
use Rattle.placing.specs.Out.{HasOut}
use Rattle.placing.specs.Read.{numbers_read}

-- ---- what is claimed of a heap

-- the entry is free, and so are the lines of its extent, of which there is at least one
pub record CanClaim (room : Room) (read : EntryNo × Entry) : Type 0 where
  pub entry : IsTrue (is_free_entry room read.0.0)
  pub some : 0 < read.1.extent.lines
  pub run : IsFreeRun room read.1.extent.first_line read.1.extent.lines

-- the two share neither their entry nor a line
pub record LiesApart (read other : EntryNo × Entry) : Type 0 where
  pub entries : read.0.0 ≢ other.0.0
  pub lines : AreApart read.1.extent.first_line read.1.extent.lines other.1.extent.first_line other.1.extent.lines

abbrev pub CanClaimAll : Room → List (EntryNo × Entry) → Type 0
CanClaimAll room [] = Unit {0}
CanClaimAll room (read ∷ counted) = CanClaim room read × AllByRecursion (LiesApart read) counted × CanClaimAll room counted

-- one of the extents has the line
abbrev pub has_line_read : List (EntryNo × Entry) → ℕ → Bool
has_line_read counted line = list_any (λ read. is_line_of read.1.extent line) counted

-- the entry is one of them
abbrev pub has_entry_read : List (EntryNo × Entry) → ℕ → Bool
has_entry_read counted i = list_any (λ read. nat_eq i read.0.0) counted

abbrev pub has_entry : List EntryNo → ℕ → Bool
has_entry entries i = list_any (λ entry. nat_eq i entry.0) entries

-- These entries and their extents are no longer free, and each extent is out. Nothing else changed.
pub record ClaimsAll (old : Room) (counted : List (EntryNo × Entry)) (new : Room) : Type 0 where
  pub lines : (line : ℕ) → is_free_line new line ≡ (is_free_line old line && not (has_line_read counted line))
  pub entries : (i : ℕ) → is_free_entry new i ≡ (is_free_entry old i && not (has_entry_read counted i))
  pub held : new.held ≡ old.held + length counted
  pub end_line : new.end_line ≡ old.end_line
  pub end_entry : new.end_entry ≡ old.end_entry

-- each of the entries is free
abbrev pub AreFreeEntries : Room → List EntryNo → Type 0
AreFreeEntries room entries = AllByRecursion (λ entry. IsTrue (is_free_entry room entry.0)) entries

-- These entries are no longer free. Nothing else changed.
pub record ClaimsEntries (old : Room) (entries : List EntryNo) (new : Room) : Type 0 where
  pub lines : (line : ℕ) → is_free_line new line ≡ is_free_line old line
  pub free : (i : ℕ) → is_free_entry new i ≡ (is_free_entry old i && not (has_entry entries i))
  pub held : new.held ≡ old.held
  pub end_line : new.end_line ≡ old.end_line
  pub end_entry : new.end_entry ≡ old.end_entry

-- ---- what is made

-- the line is one of a version
pub record IsLineOfVersion (versions : Versions) (line : ℕ) : Type 0 where
  pub i : ℕ
  pub version : Version
  pub begun : versions i ≡ Some version
  pub from : version.first_line ≤ line
  pub before : line < version.first_line + version.lines

-- The free lines of the heap are those of the extents that no version has, and its free entries those of the directory that are free.
pub record IsHeapOf (contents : Contents) (room : Room) : Type 0 where
  pub lines : (line : ℕ) → IsTrue (is_free_line room line)
      ↔ ((first_extent_line contents.lines ≤ line) × (line < contents.lines) × (¬ IsLineOfVersion contents.versions line))
  pub entries : (i : ℕ) → IsTrue (is_free_entry room i) ↔ ((i < entries_of contents) × IsTrue (contents.is_free i))

-- These are the entries of versions that were ended, each once.
pub record AreEndedOf (contents : Contents) (ended : List ℕ) : Type 0 where
  pub once : IsDistinct nat_eq ended
  pub these : (i : ℕ) → Contains ended i ↔ IsTrue (is_ended_version (contents.versions i))

-- Table and heap are those of the contents.
pub record IsRebuilt (contents : Contents) (table : Table) (room : Room) : Type 0 where
  pub consistent : IsConsistent contents
  pub table_is : IsTable contents.versions table
  pub heap_is : IsHeapOf contents room
  pub left : IsLeftOf contents room
  pub out : HasOut contents room 0
  pub beside : IsBeside table room

-- numbers that rise, where those that were read do
abbrev pub RisesWith : List (EntryNo × Entry) → List ℕ → Type 0
RisesWith counted numbers = IsStrictlySortedBy nat_cmp (numbers_read counted) → IsStrictlySortedBy nat_cmp numbers
