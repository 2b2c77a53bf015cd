-- The versions of an image as they are read: each entry whose begin counts, with the end 0 where its version was not ended, and the entries that a
-- commit began and did not come to the end of.
use Rattle.std.specs.Prelude.{◌≡◌, ◌≢◌, ◌↔◌, ◌⊎◌, ℕ, ◌+◌, ◌<◌, ◌≤◌, ◌==◌, false, not, nat_eq, if◌then◌else◌, List, [], ◌∷◌, map, Contains, Some, None, IsTrue}
use Rattle.std.specs.List.{IsDistinct, flat_map}
use Rattle.kv_types.specs.declared.place.EntryNo.{EntryNo}
use Rattle.kv_types.specs.declared.record_id.RecordId.{RecordId}
use Rattle.kv_types.specs.Keyspace.{Keyspace, IsKeyspace}
use Rattle.heap_layout.specs.declared.entry.Entry.{Entry}
use Rattle.heap_layout.specs.Version.{version_of}
use Rattle.heap_layout.specs.Versions.{AreVersions}
use Rattle.model.specs.declared.record.Record.{Record}
use Rattle.model.specs.Group.{Contents, AreApart, IsConsistent, entries_of}
use Rattle.model.specs.Image.{Image, Version, IsMapOf, counts, entry_word, first_extent_line, version_at}
use Rattle.mv_keyspace.specs.Row.{numbers_of}
use Rattle.mv_keyspace.specs.Table.{Cell, Table}

-- the numbers of the entries
abbrev pub numbers_read : List (EntryNo × Entry) → List ℕ
numbers_read counted = map (λ read. read.0.0) counted

-- ---- what is made of them

-- the row of a version
abbrev pub row_read : EntryNo × Entry → RecordId × Cell
row_read read = (read.1.id, record { value = read.1.value; entry = read.0.0; position = read.1.position })

abbrev pub row_if_live : EntryNo × Entry → Table
row_if_live read = if read.1.end == 0 then row_read read ∷ [] else []

-- the rows of the versions that were not ended
abbrev pub rows_read : List (EntryNo × Entry) → Table
rows_read = flat_map row_if_live

abbrev pub number_if_ended : EntryNo × Entry → List ℕ
number_if_ended read = if not (read.1.end == 0) then read.0.0 ∷ [] else []

-- the entries of those that were
abbrev pub ended_read : List (EntryNo × Entry) → List ℕ
ended_read = flat_map number_if_ended

-- ---- what they are read of

-- the version has at least one line, and lies in the lines of the extents
pub record LiesIn (lines' : ℕ) (version : Version) : Type 0 where
  pub some : 0 < version.lines
  pub above : first_extent_line lines' ≤ version.first_line
  pub within : version.first_line + version.lines ≤ lines'

-- Each version lies in the extents and in an entry of the directory that was begun, no two of them share a line, and the live ones make up a
-- keyspace.
pub record AreInOrder (contents : Contents) : Type 0 where
  pub begun : (i : ℕ) (version : Version) → contents.versions i ≡ Some version → (i < entries_of contents) × (contents.is_free i ≡ false)
  pub placed : (i : ℕ) (version : Version) → contents.versions i ≡ Some version → LiesIn contents.lines version
  pub apart : (i j : ℕ) (version other : Version) → i ≢ j → contents.versions i ≡ Some version → contents.versions j ≡ Some other
      → AreApart version.first_line version.lines other.first_line other.lines
  pub keyspace : Keyspace
  pub lawful : IsKeyspace keyspace
  pub map : IsMapOf contents.versions (entries_of contents) keyspace

-- entry i was read, with this version
pub record IsRead (current : Record) (counted : List (EntryNo × Entry)) (i : ℕ) (version : Version) : Type 0 where
  pub entry : Entry
  pub listed : Contains counted (record { 0 = i }, entry)
  pub version_is : version_of current entry ≡ version

-- The lists are those of the contents: the first has each version, once, with an end that counts or is 0, made at a position that the record has, and the
-- second each entry of the directory that was begun and has no version, once.
pub record AreOf (contents : Contents) (counted : List (EntryNo × Entry)) (gapped : List EntryNo) : Type 0 where
  pub lawful : AreInOrder contents
  pub once : IsDistinct nat_eq (numbers_read counted)
  pub versions : (i : ℕ) (version : Version) → (contents.versions i ≡ Some version) ↔ IsRead contents.current counted i version
  pub ends : (read : EntryNo × Entry) → Contains counted read → (read.1.end ≡ 0) ⊎ IsTrue (counts contents.current read.1.end)
  pub positions : (read : EntryNo × Entry) → Contains counted read → read.1.position ≤ contents.current.position
  pub gapped_once : IsDistinct nat_eq (numbers_of gapped)
  pub gapped_are : (i : ℕ) → Contains (numbers_of gapped) i
      ↔ ((i < entries_of contents) × (contents.is_free i ≡ false) × (contents.versions i ≡ None))

-- ---- an image and its contents

-- The contents say of each entry what the image holds, and its versions break no rule.
pub record Shows (contents : Contents) (image : Image) : Type 0 where
  pub versions : (i : ℕ) → i < entries_of contents → version_at contents.current image i ≡ contents.versions i
  pub is_free : (i : ℕ) → i < entries_of contents → contents.is_free i ≡ (image (entry_word i 0) == 0)
  pub consistent : IsConsistent contents
  pub rules : AreVersions contents.current contents.lines image
