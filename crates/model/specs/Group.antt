-- What a group does to the versions of an image, and all that a commit requires of it.
use Rattle.std.specs.Prelude.{◌≡◌, ℕ, ◌+◌, ◌<◌, ◌≤◌, Bool, true, false, not, ◌&&◌, ◌||◌, ◌⊎◌, ◌↔◌, nat_eq, if◌then◌else◌, List, [], ◌∷◌, length, map, Contains, Option, Some, None, IsTrue}
use Rattle.std.specs.List.{flat_map, list_any, AllByRecursion}
use Rattle.std.specs.Ordering.{eq_by_cmp}
use Rattle.std.specs.Cmp.Lexicographic.{pointwise}
use Rattle.kv_types.specs.declared.place.EntryNo.{EntryNo}
use Rattle.kv_types.specs.declared.place.Extent.{Extent}
use Rattle.kv_types.specs.declared.record_id.RecordId.{RecordId}
use Rattle.kv_types.specs.declared.record_id.RecordId.TheVariants.{Str, Field}
use Rattle.kv_types.specs.declared.change.Change.{Change}
use Rattle.kv_types.specs.declared.change.Change.TheVariants as change
use Rattle.kv_types.specs.Keyspace.{key_of, record_cmp}
use Rattle.model.specs.declared.record.Record.{Record}
use Rattle.model.specs.declared.image.TheConstants.{STAMP_WINDOW}
use Rattle.model.specs.Image.{Version, entries_of_lines, first_extent_line, lines_of_bytes}
use Rattle.model.specs.declared.group.Group.{Group}
use Rattle.model.specs.declared.group.Part.{Part}
use Rattle.model.specs.declared.group.Put.{Put}
use Rattle.model.specs.declared.group.PlacedChange.{PlacedChange}
use Rattle.model.specs.declared.group.PlacedChange.TheVariants as placed
use Rattle.model.specs.declared.group.TheConstants.{MAX_PARTS}

-- a change without its place
abbrev pub change_of : PlacedChange → Change
change_of (placed.Put put) = change.Put put.id put.value
change_of (placed.Drop id) = change.Drop id
change_of (placed.DropKey key) = change.DropKey key
change_of placed.Clear = change.Clear

abbrev pub put_of : PlacedChange → List Put
put_of (placed.Put put) = put ∷ []
put_of (placed.Drop id) = []
put_of (placed.DropKey key) = []
put_of placed.Clear = []

abbrev pub changes_of_part : Part → List Change
changes_of_part part = map change_of part.changes.items

abbrev pub puts_of_part : Part → List Put
puts_of_part part = flat_map put_of part.changes.items

-- all changes of a group, in order
abbrev pub changes_of_group : Group → List Change
changes_of_group group = flat_map changes_of_part group.parts.items

-- all puts of a group, in order
abbrev pub puts_of_group : Group → List Put
puts_of_group group = flat_map puts_of_part group.parts.items

-- ---- what a group does to the versions

abbrev pub Versions : Type 0
Versions = ℕ → Option Version

-- the change ends a live version of this record: it overwrites it or removes it
abbrev pub ends_record : Change → RecordId → Bool
ends_record (change.Put (Str key) value) id = pointwise nat_eq (key_of id) key
ends_record (change.Put (Field key field) value) id = eq_by_cmp record_cmp id (Field key field) || eq_by_cmp record_cmp id (Str key)
ends_record (change.Drop other) id = eq_by_cmp record_cmp id other
ends_record (change.DropKey key) id = pointwise nat_eq (key_of id) key
ends_record change.Clear id = true

-- a version after a change
abbrev pub ended_by : Change → Version → Version
ended_by change version =
    record {
      id = version.id;
      value = version.value;
      position = version.position;
      first_line = version.first_line;
      lines = version.lines;
      is_ended = version.is_ended || ends_record change version.id;
    }

abbrev pub ended_where_begun : Change → Option Version → Option Version
ended_where_begun change None = None
ended_where_begun change (Some version) = Some (ended_by change version)

-- the version that a put makes at this position
abbrev pub version_of_put : ℕ → Put → Version
version_of_put position put =
    record { id = put.id; value = put.value; position = position; first_line = put.extent.first_line; lines = put.extent.lines; is_ended = false }

-- the versions with the new ones of the puts
abbrev pub with_puts : ℕ → List Put → Versions → Versions
with_puts position [] versions = versions
with_puts position (put ∷ puts) versions = λ i. if nat_eq i put.entry.0 then Some (version_of_put position put) else with_puts position puts versions i

-- the versions after one change, made at this position: the live versions of the records that it overwrites or removes are ended, and a put makes one
abbrev pub change_versions : ℕ → Versions → PlacedChange → Versions
change_versions position versions change = with_puts position (put_of change) (λ i. ended_where_begun (change_of change) (versions i))

abbrev pub changes_versions : ℕ → Versions → List PlacedChange → Versions
changes_versions position versions [] = versions
changes_versions position versions (change ∷ changes) = changes_versions position (change_versions position versions change) changes

-- the versions after one part
abbrev pub part_versions : Versions → Part → Versions
part_versions versions part = changes_versions part.position versions part.changes.items

abbrev pub parts_versions : Versions → List Part → Versions
parts_versions versions [] = versions
parts_versions versions (part ∷ parts) = parts_versions (part_versions versions part) parts

-- ---- what a commit requires

-- entry i has a version that is not ended
abbrev pub is_live_version : Option Version → Bool
is_live_version None = false
is_live_version (Some version) = not version.is_ended

abbrev pub is_ended_version : Option Version → Bool
is_ended_version None = false
is_ended_version (Some version) = version.is_ended

-- the place of a put is in the image: its entry is one of those in the directory, and its extent after the directory
pub record IsPlaced (entries lines : ℕ) (put : Put) : Type 0 where
  pub entry : put.entry.0 < entries
  pub above : first_extent_line lines ≤ put.extent.first_line
  pub within : put.extent.first_line + put.extent.lines ≤ lines

abbrev pub bytes_of_id : RecordId → ℕ
bytes_of_id (Str key) = length key
bytes_of_id (Field key field) = length key + length field

-- the extent has exactly as many lines as the record needs
abbrev pub HasItsLines : Put → Type 0
HasItsLines put = put.extent.lines ≡ lines_of_bytes (bytes_of_id put.id + length put.value)

-- two runs of lines have none in common
abbrev pub AreApart : ℕ → ℕ → ℕ → ℕ → Type 0
AreApart first lines first' lines' = (first + lines ≤ first') ⊎ (first' + lines' ≤ first)

-- the two puts share neither their entry nor a line
pub record IsApartFrom (put other : Put) : Type 0 where
  pub entries : put.entry.0 ≡ other.entry.0 → ⊥
  pub lines : AreApart put.extent.first_line put.extent.lines other.extent.first_line other.extent.lines

-- no two of the puts share an entry or a line
abbrev pub AreAllApart : List Put → Type 0
AreAllApart [] = Unit {0}
AreAllApart (put ∷ puts) = AllByRecursion (IsApartFrom put) puts × AreAllApart puts

-- the entry was never begun or has been freed, and no version that was begun has one of the lines
pub record IsUnused (versions : Versions) (is_free : ℕ → Bool) (put : Put) : Type 0 where
  pub entry : IsTrue (is_free put.entry.0)
  pub lines : (i : ℕ) (version : Version) → versions i ≡ Some version → AreApart put.extent.first_line put.extent.lines version.first_line version.lines

-- one of the puts is at this entry
abbrev pub is_put_at : ℕ → List Put → Bool
is_put_at i [] = false
is_put_at i (put ∷ puts) = nat_eq i put.entry.0 || is_put_at i puts

-- The part names exactly the entries that its changes ended: those that were live before it, or that it made, and are ended after it.
abbrev pub NamesEnded : Versions → Part → Type 0
NamesEnded versions part =
    (i : ℕ) → Contains (map (λ entry. entry.0) part.ended.items) i
    ↔ (IsTrue (is_live_version (versions i) || is_put_at i (puts_of_part part)) × IsTrue (is_ended_version (part_versions versions part i)))

-- the parts follow one another: positions rise, and each names what it ended
abbrev pub AreParts : ℕ → Versions → List Part → Type 0
AreParts before versions [] = Unit {0}
AreParts before versions (part ∷ parts) = (before < part.position) × NamesEnded versions part × AreParts part.position (part_versions versions part) parts

-- what an engine holds
pub record Contents : Type 0 where
  -- the current record
  pub current : Record
  -- the number of lines of the image
  pub lines : ℕ
  -- what each entry holds, if it was begun
  pub versions : Versions
  -- the entry's begin is 0
  pub is_free : ℕ → Bool

-- how many entries its directory has
abbrev pub entries_of : Contents → ℕ
entries_of contents = entries_of_lines contents.current.layout contents.lines

-- all that a commit requires of a group
pub record IsGroup (contents : Contents) (group : Group) : Type 0 where
  -- the epoch of the record, or, where nothing was committed yet, a later one
  pub epoch : (group.epoch ≡ contents.current.epoch) ⊎ ((contents.current.position ≡ 0) × (contents.current.epoch < group.epoch))
  pub before : group.before ≡ contents.current.position
  pub some : 0 < length group.parts.items
  pub few : length group.parts.items ≤ MAX_PARTS
  pub parts : AreParts group.before contents.versions group.parts.items
  pub placed : AllByRecursion (IsPlaced (entries_of contents) contents.lines) (puts_of_group group)
  pub fitting : AllByRecursion HasItsLines (puts_of_group group)
  pub unused : AllByRecursion (IsUnused contents.versions contents.is_free) (puts_of_group group)
  pub apart : AreAllApart (puts_of_group group)

abbrev pub last_position : ℕ → List Part → ℕ
last_position before [] = before
last_position before (part ∷ parts) = last_position part.position parts

-- the record after a group: each part takes one stamp, and the epoch is the group's
abbrev pub next_record : Record → Group → Record
next_record r group =
    record {
      layout = r.layout;
      number = r.number + 1;
      position = last_position r.position group.parts.items;
      cp = r.cp + length group.parts.items;
      cd = r.cp + length group.parts.items + 1 + STAMP_WINDOW;
      epoch = group.epoch;
      role = r.role;
      gaps = r.gaps;
      floor = r.floor;
    }

-- the contents after a group
abbrev pub after_group : Contents → Group → Contents
after_group contents group =
    record {
      current = next_record contents.current group;
      lines = contents.lines;
      versions = parts_versions contents.versions group.parts.items;
      is_free = λ i. contents.is_free i && not (is_put_at i (puts_of_group group));
    }

-- a free entry has no version, and neither does one beyond the directory
pub record IsConsistent (contents : Contents) : Type 0 where
  pub free : (i : ℕ) → IsTrue (contents.is_free i) → contents.versions i ≡ None
  pub beyond : (i : ℕ) → entries_of contents ≤ i → contents.versions i ≡ None

-- ---- entries of versions that have ended

abbrev pub is_listed : ℕ → List EntryNo → Bool
is_listed i entries = list_any (λ entry. nat_eq i entry.0) entries

-- each of the entries holds a version that has ended, and none is listed twice
abbrev pub AreEnded : Contents → List EntryNo → Type 0
AreEnded contents [] = Unit {0}
AreEnded contents (entry ∷ entries) =
    (entry.0 < entries_of contents)
    × IsTrue (is_ended_version (contents.versions entry.0))
    × (is_listed entry.0 entries ≡ false)
    × AreEnded contents entries

-- the versions of these entries are gone, and the entries are free
abbrev pub without : (ℕ → Bool) → Contents → Contents
without gone contents =
    record contents {
      versions = λ i. if gone i then None else contents.versions i;
      is_free = λ i. contents.is_free i || gone i;
    }

abbrev pub after_free : List EntryNo → Contents → Contents
after_free entries = without (λ i. is_listed i entries)

abbrev pub extent_of : Option Version → List Extent
extent_of None = []
extent_of (Some version) = record { first_line = version.first_line; lines = version.lines } ∷ []

-- the extents of the versions in these entries
abbrev pub extents_of : Versions → List EntryNo → List Extent
extents_of versions = flat_map (λ entry. extent_of (versions entry.0))
