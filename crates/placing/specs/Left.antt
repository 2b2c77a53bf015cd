-- What a heap has left, compared with the contents of an image and with a table.
use Rattle.std.specs.Prelude.{◌≡◌, ℕ, ◌+◌, ◌<◌, ◌≤◌, false, None, Some, IsTrue}
use Rattle.model.specs.declared.group.Put.{Put}
use Rattle.model.specs.Image.{Version, first_extent_line}
use Rattle.model.specs.Group.{Contents, Versions, entries_of}
use Rattle.extent_heap.specs.Room.{Room, is_free_entry, is_free_line}
use Rattle.mv_keyspace.specs.Table.{Table, IsTable}

-- the run has at least one line, and none of its lines is free
pub record HasNoFreeLine (room : Room) (first lines : ℕ) : Type 0 where
  pub some : 0 < lines
  pub none : (line : ℕ) → first ≤ line → line < first + lines → is_free_line room line ≡ false

-- neither the entry nor a line of the put is free
pub record IsTaken (room : Room) (put : Put) : Type 0 where
  pub entry : is_free_entry room put.entry.0 ≡ false
  pub lines : HasNoFreeLine room put.extent.first_line put.extent.lines

-- What the heap has left is free in the contents.
pub record IsLeftOf (contents : Contents) (room : Room) : Type 0 where
  pub entries : (i : ℕ) → IsTrue (is_free_entry room i) → (i < entries_of contents) × IsTrue (contents.is_free i) × (contents.versions i ≡ None)
  pub lines : (line : ℕ) → IsTrue (is_free_line room line) → (first_extent_line contents.lines ≤ line) × (line < contents.lines)
  pub apart : (i : ℕ) (version : Version) → contents.versions i ≡ Some version → HasNoFreeLine room version.first_line version.lines

-- the table is that of some versions, and no free entry of the heap has a version
pub record IsBeside (table : Table) (room : Room) : Type 0 where
  pub versions : Versions
  pub table_is : IsTable versions table
  pub empty : (i : ℕ) → IsTrue (is_free_entry room i) → versions i ≡ None
