-- A copy of all records as they were at one position, which is given in parts.
use Rattle.std.specs.Prelude.{◌≡◌, ◌≢◌, ℕ, ◌+◌, ◌-◌, ◌^◌, ◌<◌, ◌≤◌, ◌⊎◌, min, List, [], ◌∷◌, length, Option, None, Some}
use Rattle.kv_types.specs.declared.record_id.RecordId.{RecordId}
use Rattle.kv_types.specs.Keyspace.{Keyspace}
use Rattle.mv_keyspace.specs.Paging.{page, rows_after, size_of}
use Rattle.mv_keyspace.specs.Table.{Table, records}
use Rattle.mv_keyspace.specs.Versions.{Versions, shown, without_pin}
use Rattle.redis_core.specs.declared.copying.Copying.{Copying}

pub record CopyOf : Type 0 where
  -- the position of the list that it is of
  pub position : ℕ
  -- the records that were live there, each with its value, in order
  pub rows : Table
  -- the last record of the part that was given last, and none before the first
  pub after : Option RecordId
  -- how many parts were given, or 2^64 - 1 if there are more
  pub parts : ℕ

-- ---- what is given

-- a copy of this table, of which nothing was given
abbrev pub begun_copy : ℕ → Table → CopyOf
begun_copy position table = record { position = position; rows = table; after = None; parts = 0 }

-- the copy from its first part again
abbrev pub restarted : CopyOf → CopyOf
restarted copy = record copy { after = None; parts = 0 }

abbrev pub restarted_copy : Option CopyOf → Option CopyOf
restarted_copy None = None
restarted_copy (Some copy) = Some (restarted copy)

-- what is still to be given
abbrev pub rest_of : CopyOf → Table
rest_of copy = rows_after copy.after copy.rows

-- the next part: as many rows as have together at most so many bytes as puts of a frame, and one at least where there is any
abbrev pub next_part : ℕ → CopyOf → Table
next_part bytes copy = page bytes (rest_of copy)

-- the last record of a part; the one before, where it has none
abbrev pub last_of : Option RecordId → Table → Option RecordId
last_of before [] = before
last_of before (row ∷ rows) = last_of (Some row.0) rows

abbrev pub one_more : ℕ → ℕ
one_more parts = min (parts + 1) (2 ^ 64 - 1)

-- the copy once its next part was given
abbrev pub after_part : ℕ → CopyOf → CopyOf
after_part bytes copy = record copy { after = last_of copy.after (next_part bytes copy); parts = one_more copy.parts }

-- These puts, the last of this record, are the next part.
pub record IsNextPart (bytes : ℕ) (copy : CopyOf) (puts : Keyspace) (last : RecordId) : Type 0 where
  pub some : rest_of copy ≢ []
  pub puts_are : puts ≡ records (next_part bytes copy)
  pub last_is : last_of copy.after (next_part bytes copy) ≡ Some last

-- ---- what a call does

-- there is no copy, or all of it was given
abbrev pub IsAllGiven : Option CopyOf → Type 0
IsAllGiven None = Unit {0}
IsAllGiven (Some copy) = rest_of copy ≡ []

-- These puts are the next part of the copy, and it is as it is after it.
abbrev pub GivesPart : ℕ → Option CopyOf → Keyspace → Option CopyOf → Type 0
GivesPart bytes None puts new = ⊥
GivesPart bytes (Some copy) puts new = (rest_of copy ≢ []) × (puts ≡ records (next_part bytes copy)) × (new ≡ Some (after_part bytes copy))

-- the position that a copy is of, with how many parts were given
abbrev pub mark_of : Option CopyOf → Option (ℕ × ℕ)
mark_of None = None
mark_of (Some copy) = Some (copy.position, copy.parts)

abbrev pub copied_at : Option CopyOf → Option ℕ
copied_at None = None
copied_at (Some copy) = Some copy.position

-- the copy, if there is one, is of a position before this one
abbrev pub IsBefore : Option CopyOf → ℕ → Type 0
IsBefore None position = Unit {0}
IsBefore (Some copy) position = copy.position < position

-- ---- the parts of a copy

-- These are the parts that are given from here on, one after another, each of at most so many bytes or of one record; behind the last there is none.
abbrev pub ArePartsOf : ℕ → CopyOf → List Table → Type 0
ArePartsOf bytes copy [] = rest_of copy ≡ []
ArePartsOf bytes copy (part ∷ parts) = (rest_of copy ≢ []) × (part ≡ next_part bytes copy) × ArePartsOf bytes (after_part bytes copy) parts

-- the part has at most so many bytes, or one record
abbrev pub IsWithin : ℕ → Table → Type 0
IsWithin bytes part = (size_of part ≤ bytes) ⊎ (length part ≡ 1)

-- ---- as the code keeps it

abbrev pub copy_of : Table → Versions → Copying → CopyOf
copy_of table past copying = record { position = copying.position; rows = shown copying.pin.position table past; after = copying.after; parts = copying.parts }

-- the copy of what a keyspace with this table and these ended versions shows
abbrev pub copy_in : Table → Versions → Option Copying → Option CopyOf
copy_in table past None = None
copy_in table past (Some copying) = Some (copy_of table past copying)

-- what is pinned for a copy
abbrev pub pins_of : Option Copying → List ℕ
pins_of None = []
pins_of (Some copying) = copying.pin.position ∷ []

-- what is pinned for it is its position, or an earlier one with nothing changed between
abbrev pub IsPinned : Option Copying → Type 0
IsPinned None = Unit {0}
IsPinned (Some copying) = copying.pin.position ≤ copying.position

-- the pins without that of a copy
abbrev pub pins_without : Option Copying → List ℕ → List ℕ
pins_without None pins = pins
pins_without (Some copying) pins = without_pin copying.pin.position pins
