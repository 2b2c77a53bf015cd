-- A page of a table: the next of its rows, as many as fit as puts of a frame.
use Rattle.std.specs.Prelude.{ℕ, ◌+◌, ◌-◌, ◌&&◌, Bool, true, not, cond, List, [], ◌∷◌, ◌++◌, length, nat_le, nat_lt, Option, None, Some}
use Rattle.std.specs.FinMap.Entries.{where_key}
use Rattle.kv_types.specs.declared.record_id.RecordId.{RecordId}
use Rattle.kv_types.specs.declared.change.Change.TheVariants.{Put}
use Rattle.kv_types.specs.Change.{change_text}
use Rattle.kv_types.specs.Keyspace.{record_cmp}
use Rattle.cmd_core.specs.Record.{is_up_to}
use Rattle.mv_keyspace.specs.Table.{Cell, Table}

-- how many bytes a row has as a put of a frame
abbrev pub put_size : RecordId × Cell → ℕ
put_size row = length (change_text (Put row.0 row.1.value))

-- and how many the rows have together
abbrev pub size_of : Table → ℕ
size_of [] = 0
size_of (row ∷ rows) = put_size row + size_of rows

-- the record comes behind this one, in the order of records; where there is none, each does
abbrev pub is_after : Option RecordId → RecordId → Bool
is_after None other = true
is_after (Some id) other = not (is_up_to id other)

-- the rows behind a record
abbrev pub rows_after : Option RecordId → Table → Table
rows_after after = where_key record_cmp (is_after after)

-- the longest front of the rows that has at most so many bytes
abbrev pub front : ℕ → Table → Table
front room [] = []
front room (row ∷ rows) = cond (nat_le (put_size row) room) (row ∷ front (room - put_size row) rows) []

-- that front, or the first row, where it alone has more
abbrev pub page : ℕ → Table → Table
page bytes [] = []
page bytes (row ∷ rows) = cond (nat_le (put_size row) bytes) (front bytes (row ∷ rows)) (row ∷ [])

-- ---- as the code makes it

-- the rows that are there, and those of the others that come until they have more than so many bytes
abbrev pub filled : ℕ → Table → Table → Table
filled bytes done [] = done
filled bytes done (row ∷ rows) = cond (nat_lt bytes (size_of done)) done (filled bytes (done ++ row ∷ []) rows)

-- how many bytes more the rows may have, which is none where they have more than they may
abbrev pub room_left : ℕ → Table → Option ℕ
room_left bytes rows = cond (nat_lt bytes (size_of rows)) None (Some (bytes - size_of rows))

-- and how many once one of this size was put behind them
abbrev pub room_less : Option ℕ → ℕ → Option ℕ
room_less None size = None
room_less (Some room) size = cond (nat_le size room) (Some (room - size)) None

-- the record is this one or comes before it; where there is none, each does
abbrev pub is_until : Option RecordId → RecordId → Bool
is_until None other = true
is_until (Some id) other = is_up_to id other

-- the record comes behind the one, and not behind the other
abbrev pub is_within : Option RecordId → Option RecordId → RecordId → Bool
is_within after until id = is_after after id && is_until until id
