-- What a heap has left to hand out, and what a call takes from it (this project's profile of write-behind logging: extents are first fit,
-- entries lowest first).
use Rattle.std.specs.Prelude.{◌≡◌, ℕ, zero, suc, ◌+◌, ◌-◌, ◌<◌, ◌≤◌, Bool, true, false, not, ◌&&◌, ◌||◌, nat_eq, nat_le, if◌then◌else◌, IsTrue, List, length, replicate}
use Rattle.kv_types.specs.declared.place.EntryNo.{EntryNo}
use Rattle.kv_types.specs.declared.place.Extent.{Extent}
use Rattle.extent_heap.specs.Entries.{is_free, count_free}
use Rattle.extent_heap.specs.Extents.{is_line_of}
use Rattle.extent_heap.specs.Runs.{has_line, pieces, AreRuns, some_run}

-- The free lines, as runs; for each entry whether it is free; where both end; and how many extents were handed out and not yet given back.
pub record Room : Type 0 where
  pub lines : List Extent
  pub end_line : ℕ
  pub held : ℕ
  pub entries : List Bool
  pub end_entry : ℕ

-- The runs are in order and below the end, and no two of them touch: free lines in a row are one run. No entry beyond the end is told of.
pub record IsRoom (room : Room) : Type 0 where
  pub lines : AreRuns 0 (room.end_line + 1) room.lines
  pub entries : length room.entries ≡ room.end_entry

-- ---- lines

abbrev pub is_free_line : Room → ℕ → Bool
is_free_line room line = has_line room.lines line

-- `lines` consecutive lines are free, starting at `first`
abbrev pub IsFreeRun : Room → ℕ → ℕ → Type 0
IsFreeRun room first lines = (line : ℕ) → first ≤ line → line < first + lines → IsTrue (is_free_line room line)

-- how many of the lines below this one are free
abbrev pub free_lines_below : Room → ℕ → ℕ
free_lines_below room zero = 0
free_lines_below room (suc line) = (if is_free_line room line then 1 else 0) + free_lines_below room line

-- The lines of the extent are no longer free, and one more extent is out. Nothing else changed.
pub record ClaimsExtent (old : Room) (extent : Extent) (new : Room) : Type 0 where
  pub taken : (line : ℕ) → is_free_line new line ≡ (is_free_line old line && not (is_line_of extent line))
  pub held : new.held ≡ old.held + 1
  pub end_line : new.end_line ≡ old.end_line
  pub entries : new.entries ≡ old.entries
  pub end_entry : new.end_entry ≡ old.end_entry
  pub is_room : IsRoom old
  pub still_room : IsRoom new

-- The extent is the lowest run of `extent.lines` free lines, and is no longer free. Nothing else changed.
pub record TakesExtent (old : Room) (extent : Extent) (new : Room) : Type 0 where
  pub free : IsFreeRun old extent.first_line extent.lines
  pub lowest : (first : ℕ) → IsFreeRun old first extent.lines → extent.first_line ≤ first
  pub after : ClaimsExtent old extent new

-- The extent can be given back: some extent is out, and none of this one's lines is free.
pub record IsOut (room : Room) (extent : Extent) : Type 0 where
  pub some : 0 < extent.lines
  pub within : extent.first_line + extent.lines ≤ room.end_line
  pub held : 0 < room.held
  pub taken : (line : ℕ) → extent.first_line ≤ line → line < extent.first_line + extent.lines → is_free_line room line ≡ false

-- The lines of the extent are free again, and one extent fewer is out. Nothing else changed.
pub record GivesExtent (old : Room) (extent : Extent) (new : Room) : Type 0 where
  pub given : (line : ℕ) → is_free_line new line ≡ (is_free_line old line || is_line_of extent line)
  pub held : new.held ≡ old.held - 1
  pub end_line : new.end_line ≡ old.end_line
  pub entries : new.entries ≡ old.entries
  pub end_entry : new.end_entry ≡ old.end_entry
  pub still_room : IsRoom new

-- ---- entries

abbrev pub is_free_entry : Room → ℕ → Bool
is_free_entry room i = is_free room.entries i

-- The entry is no longer free. Nothing else changed.
pub record ClaimsEntry (old : Room) (entry : EntryNo) (new : Room) : Type 0 where
  pub taken : (i : ℕ) → is_free_entry new i ≡ (is_free_entry old i && not (nat_eq i entry.0))
  pub end_entry : new.end_entry ≡ old.end_entry
  pub lines : new.lines ≡ old.lines
  pub end_line : new.end_line ≡ old.end_line
  pub held : new.held ≡ old.held
  pub is_room : IsRoom old
  pub still_room : IsRoom new

-- The entry is the lowest free one, and is no longer free. Nothing else changed.
pub record TakesEntry (old : Room) (entry : EntryNo) (new : Room) : Type 0 where
  pub free : IsTrue (is_free_entry old entry.0)
  pub lowest : (i : ℕ) → IsTrue (is_free_entry old i) → entry.0 ≤ i
  pub after : ClaimsEntry old entry new

-- The entry can be given back.
pub record IsOutEntry (room : Room) (entry : EntryNo) : Type 0 where
  pub within : entry.0 < room.end_entry
  pub taken : is_free_entry room entry.0 ≡ false

-- The entry is free again. Nothing else changed.
pub record GivesEntry (old : Room) (entry : EntryNo) (new : Room) : Type 0 where
  pub given : (i : ℕ) → is_free_entry new i ≡ (is_free_entry old i || nat_eq i entry.0)
  pub end_entry : new.end_entry ≡ old.end_entry
  pub lines : new.lines ≡ old.lines
  pub end_line : new.end_line ≡ old.end_line
  pub held : new.held ≡ old.held
  pub still_room : IsRoom new

-- ---- both

-- so many entries are free, and so many extents of this many lines can be cut from the free runs
abbrev pub has_room : ℕ → ℕ → Room → Bool
has_room count lines room = nat_le count (count_free room.entries) && nat_le count (pieces lines room.lines)

-- ---- new rooms

-- all lines from `first` up to but not including `end`, and all entries below `entries`
abbrev pub fresh_room : ℕ → ℕ → ℕ → Room
fresh_room first end entries = record {
  lines = some_run (record { first_line = first; lines = end - first });
  end_line = end;
  held = 0;
  entries = replicate entries true;
  end_entry = entries;
}
