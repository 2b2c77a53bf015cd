-- The parts of free runs that lie below a line.
use Rattle.std.specs.Prelude.{ℕ, ◌+◌, ◌-◌, ◌/◌, min, Bool, ◌&&◌, nat_le, List, [], ◌∷◌}
use Rattle.kv_types.specs.declared.place.Extent.{Extent}
use Rattle.extent_heap.specs.Entries.{count_free}
use Rattle.extent_heap.specs.Room.{Room}

-- how many lines of the run lie below this line
abbrev pub lines_below : ℕ → Extent → ℕ
lines_below end run = min run.lines (end - run.first_line)

-- how many extents of so many lines can be cut from the runs, of each of which the lines below `end` count
abbrev pub pieces_below : ℕ → ℕ → List Extent → ℕ
pieces_below lines end [] = 0
pieces_below lines end (run ∷ runs) = lines_below end run / lines + pieces_below lines end runs

-- so many entries are free, and so many extents of this many lines can be cut from the free runs below `end`
abbrev pub has_room_below : ℕ → ℕ → ℕ → Room → Bool
has_room_below count lines end room = nat_le count (count_free room.entries) && nat_le count (pieces_below lines end room.lines)
