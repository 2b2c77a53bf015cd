-- How much of a group the changes take that wait to be in it, and how those who wait share what is free of it.
use Rattle.std.specs.Prelude.{ℕ, ◌+◌, ◌-◌, ◌*◌, ◌/◌, ◌^◌, Bool, ◌&&◌, nat_eq, nat_lt, min, max, if◌then◌else◌}
use Rattle.model.specs.declared.group.TheConstants.{MAX_PARTS}
use Rattle.serving.specs.declared.filling.Filling.{Filling}
use Rattle.serving.specs.declared.filling.TheConstants.{MOST_LINES}
use Rattle.serving.specs.declared.needs.Need.{Need}

-- ---- lines

-- the lines of all versions that a request may put, as far as 64 bits count them
abbrev pub all_lines : Need → ℕ
all_lines need = min (need.count * max need.lines 1) (2 ^ 64 - 1)

-- those of what waits and of a request behind it
abbrev pub lines_with : Filling → Need → ℕ
lines_with filling need = min (filling.lines + all_lines need) (2 ^ 64 - 1)

-- Once groups are closed up to another position, nothing waits that was counted.
abbrev pub closed_at : Filling → ℕ → Filling
closed_at filling closed = if nat_eq filling.closed closed then filling else record { closed = closed; lines = 0 }

-- a request that may need so much has changed something
abbrev pub filled : Filling → Need → Filling
filled filling need = record filling { lines = lines_with filling need }

-- Something waits that was counted, and with what the request may need it is more than a group takes.
abbrev pub is_too_large : Filling → Need → Bool
is_too_large filling need = nat_lt 0 filling.lines && (nat_lt 0 need.count && nat_lt MOST_LINES (lines_with filling need))

-- ---- parts

-- how many parts the group has room for, where all changes up to one position are in groups, and the list is at the other
abbrev pub free_parts : ℕ → ℕ → ℕ
free_parts closed position = MAX_PARTS - (position - closed)

-- Of so many parts, what the next of so many gets who wait: an equal share, and one at least, where there is any.
abbrev pub share_of : ℕ → ℕ → ℕ
share_of free waiting = min free (max 1 (free / max waiting 1))
