-- Which steps of the committer do something.
use Rattle.std.specs.Prelude.{ℕ, Bool, true, false, ◌||◌, nat_le}
use Rattle.group_commit.specs.declared.due.Due.{Due}
use Rattle.group_commit.specs.declared.due.Due.TheVariants as due

-- a group that was told of is handed on where the link has room, and what has ended is freed where that is worth a step
abbrev pub does_step : Bool → Bool → Due → Bool
does_step has_room is_worth due.Nothing = false
does_step has_room is_worth due.Hand = has_room
does_step has_room is_worth due.Free = is_worth
does_step has_room is_worth _ = true

-- A free is worth it where a request waits for room (`is_short`), or where a record has this remote mark as its floor or a higher one, so that none is written for it.
abbrev pub is_free_worth : Bool → ℕ → ℕ → Bool
is_free_worth is_short remote floor = is_short || nat_le remote floor
