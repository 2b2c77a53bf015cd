-- How many clients a process has room for.
use Rattle.std.specs.Prelude.{ℕ, ◌-◌, min, max}

-- Of the limit of open files 32 are kept. There is room for one client at least, and for no more than this.
abbrev pub room_within : ℕ → ℕ → ℕ
room_within most limit = min (max (limit - 32) 1) most
