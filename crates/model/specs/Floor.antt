-- The floor of a record: the position up to which what has ended may have been freed. Before a version is freed that ended at p, a durable record says p or more.
use Rattle.std.specs.Prelude.{ℕ, ◌+◌, max, nat_lt, if◌then◌else◌}
use Rattle.model.specs.declared.record.Record.{Record}
use Rattle.model.specs.Group.{Contents}

-- the record with the higher one of its own floor and this
abbrev pub with_floor : ℕ → Record → Record
with_floor floor r = record r { floor = max r.floor floor }

-- the contents under it
abbrev pub floored : ℕ → Contents → Contents
floored floor contents = record contents { current = with_floor floor contents.current }

-- The record whose floor is this or more, where no group bears it: the next one if the floor rises, otherwise the current one.
abbrev pub raised_record : ℕ → Record → Record
raised_record floor r = record r { number = if nat_lt r.floor floor then r.number + 1 else r.number; floor = max r.floor floor }

-- the contents under it
abbrev pub floor_raised : ℕ → Contents → Contents
floor_raised floor contents = record contents { current = raised_record floor contents.current }
