-- A record that raises the floor, and says nothing else that is new: it comes before what has ended is freed, where no group's record has that floor yet.
use Rattle.std.specs.Prelude.{◌≡◌, ◌⊎◌, ℕ, ◌+◌, ◌<◌, ◌≤◌}
use Rattle.model.specs.declared.image.TheConstants.{COUNTER_LIMIT}
use Rattle.model.specs.declared.record.Record.{Record}
use Rattle.model.specs.declared.record.Role.TheVariants.{Newcomer}
use Rattle.model.specs.Group.{Contents}

-- the second record is the first, or the next one with a higher floor
abbrev pub IsRaised : Record → Record → Type 0
IsRaised r next = (next ≡ r) ⊎ ((r.floor < next.floor) × (next ≡ record r { number = r.number + 1; floor = next.floor }))

-- the contents under another record
abbrev pub under : Record → Contents → Contents
under r contents = record contents { current = r }

-- the floor rises, and the number of the record would reach the limit, or the record is a newcomer's, of which nothing ends
abbrev pub ExhaustsRaising : ℕ → Record → Type 0
ExhaustsRaising floor r = (r.floor < floor) × ((COUNTER_LIMIT ≤ r.number + 1) ⊎ (r.role ≡ Newcomer))
