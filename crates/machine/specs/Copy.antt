-- Copies of an event.
use Rattle.std.specs.Prelude.{◌≡◌, ℕ, Vec}
use Rattle.std.specs.Global.{Global}
use Rattle.machine.specs.declared.event.Event.{Event}
use Rattle.machine.specs.declared.event.Event.TheVariants.{Crash}

-- The same event. The picks of a crash are the same numbers, in a list of their own.
abbrev pub IsCopy : Event → Event → Type 0
IsCopy (Crash node call k picks) copy = (others : Vec ℕ Global) × (copy ≡ Crash node call k others) × (others.items ≡ picks.items)
IsCopy event copy = copy ≡ event
