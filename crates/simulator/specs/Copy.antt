-- Copies of an event.
use Rattle.std.specs.Prelude.{◌≡◌, ℕ, List, ◌++◌, length}
use Rattle.std.specs.List.{AllByRecursion}
use Rattle.machine.specs.declared.event.Event.{Event}
pub use Rattle.machine.specs.Copy.{IsCopy}

-- new is old, followed by this many copies of the event
abbrev pub AppendsCopies : List Event → List Event → ℕ → Event → Type 0
AppendsCopies old new times event = (copies : List Event) × (new ≡ old ++ copies) × (length copies ≡ times) × AllByRecursion (IsCopy event) copies
