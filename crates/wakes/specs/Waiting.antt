-- What a contract sees of the writers that wait to be woken, at each of the two ends of their list.
use Rattle.std.specs.Prelude.{◌≡◌, ℕ, ◌<◌, Bool, true, nat_le, List, [], ◌∷◌, ◌++◌, if◌then◌else◌}
use mathlib.Core.List.{IsPrefix}
use Rattle.rtrb.specs.Ring.{sent, received, known_items, IsPair}
use Rattle.wakes.specs.Place.{Place}
use Rattle.wakes.specs.declared.due.Due.{Due}
use Rattle.wakes.specs.declared.due.DueIn.{DueIn}
use Rattle.wakes.specs.declared.due.DueOut.{DueOut}

-- all writers that were ever put into the list, in order
abbrev pub put_at : DueIn → List Due
put_at due_in = sent due_in.producer

-- all writers that were ever taken out of it, in order
abbrev pub woken_at : DueOut → List Due
woken_at due_out = received due_out.consumer

-- those that were found in it and not taken out, oldest first
abbrev pub found_at : DueOut → List Due
found_at due_out = known_items due_out.consumer

-- the two ends of one list
abbrev pub AreEndsOfOne : DueIn → DueOut → Type 0
AreEndsOfOne due_in due_out = IsPair due_in.producer due_out.consumer

-- the writers up to the first that is not due
abbrev pub due_first : ℕ → List Due → List Due
due_first known [] = []
due_first known (due ∷ others) = if nat_le due.position known then due ∷ due_first known others else []

-- that one and those after it
abbrev pub not_due_first : ℕ → List Due → List Due
not_due_first known [] = []
not_due_first known (due ∷ others) = if nat_le due.position known then not_due_first known others else due ∷ others

-- the writer waits for this position, which is not known to be reached, and stands last; or nothing changed
abbrev pub MayWait : DueIn → ℕ → ℕ → Place → DueIn → Type 0
MayWait before position known writer after =
    (waits : Bool) × (waits ≡ true → known < position)
    × (put_at after ≡ put_at before ++ (if waits then record { position = position; writer = writer } ∷ [] else []))

-- a look finds these, of which all up to the first that is not due are taken out
abbrev pub WakesDue : DueOut → ℕ → DueOut → Type 0
WakesDue before known after =
    (found : List Due) × IsPrefix (found_at before) found
    × (woken_at after ≡ woken_at before ++ due_first known found) × (found_at after ≡ not_due_first known found)
