-- What a standby says to a frame of a copy.
use Rattle.std.specs.Prelude.{ℕ, nat_eq, nat_le, if◌then◌else◌, Ok, Err, Result}
use Rattle.kv_types.specs.declared.refusal.Refusal.{Refusal}
use Rattle.kv_types.specs.declared.refusal.Refusal.TheVariants.{PositionGap, WrongEpoch}
use Rattle.model.specs.declared.record.Record.{Record}

-- A frame of a copy of this epoch and position tells a standby with this record nothing new; or it is of another epoch, or of a later position.
abbrev pub judged : Record → ℕ → ℕ → Result (Unit {0}) Refusal
judged current epoch position =
    if nat_eq epoch current.epoch then (if nat_le position current.position then Ok tt else Err PositionGap) else Err WrongEpoch
