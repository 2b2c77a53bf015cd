-- Adding to a number that a record holds as text (the Redis pages of INCRBY and HINCRBY).
use Rattle.std.specs.Prelude.{ℕ, ℤ, pos, ◌+ℤ◌, if◌then◌else◌, List, [], ◌∷◌, Option, Some, None}
use Rattle.std.specs.Fmt.{signed_decimal}
use Rattle.kv_types.specs.declared.record_id.RecordId.{RecordId}
use Rattle.kv_types.specs.declared.change.Change.TheVariants.{Put}
use Rattle.cmd_core.specs.declared.error.CommandError.{CommandError}
use Rattle.cmd_core.specs.declared.error.CommandError.TheVariants.{Overflow}
use Rattle.cmd_core.specs.Integer.{int_of, is_in_range}
use Rattle.cmd_core.specs.Outcome.{Outcome, Answers, Fails, Integer, on_some}

-- an absent record counts as 0
abbrev pub number_of : Option (List ℕ) → Option ℤ
number_of None = Some (pos 0)
number_of (Some value) = int_of value

abbrev pub counted : RecordId → ℤ → Outcome
counted id sum = if is_in_range sum then Answers (Integer sum) (Put id (signed_decimal sum) ∷ []) else Fails Overflow

-- an amount is added to the number of a record; the error is that of a value which is no integer
abbrev pub increased : CommandError → RecordId → Option (List ℕ) → ℤ → Outcome
increased error id value amount = on_some error (number_of value) (λ old. counted id (old +ℤ amount))
