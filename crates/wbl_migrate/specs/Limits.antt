-- Where a migration stops at the limit of a counter.
use Rattle.std.specs.Prelude.{◌⊎◌, ℕ, ◌+◌, ◌≤◌}
use Rattle.kv_types.specs.Keyspace.{Keyspace}
use Rattle.pmem.specs.Device.{State}
use Rattle.model.specs.declared.image.TheConstants.{COUNTER_LIMIT}
use Rattle.model.specs.declared.layout.Layout.TheVariants.{Version1}
use Rattle.model.specs.declared.record.Record.{Record}
use Rattle.wbl_engine.specs.Relocating.{ExhaustsRelocation}
use Rattle.wbl_engine.specs.Reopening.{ExhaustsReopening}
use Rattle.wbl_migrate.specs.Migrating.{GoesOnFrom}
use Rattle.wbl_migrate.specs.Stage.{IsMovable}
use Rattle.wbl_migrate.specs.Steps.{Leaves}
use Rattle.wbl_migrate.specs.Vacating.{StaysOldWith}

-- under a record that goes on from this one, which would be the last, the entries are emptied that version 2 does not keep
pub record IsVacatedAtLimit (lines' : ℕ) (r : Record) (s : Keyspace) (d : State) : Type 0 where
  pub current : Record
  pub goes_on : GoesOnFrom r current
  pub last : COUNTER_LIMIT ≤ current.number + 1
  pub movable : Leaves d (IsMovable Version1 lines' current s)

-- A counter of the record would reach the limit, or one of the record that an image of version 1 has come to have.
abbrev pub IsAtLimit : ℕ → Record → Keyspace → State → Type 0
IsAtLimit lines r s d =
    (ExhaustsReopening r ⊎ (COUNTER_LIMIT ≤ r.number + 1))
    ⊎ (Leaves d (StaysOldWith (λ current _. ExhaustsRelocation 1 current) lines r s) ⊎ IsVacatedAtLimit lines r s d)
