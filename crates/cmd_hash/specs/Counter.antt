-- The meaning of HINCRBY (its Redis page). The arguments are the words after the name.
use Rattle.std.specs.Prelude.{ℕ, List, [], ◌∷◌}
use Rattle.kv_types.specs.declared.record_id.RecordId.TheVariants.{Field}
use Rattle.kv_types.specs.Keyspace.{Keyspace}
use Rattle.cmd_core.specs.declared.error.CommandError.TheVariants.{NotAnInteger, HashNotAnInteger}
use Rattle.cmd_core.specs.Counter.{increased}
use Rattle.cmd_core.specs.Integer.{int_of}
use Rattle.cmd_core.specs.Outcome.{Outcome, excluded, on_some}
use Rattle.cmd_hash.specs.Hash.{on_hash, value_of}

-- the amount is looked at before the key
abbrev pub hincrby : Keyspace → List (List ℕ) → Outcome
hincrby s (key ∷ field ∷ amount ∷ []) =
    on_some NotAnInteger (int_of amount) (λ n. on_hash s key (increased HashNotAnInteger (Field key field) (value_of s key field) n))
hincrby s _ = excluded
